-- NEW, and the INIT that it sends.
use Rattle.std.specs.Prelude.{ℕ, ◌==◌, ◌&&◌, Bool, true, false, if◌then◌else◌, List, [], ◌∷◌, codes, Option, Some, None, Ok, Err}
use Rattle.rx_tree.specs.Object.{Object}
use Rattle.rx_tree.specs.declared.value.Value.{Value}
use Rattle.rx_tree.specs.declared.value.Value.TheVariants.{Ref}
use Rattle.rx_tree.specs.declared.class.ClassDef.{ClassDef}
use Rattle.rx_tree.specs.declared.class.Scope.{Scope}
use Rattle.rx_classes.specs.declared.method.MethodId.{MethodId}
use Rattle.rx_classes.specs.declared.method.MethodId.TheVariants as id
use Rattle.rx_classes.specs.Lookup.{find}
use Rattle.rx_native.specs.declared.answer.Began.TheVariants as b
use Rattle.rx_native.specs.declared.answer.NativeAnswer.{NativeAnswer}
use Rattle.rx_native.specs.declared.answer.NativeAnswer.TheVariants as a
use Rattle.rx_native.specs.Arguments.{Arguments}
use Rattle.rx_native.specs.Methods.{object_in}
use Rattle.rx_native.specs.Outcomes.{Outcome, incorrect_method_call}
use Rattle.rx_sends.specs.Outcomes.{outcome}
use Rattle.rx_sends.specs.declared.reply.Reply.TheVariants.{Gives, Calls}
use Rattle.rx_sends.specs.Calls.{call_of}
use Rattle.rx_sends.specs.Numbers.{new_array}
use Rattle.rx_sends.specs.Refusals.{control_stack_full}
use Rattle.rx_sends.specs.Replies.{Delivery, Raises, Replies, reply_of}
use Rattle.rx_sends.specs.Settings.{Setting}

abbrev pub is_body : MethodId → Bool
is_body (id.Native number) = false
is_body (id.Body body private guarded) = true

-- whether a method that was found is one of the package
abbrev pub is_of_package : Option (Scope × MethodId) → Bool
is_of_package None = false
is_of_package (Some found) = is_body found.1

-- INIT of a class's instances. It is found also where it is private.
abbrev pub init_of : List ClassDef → ℕ → Option (Scope × MethodId)
init_of classes class = find classes class false (codes "INIT")

-- INIT of Object takes no arguments, and the new object is the answer.
abbrev pub initializes_alone : ℕ → Arguments → List Object → Delivery
initializes_alone object [] objects = Replies (Gives (Some (Ref object))) objects
initializes_alone object (argument ∷ args) objects = Raises incorrect_method_call objects

abbrev pub initializes_by : List ClassDef → ℕ → ℕ → Arguments → List Object → Scope → MethodId → Delivery
initializes_by classes class object args objects scope (id.Native number) = initializes_alone object args objects
initializes_by classes class object args objects scope (id.Body body private guarded) =
    Replies (Calls (call_of classes class object (record { scope = scope; body = body; guarded = guarded }) args true)) objects

-- INIT is sent to a new object of a class: a method of the package is begun, and gives the object whatever it ends with.
abbrev pub initializes : List ClassDef → ℕ → Option (Scope × MethodId) → ℕ → Arguments → List Object → Delivery
initializes classes class None object args objects = initializes_alone object args objects
initializes classes class (Some found) object args objects = initializes_by classes class object args objects found.0 found.1

-- The arguments of NEW are those of INIT, but the class Array's own NEW takes them itself.
abbrev pub init_args : ℕ → Arguments → Arguments
init_args id args = if id == new_array then [] else args

abbrev pub new_by : (ℕ → List Object → Delivery) → NativeAnswer → List Object → Delivery
new_by init (a.Begin (b.New object)) after = init object after
new_by init (a.Begin (b.Start message)) after = Replies (reply_of (a.Begin (b.Start message))) after
new_by init (a.Value value) after = Replies (reply_of (a.Value value)) after
new_by init a.Nothing after = Replies (reply_of a.Nothing) after

abbrev pub new_after : (ℕ → List Object → Delivery) → List Object → Outcome → Delivery
new_after init objects (Ok made) = new_by init made.0 made.1
new_after init objects (Err number) = Raises number objects

-- INIT is sent to an object that NEW of a class has made
abbrev pub sends_init : List ClassDef → ℕ → Option (Scope × MethodId) → ℕ → Arguments → ℕ → List Object → Delivery
sends_init classes class init id args object after = initializes classes class init object (init_args id args) after

-- NEW makes the object and sends it INIT. Where INIT is a method of the package and there is no room for its frame, 11 is raised before
-- anything is made.
abbrev pub news : Setting → List Object → Value → ℕ → Arguments → Delivery
news setting objects target id args =
    let class = object_in target in
    let init = init_of setting.classes class in
    if setting.sender.is_deep && is_of_package init then Raises control_stack_full objects
    else new_after (sends_init setting.classes class init id args) objects (outcome setting objects target id args)
