-- What a message comes to.
use Rattle.std.specs.Prelude.{ℕ, ◌==◌, ◌&&◌, nat_lt, if◌then◌else◌, List, [], ◌∷◌, false, length, Some}
use Rattle.rx_tree.specs.Object.{Object, Places}
use Rattle.rx_tree.specs.declared.value.Value.{Value}
use Rattle.rx_tree.specs.declared.value.Value.TheVariants.{Str, Ref}
use Rattle.rx_tree.specs.declared.class.ClassDef.{ClassDef}
use Rattle.rx_tree.specs.declared.class.Scope.{Scope}
use Rattle.rx_classes.specs.declared.method.MethodId.{MethodId}
use Rattle.rx_classes.specs.declared.method.MethodId.TheVariants as id
use Rattle.rx_classes.specs.Natives.{array_class}
use Rattle.rx_heap.specs.Arrays.{most_places}
use Rattle.rx_heap.specs.Objects.{most_objects}
use Rattle.rx_native.specs.Arguments.{Arguments}
use Rattle.rx_native.specs.Fitting.{IsReached}
use Rattle.rx_native.specs.Methods.{object_in}
use Rattle.rx_native.specs.Outcomes.{incorrect_method_call, next_number, resources_exhausted, with_object}
use Rattle.rx_native.specs.Targets.{target_scope}
use Rattle.rx_sends.specs.declared.call.PackageMethod.{PackageMethod}
use Rattle.rx_sends.specs.declared.parts.Sent.{Sent}
use Rattle.rx_sends.specs.declared.reaching.Reached.{Reached}
use Rattle.rx_sends.specs.declared.reaching.Reached.TheVariants as r
use Rattle.rx_sends.specs.declared.reply.Reply.TheVariants.{Calls}
use Rattle.rx_sends.specs.declared.sender.Sender.{Sender}
use Rattle.rx_sends.specs.Calls.{call_of}
use Rattle.rx_sends.specs.Making.{is_body}
use Rattle.rx_sends.specs.Native.{natives}
use Rattle.rx_sends.specs.Reaching.{reached}
use Rattle.rx_sends.specs.Refusals.{control_stack_full}
use Rattle.rx_sends.specs.Replies.{Delivery, NoMethod, Raises, Replies}
use Rattle.rx_sends.specs.Settings.{Setting}

-- ---- a method

-- A native method is one that the receiver reaches.
abbrev pub IsReachedBy : List ClassDef → List Object → Value → MethodId → Type 0
IsReachedBy classes objects target (id.Native number) = IsReached classes objects target number
IsReachedBy classes objects target (id.Body body private guarded) = Unit {0}

-- A method of the package is begun, unless the activity has 1,000 frames.
abbrev pub begins : List ClassDef → Sender → List Object → Value → PackageMethod → Arguments → Delivery
begins classes sender objects target method args =
    if sender.is_deep then Raises control_stack_full objects
    else Replies (Calls (call_of classes (target_scope objects target).class (object_in target) method args false)) objects

-- what a method comes to that a receiver reaches
abbrev pub performs : Setting → List Object → Value → Arguments → Scope → MethodId → Delivery
performs setting objects target args scope (id.Native number) = natives setting objects target number args
performs setting objects target args scope (id.Body body private guarded) =
    begins setting.classes setting.sender objects target (record { scope = scope; body = body; guarded = guarded }) args

-- ---- UNKNOWN

-- the arguments of UNKNOWN: the message's name, and an Array of its arguments
abbrev pub unknown_args : List ℕ → ℕ → Arguments
unknown_args name array = Some (Str name) ∷ Some (Ref array) ∷ []

-- The Array is made first. Where the message has too many arguments for one, or UNKNOWN can't be begun, or there are as many objects as
-- there may be, the error is raised in its place.
abbrev pub unknowns : Setting → List Object → Sent → Scope → MethodId → Delivery
unknowns setting objects sent scope method =
    if nat_lt most_places (length sent.args) then Raises incorrect_method_call objects
    else if setting.sender.is_deep && is_body method then Raises control_stack_full objects
    else if length objects == most_objects then Raises resources_exhausted objects
    else performs setting (with_object objects array_class (Places sent.args)) sent.target (unknown_args sent.name (next_number objects)) scope method

-- ---- a message

abbrev pub delivery_by : Setting → List Object → Sent → Reached → Delivery
delivery_by setting objects sent (r.Method scope method) = performs setting objects sent.target sent.args scope method
delivery_by setting objects sent (r.Unknown scope method) = unknowns setting objects sent scope method
delivery_by setting objects sent r.NotInOrder = Raises incorrect_method_call objects
delivery_by setting objects sent r.NoMethod = NoMethod objects

-- What a message comes to: what the method does that it reaches.
abbrev pub delivery : Setting → List Object → Sent → Delivery
delivery setting objects sent = delivery_by setting objects sent (reached setting.classes objects setting.sender.object sent)
