-- What NEW and other native methods come to, by the tests that were passed.
use Rattle.std.proofs.Common.{◌≡◌, ℕ, Bool, true, false, List, Option, Some, None, sym, ap, ◌∙◌, subst}
use Rattle.std.specs.Prelude.{◌&&◌, not, if◌then◌else◌, IfOk, IfSome, IsTrue, is_some, Result, Ok, Err}
use Rattle.std.specs.Option.{option_map_or}
use Rattle.rx_tree.specs.Object.{Object}
use Rattle.rx_tree.specs.declared.value.Value.{Value}
use Rattle.rx_native.specs.declared.answer.NativeAnswer.{NativeAnswer}
use Rattle.rx_native.specs.declared.answer.NativeRefused.{NativeRefused}
use Rattle.rx_native.specs.declared.method.Method.{Method}
use Rattle.rx_native.specs.Answers.{Answers}
use Rattle.rx_native.specs.Arguments.{Arguments}
use Rattle.rx_native.specs.Methods.{answer_of, is_built, method_numbered, object_in}
use Rattle.rx_native.specs.Outcomes.{Outcome, incorrect_method_call, resources_exhausted}
use Rattle.rx_tree.specs.declared.class.Scope.{Scope}
use Rattle.rx_classes.specs.declared.method.MethodId.{MethodId}
use Rattle.rx_sends.specs.declared.refused.SendRefused.{SendRefused}
use Rattle.rx_sends.specs.declared.refused.SendRefused.TheVariants as refused
use Rattle.rx_sends.specs.declared.reply.Reply.{Reply}
use Rattle.rx_sends.specs.Making.{init_of, is_of_package, new_after, new_by, news, sends_init}
use Rattle.rx_sends.specs.Native.{native_after, natives, without_method}
use Rattle.rx_sends.specs.Numbers.{is_new, is_start}
use Rattle.rx_sends.specs.Outcomes.{outcome}
use Rattle.rx_sends.specs.Refusals.{control_stack_full}
use Rattle.rx_sends.specs.Replies.{Comes, Delivers, Delivery, Raises}
use Rattle.rx_sends.specs.Settings.{Setting}

-- a method that is there comes to what it comes to in its class
outcome-by : (result : Result NativeAnswer NativeRefused) (before after : List Object) (of : Method → Outcome) (method : Option Method)
    → IsTrue (is_some method) → IfSome method (λ (m : Method). Answers result before after (of m))
    → Answers result before after (option_map_or of method (Err incorrect_method_call))
outcome-by result before after of None built answers = cc
outcome-by result before after of (Some method) built answers = answers

pub outcome-answers : (result : Result NativeAnswer NativeRefused) (before after : List Object) (setting : Setting) (target : Value) (id : ℕ) (args : Arguments)
    → IsTrue (is_built id)
    → IfSome (method_numbered id) (λ (m : Method). Answers result before after (answer_of m setting.facts setting.classes before target args))
    → Answers result before after (outcome setting before target id args)
outcome-answers result before after setting target id args built answers =
    outcome-by result before after (λ (m : Method). answer_of m setting.facts setting.classes before target args) (method_numbered id) built answers

-- ---- NEW

-- the tests that NEW makes, of the class and the INIT that were found
abbrev pub lacks_room : Setting → Option (Scope × MethodId) → Bool
lacks_room setting init = setting.sender.is_deep && is_of_package init

news-by : (setting : Setting) (objects : List Object) (target : Value) (id : ℕ) (args : Arguments) (class : ℕ) (init : Option (Scope × MethodId)) (lacks : Bool)
    → class ≡ object_in target → init ≡ init_of setting.classes class → lacks ≡ lacks_room setting init
    → news setting objects target id args
    ≡ (if lacks then Raises control_stack_full objects
    else new_after (sends_init setting.classes class init id args) objects (outcome setting objects target id args))
news-by setting objects target id args class init lacks class_is init_is lacks_is =
    ap (λ (c : ℕ). if lacks_room setting (init_of setting.classes c) then Raises control_stack_full objects
    else new_after (sends_init setting.classes c (init_of setting.classes c) id args) objects (outcome setting objects target id args)) (sym class_is)
    ∙ (ap (λ (i : Option (Scope × MethodId)). if lacks_room setting i then Raises control_stack_full objects
    else new_after (sends_init setting.classes class i id args) objects (outcome setting objects target id args)) (sym init_is)
    ∙ ap (λ (b : Bool). if b then Raises control_stack_full objects
    else new_after (sends_init setting.classes class init id args) objects (outcome setting objects target id args)) (sym lacks_is))

pub new-full : (setting : Setting) (objects : List Object) (target : Value) (id : ℕ) (args : Arguments) (class : ℕ) (init : Option (Scope × MethodId)) (lacks : Bool)
    → class ≡ object_in target → init ≡ init_of setting.classes class → lacks ≡ lacks_room setting init → lacks ≡ true
    → news setting objects target id args ≡ Raises control_stack_full objects
new-full setting objects target id args class init lacks class_is init_is lacks_is full =
    news-by setting objects target id args class init lacks class_is init_is lacks_is
    ∙ ap (λ (b : Bool). if b then Raises control_stack_full objects
    else new_after (sends_init setting.classes class init id args) objects (outcome setting objects target id args)) full

new-room : (setting : Setting) (objects : List Object) (target : Value) (id : ℕ) (args : Arguments) (class : ℕ) (init : Option (Scope × MethodId)) (lacks : Bool)
    → class ≡ object_in target → init ≡ init_of setting.classes class → lacks ≡ lacks_room setting init → lacks ≡ false
    → news setting objects target id args ≡ new_after (sends_init setting.classes class init id args) objects (outcome setting objects target id args)
new-room setting objects target id args class init lacks class_is init_is lacks_is room =
    news-by setting objects target id args class init lacks class_is init_is lacks_is
    ∙ ap (λ (b : Bool). if b then Raises control_stack_full objects
    else new_after (sends_init setting.classes class init id args) objects (outcome setting objects target id args)) room

-- NEW has given an answer, and what is made of it is what the message comes to
pub new-made : (setting : Setting) (objects after : List Object) (target : Value) (id : ℕ) (args slice : Arguments) (class : ℕ) (init : Option (Scope × MethodId))
    (lacks : Bool) (called : Result NativeAnswer SendRefused) (answer : NativeAnswer) (result : Result Reply SendRefused)
    → class ≡ object_in target → init ≡ init_of setting.classes class → lacks ≡ lacks_room setting init → lacks ≡ false → slice ≡ args
    → called ≡ Ok answer → Comes called objects after (outcome setting objects target id slice)
    → Delivers result after (new_by (sends_init setting.classes class init id args) answer after)
    → Delivers result after (news setting objects target id args)
new-made setting objects after target id args slice class init lacks called answer result class_is init_is lacks_is room same is comes delivers =
    let made : outcome setting objects target id args ≡ Ok (answer, after) =
    ap (outcome setting objects target id) (sym same)
    ∙ subst (λ (r : Result NativeAnswer SendRefused). IfOk r (λ (a : NativeAnswer). outcome setting objects target id slice ≡ Ok (a, after))) is comes.answer in
    subst (Delivers result after)
    (sym (new-room setting objects target id args class init lacks class_is init_is lacks_is room
    ∙ ap (new_after (sends_init setting.classes class init id args) objects) made)) delivers

-- NEW was refused
pub new-refused : (setting : Setting) (objects after : List Object) (target : Value) (id : ℕ) (args slice : Arguments) (class : ℕ) (init : Option (Scope × MethodId))
    (lacks : Bool) (called : Result NativeAnswer SendRefused) (why : SendRefused)
    → class ≡ object_in target → init ≡ init_of setting.classes class → lacks ≡ lacks_room setting init → lacks ≡ false → slice ≡ args
    → called ≡ Err why → Comes called objects after (outcome setting objects target id slice)
    → Delivers (Err why) after (news setting objects target id args)
new-refused setting objects after target id args slice class init lacks called why class_is init_is lacks_is room same is comes = record {
  reply = tt;
  raised = λ number error.
      let e : why ≡ refused.Raised number = cc in
      let raised : (outcome setting objects target id slice ≡ Err number) × (after ≡ objects) =
      comes.raised number (is ∙ ap (λ (w : SendRefused). Err w) e) in
      new-room setting objects target id args class init lacks class_is init_is lacks_is room
      ∙ (ap (new_after (sends_init setting.classes class init id args) objects)
      (ap (outcome setting objects target id) (sym same) ∙ raised.0) ∙ ap (Raises number) (sym raised.1));
  no_method = λ error. let e : why ≡ refused.NoMethod = cc in absurd (comes.no_method (is ∙ ap (λ (w : SendRefused). Err w) e));
}

-- ---- other native methods

abbrev pub starts_full : Setting → ℕ → Bool
starts_full setting id = setting.sender.is_full && is_start id

-- by the three tests
abbrev by : Setting → List Object → Value → ℕ → Arguments → Bool → Bool → Bool → Delivery
by setting objects target id args lacking made full =
    if lacking then without_method id objects
    else if made then news setting objects target id args
    else if full then Raises resources_exhausted objects
    else native_after objects (outcome setting objects target id args)

pub natives-plain : (setting : Setting) (objects after : List Object) (target : Value) (id : ℕ) (args slice : Arguments) (built made full : Bool)
    (result : Result Reply SendRefused) → built ≡ is_built id → built ≡ true → made ≡ is_new id → made ≡ false → full ≡ starts_full setting id → full ≡ false
    → slice ≡ args → Delivers result after (native_after objects (outcome setting objects target id slice))
    → Delivers result after (natives setting objects target id args)
natives-plain setting objects after target id args slice built made full result built_is is_there made_is isnt_new full_is room same delivers =
    subst (Delivers result after)
    (ap (λ (a : Arguments). native_after objects (outcome setting objects target id a)) same
    ∙ sym (ap (λ (b : Bool). by setting objects target id args (not b) (is_new id) (starts_full setting id)) (sym built_is ∙ is_there)
    ∙ (ap (λ (m : Bool). by setting objects target id args false m (starts_full setting id)) (sym made_is ∙ isnt_new)
    ∙ ap (λ (f : Bool). by setting objects target id args false false f) (sym full_is ∙ room))))
    delivers
