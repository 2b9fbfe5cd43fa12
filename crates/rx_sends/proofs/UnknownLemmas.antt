-- What goes to UNKNOWN, by the tests that were passed.
use Rattle.std.proofs.Common.{◌≡◌, ℕ, Bool, true, false, List, length, sym, ap, ◌∙◌, subst}
use Rattle.std.specs.Prelude.{◌==◌, ◌&&◌, nat_lt, if◌then◌else◌, Result, Err}
use Rattle.rx_tree.specs.Object.{Object, Places}
use Rattle.rx_tree.specs.declared.class.Scope.{Scope}
use Rattle.rx_classes.specs.declared.method.MethodId.{MethodId}
use Rattle.rx_classes.specs.Natives.{array_class}
use Rattle.rx_heap.specs.Arrays.{most_places}
use Rattle.rx_heap.specs.Objects.{most_objects}
use Rattle.rx_native.specs.Arguments.{Arguments}
use Rattle.rx_native.specs.Outcomes.{incorrect_method_call, next_number, resources_exhausted, with_object}
use Rattle.rx_sends.specs.declared.parts.Sent.{Sent}
use Rattle.rx_sends.specs.declared.refused.SendRefused.{SendRefused}
use Rattle.rx_sends.specs.declared.refused.SendRefused.TheVariants as refused
use Rattle.rx_sends.specs.declared.reply.Reply.{Reply}
use Rattle.rx_sends.specs.Delivering.{performs, unknown_args, unknowns}
use Rattle.rx_sends.specs.Making.{is_body}
use Rattle.rx_sends.specs.Refusals.{control_stack_full}
use Rattle.rx_sends.specs.Replies.{Delivers, Delivery, Raises}
use Rattle.rx_sends.specs.Settings.{Setting}

-- by the three tests
abbrev by : Setting → List Object → Sent → Scope → MethodId → Bool → Bool → Bool → Delivery
by setting objects sent scope method many lacks full =
    if many then Raises incorrect_method_call objects
    else if lacks then Raises control_stack_full objects
    else if full then Raises resources_exhausted objects
    else performs setting (with_object objects array_class (Places sent.args)) sent.target (unknown_args sent.name (next_number objects)) scope method

abbrev pub has_many : Arguments → Bool
has_many args = nat_lt most_places (length args)

abbrev pub lacks_room : Setting → MethodId → Bool
lacks_room setting method = setting.sender.is_deep && is_body method

pub unknowns-many : (setting : Setting) (objects : List Object) (sent : Sent) (scope : Scope) (method : MethodId) (args : Arguments) (many : Bool)
    → args ≡ sent.args → many ≡ has_many args → many ≡ true → unknowns setting objects sent scope method ≡ Raises incorrect_method_call objects
unknowns-many setting objects sent scope method args many same many_is is =
    ap (λ (m : Bool). by setting objects sent scope method m (lacks_room setting method) (length objects == most_objects))
    (ap has_many (sym same) ∙ (sym many_is ∙ is))

pub unknowns-deep : (setting : Setting) (objects : List Object) (sent : Sent) (scope : Scope) (method : MethodId) (args : Arguments) (many lacks : Bool)
    → args ≡ sent.args → many ≡ has_many args → many ≡ false → lacks ≡ lacks_room setting method → lacks ≡ true
    → unknowns setting objects sent scope method ≡ Raises control_stack_full objects
unknowns-deep setting objects sent scope method args many lacks same many_is few lacks_is is =
    ap (λ (m : Bool). by setting objects sent scope method m (lacks_room setting method) (length objects == most_objects))
    (ap has_many (sym same) ∙ (sym many_is ∙ few))
    ∙ ap (λ (l : Bool). by setting objects sent scope method false l (length objects == most_objects)) (sym lacks_is ∙ is)

unknowns-by : (setting : Setting) (objects : List Object) (sent : Sent) (scope : Scope) (method : MethodId) (args : Arguments) (many lacks full : Bool)
    → args ≡ sent.args → many ≡ has_many args → many ≡ false → lacks ≡ lacks_room setting method → lacks ≡ false → (length objects == most_objects) ≡ full
    → unknowns setting objects sent scope method ≡ by setting objects sent scope method false false full
unknowns-by setting objects sent scope method args many lacks full same many_is few lacks_is room full_is =
    ap (λ (m : Bool). by setting objects sent scope method m (lacks_room setting method) (length objects == most_objects))
    (ap has_many (sym same) ∙ (sym many_is ∙ few))
    ∙ (ap (λ (l : Bool). by setting objects sent scope method false l (length objects == most_objects)) (sym lacks_is ∙ room)
    ∙ ap (λ (f : Bool). by setting objects sent scope method false false f) full_is)

pub unknowns-refused : (setting : Setting) (objects after : List Object) (sent : Sent) (scope : Scope) (method : MethodId) (args : Arguments) (many lacks : Bool)
    (made : Result ℕ SendRefused) (why : SendRefused)
    → args ≡ sent.args → many ≡ has_many args → many ≡ false → lacks ≡ lacks_room setting method → lacks ≡ false → made ≡ Err why
    → ((number : ℕ) → made ≡ Err (refused.Raised number)
    → ((length objects == most_objects) ≡ true) × (number ≡ resources_exhausted) × (after ≡ objects))
    → (made ≡ Err refused.NoMethod → ⊥)
    → Delivers (Err why) after (unknowns setting objects sent scope method)
unknowns-refused setting objects after sent scope method args many lacks made why same many_is few lacks_is room is raised there = record {
  reply = tt;
  raised = λ number error.
      let e : why ≡ refused.Raised number = cc in
      let of : ((length objects == most_objects) ≡ true) × (number ≡ resources_exhausted) × (after ≡ objects) =
      raised number (is ∙ ap (λ (w : SendRefused). Err w) e) in
      unknowns-by setting objects sent scope method args many lacks true same many_is few lacks_is room of.0
      ∙ (ap (λ (n : ℕ). Raises n objects) (sym of.1) ∙ ap (Raises number) (sym of.2));
  no_method = λ error. let e : why ≡ refused.NoMethod = cc in absurd (there (is ∙ ap (λ (w : SendRefused). Err w) e));
}

pub unknowns-passed : (setting : Setting) (objects after : List Object) (sent : Sent) (scope : Scope) (method : MethodId) (args places : Arguments)
    (many lacks : Bool) (array : ℕ) (result : Result Reply SendRefused) (last : List Object)
    → args ≡ sent.args → places ≡ sent.args → many ≡ has_many args → many ≡ false → lacks ≡ lacks_room setting method → lacks ≡ false
    → (length objects == most_objects) ≡ false → array ≡ next_number objects → after ≡ with_object objects array_class (Places places)
    → Delivers result last (performs setting after sent.target (unknown_args sent.name array) scope method)
    → Delivers result last (unknowns setting objects sent scope method)
unknowns-passed setting objects after sent scope method args places many lacks array result last same places_are many_is few lacks_is room free number made delivers =
    subst (Delivers result last)
    (ap (λ (os : List Object). performs setting os sent.target (unknown_args sent.name array) scope method)
    (made ∙ ap (λ (a : Arguments). with_object objects array_class (Places a)) places_are)
    ∙ (ap (λ (n : ℕ). performs setting (with_object objects array_class (Places sent.args)) sent.target (unknown_args sent.name n) scope method) number
    ∙ sym (unknowns-by setting objects sent scope method args many lacks false same many_is few lacks_is room free)))
    delivers
