use Rattle.std.proofs.Common.{ℕ, List, [], None, Some, true, false, ◌∙◌, ap, subst, sym}
use Rattle.std.specs.Prelude.{find, is_none, is_some, not, option_map}
use Rattle.rx_tree.specs.declared.class.MethodDef.{MethodDef}
use Rattle.rx_classes.specs.declared.method.DefineRefused.TheVariants as r
use Rattle.rx_classes.specs.Classes.{class_named}
use Rattle.rx_classes.specs.Orders.{order}
use Rattle.rx_classes.specs.Installing.{has_base, repeated_method}
use Rattle.rx_classes.specs.Kept.{IsCaused}
use Rattle.rx_classes.proofs.ClassLemmas.{class_named-below}
use Rattle.rx_classes.proofs.RefusalLemmas.{baseless-is, caused-by, closed-is, missing-none, repeated-class, repeated-methods, refusal-baseless, refusal-closed, refusal-fit, refusal-repeated}
use Rattle.rx_classes.proofs.table.ClassTable.admit.Goals as goal

pub baseless_name-requires : goal.baseless_name-requires
baseless_name-requires c = class_named-below c.args.self.now c.bytes.result.now c.in-Some.parent (sym c.in-Some.ensures.number)

pub returns-in-Some-baseless_name-clause-cause : goal.returns-in-Some-baseless_name-clause-cause
returns-in-Some-baseless_name-clause-cause c =
    let named = sym (c.in-Some.ensures.number ∙ ap (class_named c.args.self.now) c.bytes.ensures.bytes) in
    refusal-baseless c.args.self.now c.args.def.now c.in-Some-baseless_name.name.now
    (missing-none c.args.self.now c.args.def.now c.in-Some.parent named
    (ap (λ (names : List (List ℕ)). find (λ (name : List ℕ). is_none (class_named c.args.self.now name)) names) (sym c.as_slice.ensures) ∙ sym c.in_default-unknown_name.ensures))
    (sym c.in_default-no_mixin_name.ensures)
    (sym (baseless-is c.args.self.now c.args.def.now c.in-Some.parent (Some c.in-Some-baseless_name.name.now) named
    (c.in-Some-baseless_name.ensures
    ∙ ap (λ (names : List (List ℕ)). find (λ (name : List ℕ). not (has_base c.args.self.now (order c.args.self.now c.in-Some.parent) name)) names) c.as_slice-2.ensures)))
    ∙ ap (λ (name : List ℕ). Some (r.BaseMissing name)) (sym c.in_ok-share-4.ensures.same)

pub returns-then-is_some-clause-cause : goal.returns-then-is_some-clause-cause
returns-then-is_some-clause-cause c =
    let named = sym (c.in-Some.ensures.number ∙ ap (class_named c.args.self.now) c.bytes.ensures.bytes) in
    refusal-repeated c.args.self.now c.args.def.now c.args.def.now.name
    (missing-none c.args.self.now c.args.def.now c.in-Some.parent named
    (ap (λ (names : List (List ℕ)). find (λ (name : List ℕ). is_none (class_named c.args.self.now name)) names) (sym c.as_slice.ensures) ∙ sym c.in_default-unknown_name.ensures))
    (sym c.in_default-no_mixin_name.ensures)
    (sym (baseless-is c.args.self.now c.args.def.now c.in-Some.parent None named
    (c.in_default-baseless_name.ensures
    ∙ ap (λ (names : List (List ℕ)). find (λ (name : List ℕ). not (has_base c.args.self.now (order c.args.self.now c.in-Some.parent) name)) names) c.as_slice-2.ensures)))
    (repeated-class c.args.self.now c.args.def.now (ap is_some (ap (class_named c.args.self.now) (sym c.bytes-2.ensures.bytes) ∙ sym c.class_named-2.ensures.number) ∙ sym c.is_some.ensures ∙ c.if-is_some.true))
    ∙ ap (λ (name : List ℕ). Some (r.Twice name)) (sym c.in_ok-share-5.ensures.same)

pub returns-in-Err-clause-cause : goal.returns-in-Err-clause-cause
returns-in-Err-clause-cause c =
    let named = sym (c.in-Some.ensures.number ∙ ap (class_named c.args.self.now) c.bytes.ensures.bytes) in
    let free = repeated-methods c.args.self.now c.args.def.now (ap is_some (ap (class_named c.args.self.now) (sym c.bytes-2.ensures.bytes) ∙ sym c.class_named-2.ensures.number) ∙ sym c.is_some.ensures ∙ c.if-is_some.false) in
    caused-by (repeated_method [] c.args.def.now.methods) _ c.in-Err.refused
    (λ name is.
    refusal-repeated c.args.self.now c.args.def.now name
    (missing-none c.args.self.now c.args.def.now c.in-Some.parent named
    (ap (λ (names : List (List ℕ)). find (λ (name : List ℕ). is_none (class_named c.args.self.now name)) names) (sym c.as_slice.ensures) ∙ sym c.in_default-unknown_name.ensures))
    (sym c.in_default-no_mixin_name.ensures)
    (sym (baseless-is c.args.self.now c.args.def.now c.in-Some.parent None named
    (c.in_default-baseless_name.ensures
    ∙ ap (λ (names : List (List ℕ)). find (λ (name : List ℕ). not (has_base c.args.self.now (order c.args.self.now c.in-Some.parent) name)) names) c.as_slice-2.ensures)))
    (free ∙ is))
    (subst (λ (methods : List MethodDef). IsCaused (option_map r.Twice (repeated_method [] methods)) c.in-Err.refused) c.as_slice-3.ensures c.in-Err.ensures.twice)

pub returns-then-is_closed-clause-cause : goal.returns-then-is_closed-clause-cause
returns-then-is_closed-clause-cause c =
    let named = sym (c.in-Some.ensures.number ∙ ap (class_named c.args.self.now) c.bytes.ensures.bytes) in
    refusal-closed c.args.self.now c.args.def.now c.args.def.now.parent
    (missing-none c.args.self.now c.args.def.now c.in-Some.parent named
    (ap (λ (names : List (List ℕ)). find (λ (name : List ℕ). is_none (class_named c.args.self.now name)) names) (sym c.as_slice.ensures) ∙ sym c.in_default-unknown_name.ensures))
    (sym c.in_default-no_mixin_name.ensures)
    (sym (baseless-is c.args.self.now c.args.def.now c.in-Some.parent None named
    (c.in_default-baseless_name.ensures
    ∙ ap (λ (names : List (List ℕ)). find (λ (name : List ℕ). not (has_base c.args.self.now (order c.args.self.now c.in-Some.parent) name)) names) c.as_slice-2.ensures)))
    (repeated-methods c.args.self.now c.args.def.now (ap is_some (ap (class_named c.args.self.now) (sym c.bytes-2.ensures.bytes) ∙ sym c.class_named-2.ensures.number) ∙ sym c.is_some.ensures ∙ c.if-is_some.false)
    ∙ ap (repeated_method []) (sym c.as_slice-3.ensures) ∙ c.in-Ok.ensures.once)
    (closed-is c.args.self.now c.args.def.now c.in-Some.parent true named (sym c.is_closed.ensures ∙ c.if-is_closed.true))
    ∙ ap (λ (name : List ℕ). Some (r.Closed name)) (sym c.in_ok-share-6.ensures.same)

pub returns-clause-fits : goal.returns-clause-fits
returns-clause-fits c =
    let named = sym (c.in-Some.ensures.number ∙ ap (class_named c.args.self.now) c.bytes.ensures.bytes) in
    refusal-fit c.args.self.now c.args.def.now
    (missing-none c.args.self.now c.args.def.now c.in-Some.parent named
    (ap (λ (names : List (List ℕ)). find (λ (name : List ℕ). is_none (class_named c.args.self.now name)) names) (sym c.as_slice.ensures) ∙ sym c.in_default-unknown_name.ensures))
    (sym c.in_default-no_mixin_name.ensures)
    (sym (baseless-is c.args.self.now c.args.def.now c.in-Some.parent None named
    (c.in_default-baseless_name.ensures
    ∙ ap (λ (names : List (List ℕ)). find (λ (name : List ℕ). not (has_base c.args.self.now (order c.args.self.now c.in-Some.parent) name)) names) c.as_slice-2.ensures)))
    (repeated-methods c.args.self.now c.args.def.now (ap is_some (ap (class_named c.args.self.now) (sym c.bytes-2.ensures.bytes) ∙ sym c.class_named-2.ensures.number) ∙ sym c.is_some.ensures ∙ c.if-is_some.false)
    ∙ ap (repeated_method []) (sym c.as_slice-3.ensures) ∙ c.in-Ok.ensures.once)
    (closed-is c.args.self.now c.args.def.now c.in-Some.parent false named (sym c.is_closed.ensures ∙ c.if-is_closed.false))
