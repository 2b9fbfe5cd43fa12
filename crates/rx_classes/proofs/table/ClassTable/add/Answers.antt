use Rattle.std.proofs.Common.{◌≡◌, ◌+◌, ◌++◌, ◌∷◌, [], ◌∙◌, ℕ, List, length, ap, subst, sym, arith}
use Rattle.std.proofs.lemmas.List.{length-map}
use Rattle.rx_vars.specs.Tables.{with_entry}
use Rattle.rx_classes.specs.declared.class.Class.{Class}
use Rattle.rx_classes.specs.Natives.{first_class}
use Rattle.rx_classes.specs.Kept.{IsKept}
use Rattle.rx_classes.proofs.LinkLemmas.{kept-more}
use Rattle.rx_classes.proofs.table.ClassTable.add.Goals as goal

pub invariant_of-self-2 : goal.invariant_of-self-2
invariant_of-self-2 c =
    let count : length c.args.self.now ≡ c.len.result =
    ap length (sym c.self.view_is) ∙ length-map c.self.inside.classes.items (λ (k : Class). k.def) ∙ sym c.self.inside.classes.ok.0 ∙ sym c.len.ensures in
    subst (λ (kept : List Class). IsKept c.self.inside.native_names kept c.insert.new.self)
    (sym (c.in_ok-push.ensures.items ∙ ap (λ (kept : List Class). kept ++ c.args.class ∷ []) c.reserve.ensures.items))
    (subst (λ (table : List (List ℕ × ℕ)). IsKept c.self.inside.native_names (c.self.inside.classes.items ++ c.args.class ∷ []) table)
    (sym (c.in_ok-insert.ensures.ok ∙ ap (λ (name : List ℕ). with_entry c.self.inside.numbers name (first_class + c.len.result)) c.bytes.ensures.bytes))
    (kept-more c.self.inside.native_names c.self.inside.classes.items c.self.inside.numbers c.args.class c.args.self.now (first_class + c.len.result)
    c.self.invariant c.self.view_is c.requires.room c.requires.fits c.requires.linked (omega (arith, count))))
