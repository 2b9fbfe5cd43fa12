use Rattle.std.proofs.Common.{◌≡◌, ℕ, false, sym, subst}
use Rattle.rx_classes.specs.Classes.{IsClass, is_mixin}
use Rattle.rx_classes.proofs.WayLemmas.{base-class, base-plain}
use Rattle.rx_classes.proofs.table.ClassTable.base.Goals as goal

pub returns-in-Some-clause-plain : goal.returns-in-Some-clause-plain
returns-in-Some-clause-plain c =
    subst (λ (n : ℕ). is_mixin c.args.self.now n ≡ false) (sym c.in-Some.ensures.linked.base)
    (base-plain c.args.self.now c.args.class c.in-Some.kept.now.def c.kept.ensures.installed (sym c.in-Some.ensures.def))

pub returns-in-Some-clause-class : goal.returns-in-Some-clause-class
returns-in-Some-clause-class c =
    subst (λ (n : ℕ). IsClass c.args.self.now n) (sym c.in-Some.ensures.linked.base)
    (base-class c.args.self.now c.args.class c.requires)
