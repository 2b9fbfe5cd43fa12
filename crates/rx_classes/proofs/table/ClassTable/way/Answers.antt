use Rattle.std.proofs.Common.{sym, arith}
use Rattle.rx_classes.proofs.WayLemmas.{above-class, object-above, same-above}
use Rattle.rx_classes.proofs.table.ClassTable.way.Goals as goal

pub returns-in-Some-clause-class : goal.returns-in-Some-clause-class
returns-in-Some-clause-class c =
    above-class c.args.self.now c.in-Some.kept.now.above c.args.class c.in-Some.ensures.linked.above c.requires

pub returns-in-None-clause-above : goal.returns-in-None-clause-above
returns-in-None-clause-above c = object-above c.args.self.now c.args.class (sym c.in-None.ensures.def) c.if-class-gt-OBJECT.true

pub returns-in-None-2-clause-above : goal.returns-in-None-2-clause-above
returns-in-None-2-clause-above c = same-above c.args.self.now _ _ (omega (arith, c.requires.0))
