use Rattle.std.proofs.Common.{◌<◌, sym, arith}
use Rattle.rx_classes.specs.Natives.{object_class}
use Rattle.rx_classes.proofs.ClassLemmas.{parent_of-below}
use Rattle.rx_classes.proofs.WayLemmas.{goes-up, parent-up, ends, object-parent}
use Rattle.rx_classes.proofs.table.ClassTable.is_above.Goals as goal

pub loop-next-smaller-then-kept-above : goal.loop-next-smaller-then-kept-above
loop-next-smaller-then-kept-above c = c.in-Some.ensures.linked.further

pub loop-next-preserved-then-kept-above : goal.loop-next-preserved-then-kept-above
loop-next-preserved-then-kept-above c =
    goes-up c.args.self.now c.args.above c.args.class c.loop-next.next c.in-Some.kept.now.above c.in-Some.ensures.linked.above c.if-kept-above.true
    c.loop-next.invariant

pub loop-next-smaller-in-Some-2 : goal.loop-next-smaller-in-Some-2
loop-next-smaller-in-Some-2 c = (parent_of-below c.args.self.now c.loop-next.next c.in-Some.kept.now.parent c.in-Some.ensures.linked.parent).1

pub loop-next-preserved-in-Some-2 : goal.loop-next-preserved-in-Some-2
loop-next-preserved-in-Some-2 c =
    parent-up c.args.self.now c.args.above c.args.class c.loop-next.next c.in-Some.kept.now.parent c.in-Some.ensures.linked.parent c.loop-next-test.true
    c.loop-next.invariant

pub loop-next-preserved : goal.loop-next-preserved
loop-next-preserved c =
    let some : object_class < c.loop-next.next = omega (arith, c.requires.above.0, c.loop-next-test.true) in
    parent-up c.args.self.now c.args.above c.args.class c.loop-next.next object_class
    (object-parent c.args.self.now c.loop-next.next (sym c.in-None.ensures.def) some) c.loop-next-test.true c.loop-next.invariant

pub returns : goal.returns
returns c =
    ends c.args.self.now c.args.above c.args.class c.loop-next.next c.requires.installed c.requires.above c.requires.class c.requires.plain
    c.loop-next-test.false c.loop-next.invariant
