use Rattle.std.proofs.Common.{arith, ap}
use Rattle.rx_vars.specs.Discarded.{held_by}
use Rattle.rx_vars.proofs.DiscardedLemmas.{held_more}
use Rattle.rx_vars.proofs.discarded.Discarded.free_one.Goals as goal

pub returns-then-pop : goal.returns-then-pop
returns-then-pop g c =
    omega (arith, c.self.view_is, ap held_by c.in-Some.ensures.items, held_more c.pop.new.self.items c.in-Some.table, c.if-pop.ensures.one_less, c.add.ensures)

pub returns-else-pop : goal.returns-else-pop
returns-else-pop g c =
    omega (arith, c.self.view_is, ap held_by c.in-Some.ensures.items, held_more c.pop.new.self.items c.in-Some.table)
