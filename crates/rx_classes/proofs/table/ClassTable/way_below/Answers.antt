use Rattle.rx_classes.specs.Kept.{Same}
use Rattle.rx_classes.proofs.AboveLemmas.{above-trans}
use Rattle.rx_classes.proofs.table.ClassTable.way_below.Goals as goal

pub returns-then-even : goal.returns-then-even
returns-then-even c =
    above-trans c.args.self.now c.way-middle.result.above c.way-near.result.above c.args.parent c.way-middle.ensures.above c.way-near.ensures.above

pub returns-else-even : goal.returns-else-even
returns-else-even c = Same
