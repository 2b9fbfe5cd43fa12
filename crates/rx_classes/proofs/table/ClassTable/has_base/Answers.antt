use Rattle.std.proofs.Common.{sym}
use Rattle.rx_classes.proofs.ClassLemmas.{class_named-below}
use Rattle.rx_classes.proofs.table.ClassTable.has_base.Goals as goal

pub base-requires : goal.base-requires
base-requires c = class_named-below c.args.self.now c.bytes.result.now c.in-Some.mixin (sym c.in-Some.ensures.number)
