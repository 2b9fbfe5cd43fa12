use Rattle.std.proofs.Common.{◌∙◌, Some, None, ap, sym, append-nil}
use Rattle.rx_classes.specs.Classes.{class_named}
use Rattle.rx_classes.proofs.LinkLemmas.{named-more}
use Rattle.rx_classes.proofs.table.ClassTable.numbers_of.Goals as goal
use Rattle.rx_classes.proofs.table.ClassTable.numbers_of.Goals.{in-Some+in_ok-push-2, in_default}

pub loop-name-preserved : goal.loop-name-preserved
loop-name-preserved c =
    elim c.match-class_named.branch [
      | in-Some+in_ok-push-2 w ↦
          named-more (class_named c.args.self.now) c.args.names.now c.loop-name.name-index c.args.parent c.name-item.result c.loop-name.numbers
          c.match-class_named.numbers (Some w.in-Some.number) c.loop-name-test.true c.name-item.is c.loop-name.invariant
          (w.in-Some.ensures.number ∙ ap (class_named c.args.self.now) c.bytes.ensures.bytes) (w.numbers-is ∙ w.in_ok-push-2.ensures.ok)
      | in_default w ↦
          named-more (class_named c.args.self.now) c.args.names.now c.loop-name.name-index c.args.parent c.name-item.result c.loop-name.numbers
          c.match-class_named.numbers None c.loop-name-test.true c.name-item.is c.loop-name.invariant
          (sym w.in_default.is ∙ c.class_named.ensures.number ∙ ap (class_named c.args.self.now) c.bytes.ensures.bytes)
          (w.numbers-is ∙ sym (append-nil c.loop-name.numbers))
    ]
