use Rattle.std.proofs.Common.{◌∙◌, sym, subst}
use Rattle.rx_tree.specs.declared.value.Value.{Value}
use Rattle.rx_sends.specs.Delivering.{IsReachedBy}
use Rattle.rx_sends.proofs.ReachLemmas.{reached-method, reached-unknown}
use Rattle.rx_sends.proofs.delivering.deliver.Goals as goal

pub perform-requires-clause-reached : goal.perform-requires-clause-reached
perform-requires-clause-reached c =
    subst (λ (target : Value). IsReachedBy c.args.classes.now c.args.heap.now target c.in-Method.method) (sym c.into_target_and_args-target.ensures.target)
    (reached-method c.args.classes.now c.args.heap.now c.args.sender.object c.args.sent c.in-Method.scope c.in-Method.method
    (sym c.in-Method.is ∙ c.in_ok-scope.ensures))

pub unknown-requires-clause-reached : goal.unknown-requires-clause-reached
unknown-requires-clause-reached c =
    reached-unknown c.args.classes.now c.args.heap.now c.args.sender.object c.args.sent c.in-Unknown.scope c.in-Unknown.method
    (sym c.in-Unknown.is ∙ c.in_ok-scope.ensures)
