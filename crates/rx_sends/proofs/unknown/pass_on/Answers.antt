use Rattle.std.proofs.Common.{sym, subst}
use Rattle.rx_tree.specs.declared.value.Value.{Value}
use Rattle.rx_native.specs.Arguments.{Arguments}
use Rattle.rx_native.specs.Fitting.{AreThere}
use Rattle.rx_sends.specs.Delivering.{IsReachedBy}
use Rattle.rx_sends.proofs.FitLemmas.{both-there}
use Rattle.rx_sends.proofs.unknown.pass_on.Goals as goal

pub perform-requires-clause-args_there : goal.perform-requires-clause-args_there
perform-requires-clause-args_there c =
    subst (λ (args : Arguments). AreThere c.args.heap.now args) (sym c.in_ok-args.ensures)
    (both-there c.args.heap.now c.into_target_and_name-target.result.1 c.args.array c.requires.array_there)

pub perform-requires-clause-reached : goal.perform-requires-clause-reached
perform-requires-clause-reached c =
    subst (λ (target : Value). IsReachedBy c.args.classes.now c.args.heap.now target c.args.method.1) (sym c.into_target_and_name-target.ensures.target)
    c.requires.reached
