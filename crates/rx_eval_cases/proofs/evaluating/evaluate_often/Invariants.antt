use Rattle.rx_eval_cases.specs.Ready.{IsReady}
use Rattle.rx_eval_cases.proofs.evaluating.evaluate_often.Given as goal

abbrev pub invariant-loop-time : goal.invariant-loop-time
invariant-loop-time g l = IsReady l.job
