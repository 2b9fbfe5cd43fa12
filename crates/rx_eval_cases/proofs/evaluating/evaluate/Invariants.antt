use Rattle.rx_eval_cases.specs.Ready.{IsReady}
use Rattle.rx_eval_cases.proofs.evaluating.evaluate.Given as goal

abbrev pub invariant-loop-answer : goal.invariant-loop-answer
invariant-loop-answer g l = IsReady l.job
