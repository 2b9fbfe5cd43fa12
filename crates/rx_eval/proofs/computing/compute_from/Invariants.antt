use Rattle.std.proofs.Common.{◌≡◌, ◌-◌, length}
use Rattle.rx_eval.specs.Code.{scene}
use Rattle.rx_eval.specs.Evaluation.{evaluate_all}
use Rattle.rx_eval.specs.Places.{IsPlace, partial}
use Rattle.rx_eval.proofs.computing.compute_from.Given as goal

abbrev pub invariant-loop-at : goal.invariant-loop-at
invariant-loop-at l = record {
  placed : IsPlace l.code.instrs l.at l.stack;
  same : evaluate_all (scene l.code l.facts) (partial l.code.instrs l.initial.at l.initial.stack) ≡ evaluate_all (scene l.code l.facts) (partial l.code.instrs l.at l.stack);
}

abbrev pub decreases-loop-at : goal.decreases-loop-at
decreases-loop-at l = length l.code.instrs - l.at
