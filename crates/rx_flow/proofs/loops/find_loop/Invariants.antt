use Rattle.std.proofs.Common.{◌≤◌, length}
use Rattle.rx_flow.proofs.LoopLemmas.{Sought}
use Rattle.rx_flow.proofs.loops.find_loop.Given as goal

abbrev pub invariant-loop-around : goal.invariant-loop-around
invariant-loop-around l = record {
  within : l.around ≤ length l.loops;
  sought : Sought l.body.clauses l.loops l.wanted l.around;
}

abbrev pub decreases-loop-around : goal.decreases-loop-around
decreases-loop-around l = l.around
