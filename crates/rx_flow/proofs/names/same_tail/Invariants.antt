use Rattle.std.proofs.Common.{◌≡◌, length}
use Rattle.rx_clause_tree.specs.ClauseWords.{same_tail}
use Rattle.rx_flow.proofs.names.same_tail.Given as goal

abbrev pub invariant-loop-x : goal.invariant-loop-x
invariant-loop-x l = same_tail l.a l.b ≡ same_tail l.x l.y

abbrev pub decreases-loop-x : goal.decreases-loop-x
decreases-loop-x l = length l.x
