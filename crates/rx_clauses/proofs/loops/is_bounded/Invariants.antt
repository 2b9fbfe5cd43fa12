use Rattle.std.proofs.Common.{◌≡◌, length}
use Rattle.rx_clause_tree.specs.Loops.{is_bounded}
use Rattle.rx_clauses.proofs.loops.is_bounded.Given as goal

abbrev pub invariant-loop-rest : goal.invariant-loop-rest
invariant-loop-rest l = is_bounded l.one l.bounds ≡ is_bounded l.one l.rest

abbrev pub decreases-loop-rest : goal.decreases-loop-rest
decreases-loop-rest l = length l.rest
