use Rattle.std.proofs.Common.{◌≡◌, length}
use Rattle.rx_clause_tree.specs.Loops.{runs_by}
use Rattle.rx_clauses.proofs.simple.runs_by.Given as goal

abbrev pub invariant-loop-rest : goal.invariant-loop-rest
invariant-loop-rest l = runs_by l.name l.loops ≡ runs_by l.name l.rest

abbrev pub decreases-loop-rest : goal.decreases-loop-rest
decreases-loop-rest l = length l.rest
