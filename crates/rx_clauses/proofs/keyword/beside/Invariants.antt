use Rattle.std.proofs.Common.{◌≡◌, map, length}
use Rattle.rx_clauses.specs.Keywords as spec
use Rattle.rx_clauses.proofs.keyword.beside.Given as goal

abbrev pub invariant-loop-rest : goal.invariant-loop-rest
invariant-loop-rest l = spec.beside l.name (map (λ e. (e.0.now, e.1)) l.table) ≡ spec.beside l.name (map (λ e. (e.0.now, e.1)) l.rest)

abbrev pub decreases-loop-rest : goal.decreases-loop-rest
decreases-loop-rest l = length l.rest
