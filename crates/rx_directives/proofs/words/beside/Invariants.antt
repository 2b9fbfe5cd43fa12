use Rattle.std.proofs.Common.{◌≡◌, map, length}
use Rattle.rx_directives.specs.DirectiveWords as spec
use Rattle.rx_directives.proofs.words.beside.Given as goal

abbrev pub invariant-loop-rest : goal.invariant-loop-rest
invariant-loop-rest l = spec.beside l.name (map (λ e. (e.0.now, e.1)) l.table) ≡ spec.beside l.name (map (λ e. (e.0.now, e.1)) l.rest)

abbrev pub decreases-loop-rest : goal.decreases-loop-rest
decreases-loop-rest l = length l.rest
