use Rattle.std.proofs.Common.{◌≡◌, length}
use Rattle.rx_cutfn.specs.Stripping.{without_leading}
use Rattle.rx_cutfn.proofs.stripping.strip_leading.Given as goal

abbrev pub invariant-loop-rest : goal.invariant-loop-rest
invariant-loop-rest l = without_leading l.given l.rest ≡ without_leading l.given l.text

abbrev pub decreases-loop-rest : goal.decreases-loop-rest
decreases-loop-rest l = length l.rest
