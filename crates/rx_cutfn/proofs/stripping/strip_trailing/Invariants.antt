use Rattle.std.proofs.Common.{◌≡◌, length}
use Rattle.rx_cutfn.specs.Stripping.{without_trailing}
use Rattle.rx_cutfn.proofs.stripping.strip_trailing.Given as goal

abbrev pub invariant-loop-rest : goal.invariant-loop-rest
invariant-loop-rest l = without_trailing l.given l.rest ≡ without_trailing l.given l.text

abbrev pub decreases-loop-rest : goal.decreases-loop-rest
decreases-loop-rest l = length l.rest
