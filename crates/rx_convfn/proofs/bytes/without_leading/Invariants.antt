use Rattle.std.proofs.Common.{◌≡◌, length}
use Rattle.rx_convfn.specs.Digits.{without_leading}
use Rattle.rx_convfn.proofs.bytes.without_leading.Given as goal

abbrev pub invariant-loop-rest : goal.invariant-loop-rest
invariant-loop-rest l = without_leading l.byte l.rest ≡ without_leading l.byte l.bytes

abbrev pub decreases-loop-rest : goal.decreases-loop-rest
decreases-loop-rest l = length l.rest
