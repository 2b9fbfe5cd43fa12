use Rattle.std.proofs.Common.{◌≡◌, ◌++◌, length}
use Rattle.rx_convfn.specs.Digits.{from_fours}
use Rattle.rx_convfn.proofs.digits.from_fours.Given as goal

-- the digits so far, and those of the rest
abbrev pub invariant-loop-rest : goal.invariant-loop-rest
invariant-loop-rest l = l.digits.items ++ from_fours l.rest ≡ from_fours l.bits

abbrev pub decreases-loop-rest : goal.decreases-loop-rest
decreases-loop-rest l = length l.rest
