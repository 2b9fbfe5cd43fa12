use Rattle.std.proofs.Common.{◌≡◌, ◌++◌, length}
use Rattle.std.specs.Prelude.{flat_map}
use Rattle.rx_convfn.specs.Digits.{digits, four_bits}
use Rattle.rx_convfn.proofs.digits.x2b.Given as goal

-- the digits so far, and those of the rest
abbrev pub invariant-loop-rest : goal.invariant-loop-rest
invariant-loop-rest l = l.bits.items ++ flat_map four_bits (digits l.rest) ≡ flat_map four_bits (digits l.text)

abbrev pub decreases-loop-rest : goal.decreases-loop-rest
decreases-loop-rest l = length l.rest
