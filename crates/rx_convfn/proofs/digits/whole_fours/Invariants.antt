use Rattle.std.proofs.Common.{◌≡◌, ◌++◌, replicate, length}
use Rattle.rx_convfn.specs.Digits.{digits, whole_fours}
use Rattle.rx_convfn.proofs.digits.whole_fours.Given as goal

abbrev pub invariant-loop : goal.invariant-loop
invariant-loop l = l.bits.items ≡ replicate l.counter 48

-- the digits so far, and those of the rest
abbrev pub invariant-loop-rest : goal.invariant-loop-rest
invariant-loop-rest l = l.bits.items ++ digits l.rest ≡ whole_fours (digits l.text)

abbrev pub decreases-loop-rest : goal.decreases-loop-rest
decreases-loop-rest l = length l.rest
