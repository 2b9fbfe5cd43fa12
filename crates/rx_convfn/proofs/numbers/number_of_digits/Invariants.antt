use Rattle.std.proofs.Common.{◌≡◌, ◌≤◌, min, length}
use Rattle.rx_convfn.specs.Digits.{digits, number_of, values_of}
use Rattle.rx_convfn.proofs.NumberLemmas.{greatest, number_on}
use Rattle.rx_convfn.proofs.numbers.number_of_digits.Given as goal

-- the number so far goes on with the rest
abbrev pub invariant-loop-rest : goal.invariant-loop-rest
invariant-loop-rest l = record {
  small : l.number ≤ greatest;
  same : min (number_on 16 l.number (values_of (digits l.rest))) greatest ≡ min (number_of 16 (values_of (digits l.text))) greatest;
}

abbrev pub decreases-loop-rest : goal.decreases-loop-rest
decreases-loop-rest l = length l.rest
