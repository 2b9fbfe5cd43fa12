use Rattle.std.proofs.Common.{◌≡◌, length}
use Rattle.rx_tree.specs.Strings.{digits_in, group_of, is_grouped}
use Rattle.rx_digits.proofs.is_grouped.Given as goal

-- what was read is in order, and so many digits are left
abbrev pub invariant-loop-rest : goal.invariant-loop-rest
invariant-loop-rest l = record {
  group : l.group ≡ group_of l.binary;
  left : l.left ≡ digits_in l.rest;
  same : is_grouped l.binary l.rest ≡ is_grouped l.binary l.text;
}

abbrev pub decreases-loop-rest : goal.decreases-loop-rest
decreases-loop-rest l = length l.rest
