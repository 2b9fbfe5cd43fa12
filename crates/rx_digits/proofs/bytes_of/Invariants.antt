use Rattle.std.proofs.Common.{◌≡◌, ◌<◌, ◌≤◌, ◌+◌, ◌++◌, length}
use Rattle.rx_tree.specs.Strings.{digits_in, base_of, width_of, bytes_of}
use Rattle.rx_digits.proofs.bytes_of.Given as goal

-- the bytes so far and those of the rest
abbrev pub invariant-loop-rest : goal.invariant-loop-rest
invariant-loop-rest l = record {
  base : l.base ≡ base_of l.binary;
  width : l.width ≡ width_of l.binary;
  left : l.left ≡ digits_in l.rest;
  small : l.so_far < 256;
  joined : l.bytes.items ++ bytes_of l.binary l.so_far l.rest ≡ bytes_of l.binary 0 l.text;
  few : length l.bytes.items + length l.rest ≤ length l.text;
}

abbrev pub decreases-loop-rest : goal.decreases-loop-rest
decreases-loop-rest l = length l.rest
