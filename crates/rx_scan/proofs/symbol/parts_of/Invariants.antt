use Rattle.std.proofs.Common.{◌≡◌, ◌≤◌, ◌++◌, length}
use Rattle.rx_tree.specs.Symbols.{parts_of}
use Rattle.rx_scan.proofs.symbol.parts_of.Given as goal

-- the parts so far and those of the rest
abbrev pub invariant-loop-at : goal.invariant-loop-at
invariant-loop-at l = record {
  joined : l.parts ++ parts_of l.rest ≡ parts_of l.tail;
  few : length l.rest ≤ length l.tail;
}

abbrev pub decreases-loop-at : goal.decreases-loop-at
decreases-loop-at l = length l.rest
