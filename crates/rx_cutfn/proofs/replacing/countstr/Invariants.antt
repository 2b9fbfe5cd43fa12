use Rattle.std.proofs.Common.{◌≡◌, ◌+◌, ◌≤◌, length}
use Rattle.rx_cutfn.specs.Replacing.{pieces_behind}
use Rattle.rx_cutfn.proofs.replacing.countstr.Given as goal

abbrev pub invariant-loop-at : goal.invariant-loop-at
invariant-loop-at l = record {
  counted : l.count + length (pieces_behind l.needle 0 l.rest) ≡ length (pieces_behind l.needle 0 l.text);
  within : l.count + length l.rest ≤ length l.text;
}

abbrev pub decreases-loop-at : goal.decreases-loop-at
decreases-loop-at l = length l.rest
