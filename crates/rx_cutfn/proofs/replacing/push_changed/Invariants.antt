use Rattle.std.proofs.Common.{◌≡◌, ◌++◌, length}
use Rattle.rx_cutfn.specs.Replacing.{joined, pieces_behind}
use Rattle.rx_cutfn.proofs.replacing.push_changed.Given as goal

abbrev pub invariant-loop-at : goal.invariant-loop-at
invariant-loop-at l = l.bytes.items ++ joined l.new (pieces_behind l.needle 0 l.rest) ≡ l.fn.bytes.items ++ joined l.new (pieces_behind l.needle 0 l.text)

abbrev pub decreases-loop-at : goal.decreases-loop-at
decreases-loop-at l = length l.rest
