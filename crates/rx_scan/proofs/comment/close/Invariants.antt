use Rattle.std.proofs.Common.{◌≡◌, ◌≤◌, ◌+◌, length}
use Rattle.rx_scan.specs.Reader.{close_from}
use Rattle.rx_scan.proofs.comment.close.Given as goal

-- the comment goes on in the rest, with so many open in it
abbrev pub invariant-loop-first : goal.invariant-loop-first
invariant-loop-first l = record {
  same : close_from l.depth l.rest ≡ close_from 0 l.bytes;
  few : l.depth + length l.rest ≤ length l.bytes;
}

abbrev pub decreases-loop-first : goal.decreases-loop-first
decreases-loop-first l = length l.rest
