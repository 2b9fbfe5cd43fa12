use Rattle.std.proofs.Common.{◌≡◌, ◌≤◌, ◌+◌, length, []}
use Rattle.rx_scan.specs.Reader.{string_from}
use Rattle.rx_scan.proofs.string.read_text.Given as goal

-- the string goes on from the text so far
abbrev pub invariant-loop-front : goal.invariant-loop-front
invariant-loop-front l = record {
  same : string_from l.quote l.text.items l.rest ≡ string_from l.quote [] l.bytes;
  few : length l.text.items + length l.rest ≤ length l.bytes;
}

abbrev pub decreases-loop-front : goal.decreases-loop-front
decreases-loop-front l = length l.rest
