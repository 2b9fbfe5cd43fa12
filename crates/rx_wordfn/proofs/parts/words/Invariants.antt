use Rattle.std.proofs.Common.{◌≡◌, ◌≤◌, ◌+◌, length}
use Rattle.rx_wordfn.specs.Words.{words}
use Rattle.rx_wordfn.proofs.parts.words.Given as goal

abbrev pub invariant-loop-behind : goal.invariant-loop-behind
invariant-loop-behind l = record {
  so_far : l.count + length (words l.rest) ≡ length (words l.text);
  few : l.count + length l.rest ≤ length l.text;
}

abbrev pub decreases-loop-behind : goal.decreases-loop-behind
decreases-loop-behind l = length l.rest
