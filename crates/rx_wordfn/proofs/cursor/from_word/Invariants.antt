use Rattle.std.proofs.Common.{◌≡◌, ◌≤◌, ◌-◌, length}
use Rattle.rx_wordfn.specs.Words.{from_word}
use Rattle.rx_wordfn.proofs.cursor.from_word.Given as goal

-- the same word is so many words further on in the rest
abbrev pub invariant-loop : goal.invariant-loop
invariant-loop l = record {
  same : from_word (l.count - l.counter) l.rest ≡ from_word l.count l.text;
  no_longer : length l.rest ≤ length l.text;
}
