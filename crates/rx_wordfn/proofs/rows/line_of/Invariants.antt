use Rattle.std.proofs.Common.{◌≡◌, ◌++◌, length}
use Rattle.std.specs.Prelude.{flat_map}
use Rattle.rx_wordfn.specs.Lines.{ended, line}
use Rattle.rx_wordfn.specs.Words.{words}
use Rattle.rx_wordfn.proofs.rows.line_of.Given as goal

-- the words so far, and those of the rest
abbrev pub invariant-loop-word : goal.invariant-loop-word
invariant-loop-word l = l.bytes.items ++ flat_map ended (words l.rest) ≡ line (words l.text)

abbrev pub decreases-loop-word : goal.decreases-loop-word
decreases-loop-word l = length l.rest
