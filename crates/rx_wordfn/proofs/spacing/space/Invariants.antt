use Rattle.std.proofs.Common.{◌≡◌, ◌++◌, length, replicate}
use Rattle.rx_wordfn.specs.Functions.{spaced}
use Rattle.rx_wordfn.specs.Words.{words}
use Rattle.rx_wordfn.proofs.SpaceLemmas.{led}
use Rattle.rx_wordfn.proofs.spacing.space.Given as goal

-- the words so far, and those of the rest
abbrev pub invariant-loop-word : goal.invariant-loop-word
invariant-loop-word l =
    l.bytes.items ++ led (replicate l.gap l.pad) (words l.rest) ≡ spaced (replicate l.gap l.pad) (words l.text)

abbrev pub decreases-loop-word : goal.decreases-loop-word
decreases-loop-word l = length l.rest
