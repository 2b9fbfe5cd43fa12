use Rattle.std.proofs.Common.{◌≡◌, ◌+◌, ◌-◌, ◌^◌, min, length}
use Rattle.rx_wordfn.specs.Lines.{led_length, spaced_length}
use Rattle.rx_wordfn.specs.Words.{words}
use Rattle.rx_wordfn.proofs.spacing.fits.Given as goal

-- the length, as far as a number can count
abbrev pub invariant-loop-word : goal.invariant-loop-word
invariant-loop-word l =
    min (l.length + led_length l.gap (words l.rest)) (2 ^ 64 - 1) ≡ min (spaced_length l.gap (words l.text)) (2 ^ 64 - 1)

abbrev pub decreases-loop-word : goal.decreases-loop-word
decreases-loop-word l = length l.rest
