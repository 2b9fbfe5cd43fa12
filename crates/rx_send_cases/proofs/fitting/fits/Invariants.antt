use Rattle.std.proofs.Common.{ℕ, ◌<◌, ◌≤◌}
use Rattle.rx_native.specs.Fitting.{FitsObject}
use Rattle.rx_send_cases.proofs.fitting.fits.Given as goal

abbrev pub invariant-loop-place : goal.invariant-loop-place
invariant-loop-place l = (number : ℕ) → 0 < number → number ≤ l.place → FitsObject l.classes l.heap number
