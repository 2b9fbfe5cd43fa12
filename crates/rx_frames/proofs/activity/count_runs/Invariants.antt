use Rattle.std.proofs.Common.{◌≡◌, length}
use Rattle.rx_frames.specs.Runs.{AreRuns}
use Rattle.rx_frames.proofs.activity.count_runs.Given as goal

abbrev pub invariant-loop-place : goal.invariant-loop-place
invariant-loop-place l = record { counted : AreRuns l.runs.items l.frames; next : l.place ≡ length l.runs.items }
