-- Runs of frames that share all variables of their callers, counted beside the frames.
use Rattle.std.specs.Prelude.{◌≡◌, ◌≤◌, ◌<◌, ◌+◌, ℕ, List, length, slice_get, Some}
use Rattle.rx_frames.specs.declared.position.Position.{Position}
use Rattle.rx_frames.specs.Frames.{Frame, IsShared}

-- so many frames from this one downward share all variables
abbrev pub IsRun : List (Frame Position) → ℕ → ℕ → Type 0
IsRun frames k run = (j : ℕ) (frame : Frame Position) → j ≤ k → k < j + run → slice_get frames j ≡ Some frame → IsShared frame.variables

-- For each of the lowest frames, whose top stands last, so many from it downward share all variables.
pub record AreRuns (runs : List ℕ) (frames : List (Frame Position)) : Type 0 where
  pub short : length runs ≤ length frames
  pub within : (k run : ℕ) → slice_get runs k ≡ Some run → run ≤ k + 1
  pub shared : (k run : ℕ) → slice_get runs k ≡ Some run → IsRun frames k run

-- What an activity keeps: at most 1,000 frames, and runs of them.
pub record IsKept (runs : List ℕ) (frames : List (Frame Position)) : Type 0 where
  pub few : length frames ≤ 1000
  pub counted : AreRuns runs frames
