-- Frames of the code that end by an error.
use Rattle.std.specs.Prelude.{ℕ, List, [], ◌∷◌}
use Rattle.rx_tree.specs.Object.{Object}
use Rattle.rx_tree.specs.declared.activity.Outcome.TheVariants as outcome
use Rattle.rx_frames.specs.declared.activity.Wait.TheVariants as wait
use Rattle.rx_frames.specs.declared.position.Position.{Position}
use Rattle.rx_frames.specs.Frames.{Frame}
use Rattle.rx_frames.specs.Activities.{Activity, waiting}
use Rattle.rx_sends.specs.Sending.{completed}

-- each of these frames ends, the top one first, and its Message, where it has one, has come to the error
abbrev pub unwound : List Object → List (Frame Position) → ℕ → List Object
unwound objects [] number = objects
unwound objects (frame ∷ frames) number = unwound (completed objects frame.completes (outcome.Failed number)) frames number

-- the activity has ended
abbrev pub ended : Activity Position → Activity Position
ended activity = waiting wait.Nothing []
