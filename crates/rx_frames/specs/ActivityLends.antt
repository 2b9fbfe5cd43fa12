-- What an activity ends as, once a `&mut` to one of its frames has ended.
use Rattle.std.specs.Prelude.{ℕ, slice_set}
use Rattle.std.specs.Borrow.{Fml, MutBor, Lends}
use Rattle.rx_frames.specs.declared.position.Position.{Position}
use Rattle.rx_frames.specs.Frames.{Frame}
use Rattle.rx_frames.specs.Activities.{Activity}
use Rattle.rx_frames.specs.contracts.frame.Frame.{the_row as frame_row}
use Rattle.rx_frames.specs.contracts.activity.Activity.{the_row as activity_row}

-- the frame that stands so many beneath the top is the last one behind r
abbrev pub lends_frame_of : MutBor (Activity Position) → ℕ → MutBor (Frame Position) → Fml
lends_frame_of s down r = Lends activity_row frame_row s r (λ w. record s.now { frames = slice_set s.now.frames down w })
