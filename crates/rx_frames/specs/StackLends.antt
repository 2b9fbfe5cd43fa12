-- What stacks end as, once a `&mut` to one of their frames has ended.
use Rattle.std.specs.Prelude.{ℕ, List, Option}
use Rattle.std.specs.Borrow.{Fml, MutBor, Lends, LendsIf}
use Rattle.rx_frames.specs.declared.position.Position.{Position}
use Rattle.rx_frames.specs.Frames.{Frame}
use Rattle.rx_frames.specs.Activities.{Activity, with_frame}
use Rattle.rx_frames.specs.contracts.frame.Frame.{the_row as frame_row}
use Rattle.rx_frames.specs.contracts.stacks.Stacks.{the_row as stacks_row}

-- the frame that stands so many beneath the top of activity a is the last one behind r, where there is one
abbrev pub lends_frame : MutBor (List (Activity Position)) → ℕ → ℕ → Option (MutBor (Frame Position)) → Fml
lends_frame s a down r = LendsIf stacks_row frame_row s r (with_frame s.now a down) s.now

-- the same where there is one
abbrev pub lends_frame_there : MutBor (List (Activity Position)) → ℕ → ℕ → MutBor (Frame Position) → Fml
lends_frame_there s a down r = Lends stacks_row frame_row s r (with_frame s.now a down)
