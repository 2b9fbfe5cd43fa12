-- What a frame ends as, once a `&mut` to its variables has ended.
use Rattle.std.specs.Borrow.{Fml, MutBor, Lends}
use Rattle.rx_vars.specs.Variables.{Variables}
use Rattle.rx_vars.specs.contracts.vars.Vars.{the_row as vars_row}
use Rattle.rx_frames.specs.declared.position.Position.{Position}
use Rattle.rx_frames.specs.Frames.{Frame}
use Rattle.rx_frames.specs.contracts.frame.Frame.{the_row as frame_row}

-- its variables are the last ones behind r
abbrev pub lends_variables : MutBor (Frame Position) → MutBor Variables → Fml
lends_variables s r = Lends frame_row vars_row s r (λ v. record s.now { variables = v })
