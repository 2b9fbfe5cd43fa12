-- The state of the activity machine.
use Rattle.std.specs.Prelude.{ℕ, ◌+◌, Bool, List, Option}
use Rattle.rx_tree.specs.Object.{Object}
use Rattle.rx_tree.specs.declared.note.Note.{Note}
use Rattle.rx_tree.specs.declared.value.Value.{Value}
use Rattle.rx_clause_tree.specs.declared.package.Package.{Package}
use Rattle.rx_pools.specs.Pools.{Pools}
use Rattle.rx_frames.specs.Frames.{Frame}
use Rattle.rx_frames.specs.Activities.{Activity, with_frame}
use Rattle.rx_sends.specs.Parts.{Parts}
use Rattle.rx_machine.specs.Todo.{Todo}

-- How the first activity, the main program's, has ended.
pub data Ending : Type 0 where
  -- it hasn't, or it gave no value
  NoValue : Ending
  Given : Value → Ending
  -- by the error of this number, which nothing trapped
  Failed : ℕ → Ending

-- Activities and objects have the numbers of their places from 1, pools from 0.
pub record World : Type 0 where
  pub program : Package
  -- the program's argument
  pub arg : Option (List ℕ)
  -- how many steps it may take
  pub budget : ℕ
  pub activities : List (Activity Todo)
  pub objects : List Object
  pub pools : Pools
  -- the lines of the queue, the front first
  pub queue : List (List ℕ)
  -- the lines of input that were given and not read, and whether the end of input is known
  pub rest : List (List ℕ)
  pub ended : Bool
  -- the bytes that were said, and the notes of the report
  pub output : List ℕ
  pub notes : List Note
  -- how many steps were taken
  pub steps : ℕ
  -- how the main program ended
  pub main : Ending

-- What a step comes to: the world after it, or that it wants a line of input that isn't there.
pub data Stepped : Type 0 where
  Done : World → Stepped
  WantsLine : Stepped

-- one step more is counted
abbrev pub counted : World → World
counted w = record w { steps = w.steps + 1 }

-- this frame is on top of an activity's, in place of the one that was
abbrev pub with_top : World → ℕ → Frame Todo → World
with_top w a frame = record w { activities = with_frame w.activities a 0 frame }

-- ---- what messages act on

abbrev pub parts_of : World → Parts Todo
parts_of w = record { activities = w.activities; objects = w.objects; classes = w.program.classes; pools = w.pools }

abbrev pub with_parts : World → Parts Todo → World
with_parts w parts = record w { activities = parts.activities; objects = parts.objects; pools = parts.pools }
