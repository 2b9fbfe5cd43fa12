-- Runs that read their input.
use Rattle.std.specs.Prelude.{◌≡◌, ◌≢◌, ℕ, Bool, false, List, [], Option, Some, MatchOption, IsTrue, Result, Ok, Err}
use Rattle.rx_tree.specs.declared.text.OutOfMemory.{OutOfMemory}
use Rattle.rx_machine.specs.World.{World, Stepped, Done, WantsLine}
use Rattle.rx_machine.specs.declared.end.End.TheVariants.{Going}
use Rattle.rx_machine.specs.Enabled.{enabled, robin}
use Rattle.rx_machine.specs.End.{end}
use Rattle.rx_machine.specs.Input.{with_more}
use Rattle.rx_machine.specs.Runs.{SerialRun, last_of}
use Rattle.rx_machine.specs.Step.{step}
use Rattle.rx_top.specs.declared.feeding.Fed.{Fed}
use Rattle.rx_top.specs.declared.feeding.Fed.TheVariants as fed
use Rattle.rx_top.specs.declared.running.Course.{Course}
use Rattle.rx_top.specs.declared.running.Course.TheVariants.{Ended, Starved}
use Rattle.rx_top.specs.Lines.{Feeds}
use Rattle.rx_top.specs.Ports.{Shrinks}

-- a pick that is the next in a circle after the last one, of a world that goes on
pub record IsPick (w : World) (last a : ℕ) : Type 0 where
  pub going : end w ≡ Going
  pub next : robin w last ≡ Some a
  pub enabled : IsTrue (enabled w a)

-- the next pick, or none where the world doesn't go on
abbrev pub IsNextPick : World → ℕ → Option ℕ → Type 0
IsNextPick w last next = MatchOption next (end w ≢ Going) (λ a. IsPick w last a)

-- a step is done, and leaves this world, in which no line is left
abbrev pub IsTakenBy : Stepped → World → Type 0
IsTakenBy stepped next = (stepped ≡ Done next) × (next.rest ≡ [])

-- A step is taken: at once; or behind a line, or the end of the input, that it wanted and has got.
pub data Steps (w next : World) (a : ℕ) (old new : Option (List ℕ)) : Type 0 where
  AtOnce : step w a ≡ Done next → new ≡ old → Steps w next a old new
  Behind : (given : List (List ℕ)) (ended : Bool) → w.ended ≡ false → Feeds old new given ended
      → step (with_more given ended w) a ≡ Done next → next.rest ≡ [] → Steps w next a old new

-- the next step wants a line that can't be read
pub record Starves (w : World) (a : ℕ) (old new : Option (List ℕ)) : Type 0 where
  pub wants : step w a ≡ WantsLine
  pub shrinks : Shrinks old new

-- What the step of an activity comes to.
abbrev pub IsTried : World → World → ℕ → Option (List ℕ) → Option (List ℕ) → Fed → Type 0
IsTried w next a old new fed.Done = Steps w next a old new
IsTried w next a old new fed.Failed = (next ≡ w) × Starves w a old new

-- Picks in a circle lead from a world to another over lines that were read of the input, each of which a step has taken.
pub record Goes (from to : World) (old new : Option (List ℕ)) (picks : List ℕ) : Type 0 where
  pub given : List (List ℕ)
  pub ended : Bool
  pub fed : Feeds old new given ended
  pub run : SerialRun (with_more given ended from) picks to
  pub none : to.rest ≡ []
  pub known : to.ended ≡ ended

-- they lead to a world whose next step wants a line that can't be read
pub record IsCut (from to : World) (old new : Option (List ℕ)) (picks : List ℕ) : Type 0 where
  pub between : Option (List ℕ)
  pub goes : Goes from to old between picks
  pub activity : ℕ
  pub pick : IsPick to (last_of 0 picks) activity
  pub starves : Starves to activity between new

-- What a run comes to: the end of a world that doesn't go on, or a line that can't be read.
abbrev pub IsCourse : World → World → Option (List ℕ) → Option (List ℕ) → Course → Type 0
IsCourse from to old new (Ended picks) = Goes from to old new picks.items × (end to ≢ Going)
IsCourse from to old new (Starved picks) = IsCut from to old new picks.items

-- a run came to a line that can't be read
abbrev pub IsStarvedCourse : Course → Type 0
IsStarvedCourse (Ended picks) = ⊥
IsStarvedCourse (Starved picks) = Unit {0}

-- the same, where memory isn't wanted
abbrev pub IsStarved : Result Course OutOfMemory → Type 0
IsStarved (Ok course) = IsStarvedCourse course
IsStarved (Err refused) = ⊥

-- a world to whose end a run came doesn't go on
abbrev pub HasEnded : World → Course → Type 0
HasEnded w (Ended picks) = end w ≢ Going
HasEnded w (Starved picks) = Unit {0}
