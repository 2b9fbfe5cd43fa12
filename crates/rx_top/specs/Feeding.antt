-- Worlds that get lines of the input.
use Rattle.std.specs.Prelude.{◌≡◌, ℕ, Bool, true, false, List, [], ◌∷◌, Option}
use Rattle.rx_machine.specs.World.{World, WantsLine}
use Rattle.rx_machine.specs.Input.{with_more}
use Rattle.rx_machine.specs.Laws.{IsTaken}
use Rattle.rx_machine.specs.Step.{step}
use Rattle.rx_top.specs.declared.lines.LineRead.{LineRead}
use Rattle.rx_top.specs.declared.lines.LineRead.TheVariants.{Line, Last, End, Failed, NoMemory}
use Rattle.rx_top.specs.declared.feeding.Fed.{Fed}
use Rattle.rx_top.specs.declared.feeding.Fed.TheVariants as fed
use Rattle.rx_top.specs.Lines.{Feeds}
use Rattle.rx_top.specs.Ports.{Shrinks}

-- A world gets what was read of the input.
abbrev pub IsGiven : World → World → LineRead → Fed → Type 0
IsGiven w next (Line line) fed.Done = next ≡ with_more (line ∷ []) false w
IsGiven w next (Last line) fed.Done = next ≡ with_more (line ∷ []) true w
IsGiven w next End fed.Done = next ≡ with_more [] true w
IsGiven w next Failed fed.Failed = next ≡ w
IsGiven w next _ _ = ⊥

-- A world gets what was read, and then each step is done that wanted a line.
pub record Gets (w next : World) (old new : Option (List ℕ)) : Type 0 where
  pub given : List (List ℕ)
  pub ended : Bool
  pub fed : Feeds old new given ended
  pub is : next ≡ with_more given ended w
  pub taken : (a : ℕ) → step w a ≡ WantsLine → IsTaken (step next a)

-- What feeding a world comes to: it gets a line or the end of the input; or that couldn't be read.
abbrev pub IsFed : World → World → Option (List ℕ) → Option (List ℕ) → Fed → Type 0
IsFed w next old new fed.Done = Gets w next old new
IsFed w next old new fed.Failed = (next ≡ w) × Shrinks old new
