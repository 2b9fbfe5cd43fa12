-- Lines that are read of the input.
use Rattle.std.specs.Prelude.{◌≡◌, ◌≢◌, ℕ, Bool, true, false, List, [], ◌∷◌, ◌++◌, Option}
use Rattle.std.specs.Io.KnownBytes.{Consumes, IsAtEnd, Keeps}
use Rattle.rx_machine.specs.Input.{lines}
use Rattle.rx_top.specs.declared.lines.ByteRead.{ByteRead}
use Rattle.rx_top.specs.declared.lines.ByteRead.TheVariants as byte
use Rattle.rx_top.specs.declared.lines.LineRead.{LineRead}
use Rattle.rx_top.specs.declared.lines.LineRead.TheVariants.{Line, Last, End, Failed, NoMemory}
use Rattle.rx_top.specs.Ports.{HasInput, Shrinks}

-- what reading a byte gives
abbrev pub IsNextByte : Option (List ℕ) → Option (List ℕ) → ByteRead → Type 0
IsNextByte old new (byte.Byte b) = Consumes old new (b ∷ [])
IsNextByte old new byte.End = IsAtEnd old × Keeps old new
IsNextByte old new byte.Failed = Keeps old new
IsNextByte old new byte.NoMemory = Keeps old new

-- these bytes are a line
abbrev pub IsLine : List ℕ → LineRead → Type 0
IsLine bytes (Line line) = line ≡ bytes
IsLine bytes NoMemory = Unit {0}
IsLine bytes _ = ⊥

-- they are one that the end of the input ends, if there are any
abbrev pub IsLastLine : List ℕ → LineRead → Type 0
IsLastLine bytes (Last line) = (line ≡ bytes) × (bytes ≢ [])
IsLastLine bytes End = bytes ≡ []
IsLastLine bytes NoMemory = Unit {0}
IsLastLine bytes _ = ⊥

-- Bytes spell these lines, whatever comes behind them; or where they are all that the input had, with nothing behind them.
abbrev pub Spell : Bool → Option (List ℕ) → List ℕ → List (List ℕ) → Type 0
Spell false had read given = (behind : List ℕ) → lines (read ++ behind) ≡ given ++ lines behind
Spell true had read given = HasInput had read × (lines read ≡ given)

-- These lines were read of the input, and perhaps its end.
pub record Feeds (old new : Option (List ℕ)) (given : List (List ℕ)) (ended : Bool) : Type 0 where
  pub read : List ℕ
  pub taken : Consumes old new read
  pub spell : Spell ended old read given

-- What reading a line of the input gives: the next line; or the last one, which the end of the input ends; or that end.
abbrev pub IsLineRead : Option (List ℕ) → Option (List ℕ) → LineRead → Type 0
IsLineRead old new (Line line) = Feeds old new (line ∷ []) false
IsLineRead old new (Last line) = Feeds old new (line ∷ []) true
IsLineRead old new End = Feeds old new [] true
IsLineRead old new Failed = Shrinks old new
IsLineRead old new NoMemory = Shrinks old new
