-- What is done with the bytes of a reader or a writer whose type tells them.
use Rattle.std.specs.Prelude.{◌≡◌, ℕ, List, take, Option, None, Some}
use Rattle.rx_ports.specs.declared.shelf.Fetched.{Fetched}
use Rattle.rx_ports.specs.declared.shelf.Fetched.TheVariants.{Bytes, Failed, NoMemory}

-- the bytes that the reader has left or that the writer has accepted, where its type tells them,
-- and how many calls failed
pub record StreamState : Type 0 where
  pub bytes : Option (List ℕ)
  pub faults : ℕ

-- the reader has these bytes left, where it tells
abbrev pub HasLeft : Option (List ℕ) → List ℕ → Type 0
HasLeft (Some left) bytes = left ≡ bytes
HasLeft None bytes = Unit {0}

-- what is read is the first `most` bytes of what was left
abbrev pub ReadsFront : Option (List ℕ) → ℕ → Fetched → Type 0
ReadsFront left most (Bytes v) = (whole : List ℕ) × HasLeft left whole × (v.items ≡ take most whole)
ReadsFront left most Failed = Unit {0}
ReadsFront left most NoMemory = Unit {0}
