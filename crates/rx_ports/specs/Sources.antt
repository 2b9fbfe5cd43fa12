-- What the calls of a source do to the bytes that it has left, where it tells them.
use Rattle.std.specs.Prelude.{◌≡◌, ℕ, List, ◌<◌, ◌≤◌, length, take, Option}
use Rattle.std.specs.Io.KnownBytes.{Keeps, Consumes, IsAtEnd}
use Rattle.rx_ports.specs.declared.source.Taken.{Taken}
use Rattle.rx_ports.specs.declared.source.Taken.TheVariants.{Bytes, End, Failed, NoMemory}

-- `take` gives the next 1 to `most` bytes, the end only where none is left, and else takes none
abbrev pub Takes : ℕ → Option (List ℕ) → Option (List ℕ) → Taken → Type 0
Takes most old new (Bytes v) =
    (0 < length v.items) × (length v.items ≤ most) × Consumes old new v.items
Takes most old new End = IsAtEnd old × Keeps old new
Takes most old new Failed = Keeps old new
Takes most old new NoMemory = Keeps old new

-- what is given is no less than there is, up to `most` bytes
abbrev pub GivesAllThereIs : ℕ → List ℕ → Taken → Type 0
GivesAllThereIs most left (Bytes v) = v.items ≡ take most left
GivesAllThereIs most left End = Unit {0}
GivesAllThereIs most left Failed = Unit {0}
GivesAllThereIs most left NoMemory = Unit {0}
