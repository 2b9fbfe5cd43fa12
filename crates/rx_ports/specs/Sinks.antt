-- What a sink has accepted, where it tells.
use Rattle.std.specs.Prelude.{◌≡◌, ℕ, List, ◌++◌, Option}
use Rattle.std.specs.Io.KnownBytes.{Appends}
use Rattle.rx_ports.specs.declared.sink.Accepted.{Accepted}
use Rattle.rx_ports.specs.declared.sink.Accepted.TheVariants.{All, Failed, NoMemory}

-- some first bytes were appended, which may be all or none
abbrev pub AppendsPrefix : Option (List ℕ) → Option (List ℕ) → List ℕ → Type 0
AppendsPrefix old new bytes =
    (front rest : List ℕ) × (bytes ≡ front ++ rest) × Appends old new front

-- all of the bytes were appended at `All`, and else some first ones
abbrev pub Puts : Option (List ℕ) → Option (List ℕ) → List ℕ → Accepted → Type 0
Puts old new bytes All = Appends old new bytes
Puts old new bytes Failed = AppendsPrefix old new bytes
Puts old new bytes NoMemory = AppendsPrefix old new bytes
