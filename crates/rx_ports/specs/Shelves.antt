-- What a shelf holds, where it tells, and what its calls do to that.
use Rattle.std.specs.Prelude.{◌≡◌, ◌≢◌, ℕ, List, take, Option, None, Some}
use Rattle.rx_ports.specs.declared.shelf.Fetched.{Fetched}
use Rattle.rx_ports.specs.declared.shelf.Fetched.TheVariants.{Bytes, Failed, NoMemory}

-- a map from names to bytes
abbrev pub Files : Type 0
Files = List ℕ → Option (List ℕ)

-- the name has these bytes, where the shelf tells
abbrev pub HasFile : Option Files → List ℕ → List ℕ → Type 0
HasFile (Some files) name bytes = files name ≡ Some bytes
HasFile None name bytes = Unit {0}

-- `fetch` gives the first `most` bytes of what the name has
abbrev pub Fetches : Option Files → List ℕ → ℕ → Fetched → Type 0
Fetches files name most (Bytes v) =
    (whole : List ℕ) × HasFile files name whole × (v.items ≡ take most whole)
Fetches files name most Failed = Unit {0}
Fetches files name most NoMemory = Unit {0}

-- every other name stays as it was
abbrev pub KeepsOthers : Option Files → Option Files → List ℕ → Type 0
KeepsOthers (Some old) (Some new) name = (other : List ℕ) → other ≢ name → new other ≡ old other
KeepsOthers (Some old) None name = ⊥
KeepsOthers None new name = Unit {0}
