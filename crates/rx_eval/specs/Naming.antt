-- What building a tail answers.
use Rattle.std.specs.Prelude.{◌≡◌, ◌≤◌, ◌<◌, ℕ, List, ◌++◌, length, Vec, Option, Some, None}
use Rattle.std.specs.declared.alloc.Global.{Global}
use Rattle.rx_tree.specs.Bytes.{longest}
use Rattle.rx_tree.specs.declared.name.Derived.{Derived}
use Rattle.rx_tree.specs.declared.name.Derived.TheVariants.{Compound}
use Rattle.rx_eval.specs.declared.naming.Named.{Named}
use Rattle.rx_eval.specs.declared.naming.Named.TheVariants.{Known}

-- bytes that are there exactly where they have room
abbrev pub Tails : Option (Vec ℕ Global) → ℕ → List ℕ → Type 0
Tails None room bytes = room < length bytes
Tails (Some tail) room bytes = (tail.items ≡ bytes) × (length tail.items ≤ room)

-- a derived name that is a text
abbrev pub HasRoom : Derived → Type 0
HasRoom (Compound stem tail) = length (stem ++ tail) ≤ longest
HasRoom _ = Unit {0}

abbrev pub IsShort : Named → Type 0
IsShort (Known name) = HasRoom name
IsShort _ = Unit {0}
