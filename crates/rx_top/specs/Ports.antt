-- What a call sees of the objects that it is handed.
use Rattle.std.specs.Prelude.{◌≡◌, ℕ, List, Option, None, Some, ◌⊎◌}
use Rattle.std.specs.Io.KnownBytes.{Consumes}
use Rattle.rx_ports.specs.Causes.{Rose}
use Rattle.rx_ports.specs.Shelves.{Files}

-- What a call takes from: the files of the shelf, and the bytes that the input has left, where they are told; and how often
-- each has failed.
pub record Supplies : Type 0 where
  pub files : Option Files
  pub shelf_faults : ℕ
  pub input : Option (List ℕ)
  pub input_faults : ℕ

abbrev pub supplies : Option Files → ℕ → Option (List ℕ) → ℕ → Supplies
supplies files shelf_faults input input_faults = record { files = files; shelf_faults = shelf_faults; input = input; input_faults = input_faults }

-- What all objects hold, where they tell it, and how often they have failed.
pub record Ports : Type 0 where
  pub supplies : Supplies
  -- the bytes that standard output and standard error have accepted
  pub out : Option (List ℕ)
  pub out_faults : ℕ
  pub err : Option (List ℕ)
  pub err_faults : ℕ

abbrev pub ports : Option Files → ℕ → Option (List ℕ) → ℕ → Option (List ℕ) → ℕ → Option (List ℕ) → ℕ → Ports
ports files shelf_faults input input_faults out out_faults err err_faults = record {
  supplies = supplies files shelf_faults input input_faults;
  out = out;
  out_faults = out_faults;
  err = err;
  err_faults = err_faults;
}

-- the input had these bytes, where it tells
abbrev pub HasInput : Option (List ℕ) → List ℕ → Type 0
HasInput None bytes = Unit {0}
HasInput (Some left) bytes = left ≡ bytes

-- The input had these bytes, and has those left; where it tells.
abbrev pub Leaves : Option (List ℕ) → Option (List ℕ) → List ℕ → List ℕ → Type 0
Leaves None now bytes left = Unit {0}
Leaves (Some had) None bytes left = ⊥
Leaves (Some had) (Some has) bytes left = (had ≡ bytes) × (has ≡ left)

-- the input has lost some bytes of its front, or none
abbrev pub Shrinks : Option (List ℕ) → Option (List ℕ) → Type 0
Shrinks old new = (read : List ℕ) × Consumes old new read

-- the input is as it was
abbrev pub Unread : Supplies → Supplies → Type 0
Unread before now = now.input ≡ before.input

-- standard output or standard error has failed
abbrev pub SinkRose : Ports → Ports → Type 0
SinkRose before now = Rose before.out_faults now.out_faults ⊎ Rose before.err_faults now.err_faults
