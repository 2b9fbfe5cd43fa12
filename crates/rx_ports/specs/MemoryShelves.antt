-- What a shelf in memory knows, and what a call makes of it.
use Rattle.std.specs.Prelude.{ℕ, ◌+◌, List, [], ◌∷◌, Option, None, Some, cond, Vec, option_map}
use Rattle.std.specs.Str.{bytes_eq}
use Rattle.std.specs.declared.alloc.Global.{Global}
use denote.Ref.{Bor}
use Rattle.rx_ports.specs.Causes.{next_count}
use Rattle.rx_ports.specs.declared.shelf.Fetched.{Fetched}
use Rattle.rx_ports.specs.declared.shelf.Fetched.TheVariants as fetched
use Rattle.rx_ports.specs.declared.shelf.Stored.{Stored}
use Rattle.rx_ports.specs.declared.shelf.Stored.TheVariants as stored

-- the names with their bytes, the numbers of the calls that are to fail, how many calls there were,
-- and how many of them failed
pub record ShelfState : Type 0 where
  pub entries : List (List ℕ × List ℕ)
  pub fail : List ℕ
  pub calls : ℕ
  pub faults : ℕ

-- names and bytes, of a program's list of them
abbrev pub entries_of : List (Vec ℕ Global × Vec ℕ Global) → List (List ℕ × List ℕ)
entries_of [] = []
entries_of (file ∷ files) = (file.0.items, file.1.items) ∷ entries_of files

-- what a name has: of its entries the first counts
abbrev pub file_in : List (List ℕ × List ℕ) → List ℕ → Option (List ℕ)
file_in [] name = None
file_in (entry ∷ entries) name = cond (bytes_eq entry.0 name) (Some entry.1) (file_in entries name)

-- the place of the first entry of a name, or the number of entries where it has none
abbrev pub place_in : List (List ℕ × List ℕ) → List ℕ → ℕ
place_in [] name = 0
place_in (entry ∷ entries) name = cond (bytes_eq entry.0 name) 0 (place_in entries name + 1)

-- the entries once the name has these bytes: its first entry has them, or a new one at the end
abbrev pub with_file : List (List ℕ × List ℕ) → List ℕ → List ℕ → List (List ℕ × List ℕ)
with_file [] name bytes = (name, bytes) ∷ []
with_file (entry ∷ entries) name bytes =
    cond (bytes_eq entry.0 name) ((entry.0, bytes) ∷ entries) (entry ∷ with_file entries name bytes)

-- the bytes behind a reference, if there is one
abbrev pub bytes_behind : Option (Bor (List ℕ)) → Option (List ℕ)
bytes_behind found = option_map (λ r. r.now) found

-- the shelf after a `fetch` that gave this answer
abbrev pub shelf_after_fetch : ShelfState → Fetched → ShelfState
shelf_after_fetch s (fetched.Bytes v) = record s { calls = next_count s.calls }
shelf_after_fetch s fetched.Failed =
    record s { calls = next_count s.calls; faults = next_count s.faults }
shelf_after_fetch s fetched.NoMemory = record s { calls = next_count s.calls }

-- the shelf after a `store` of the bytes under the name that gave this answer
abbrev pub shelf_after_store : ShelfState → List ℕ → List ℕ → Stored → ShelfState
shelf_after_store s name bytes stored.Done =
    record s { entries = with_file s.entries name bytes; calls = next_count s.calls }
shelf_after_store s name bytes stored.Failed =
    record s { calls = next_count s.calls; faults = next_count s.faults }
shelf_after_store s name bytes stored.NoMemory = record s { calls = next_count s.calls }
