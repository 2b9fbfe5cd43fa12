-- The entries of a shelf in memory once a name has bytes.
use Rattle.std.proofs.Common.{◌≡◌, ◌≢◌, ℕ, zero, suc, ◌<◌, ◌≤◌, List, [], ◌∷◌, ◌++◌, length, Some, Vec, refl, ap, arith}
use Rattle.std.specs.Prelude.{slice_index_or, slice_set}
use Rattle.std.specs.declared.alloc.Global.{Global}
use Rattle.std.proofs.lemmas.Slice.Eq.{bytes_eq-Decides}
use Rattle.std.proofs.lemmas.Grind.{common_steps}
use Rattle.rx_ports.specs.MemoryShelves.{entries_of, file_in, place_in, with_file}

-- a name and its bytes, as a program holds them
abbrev pub File : Type 0
File = Vec ℕ Global × Vec ℕ Global

-- files one after another
pub entries_of-append : (xs ys : List (File)) → entries_of (xs ++ ys) ≡ entries_of xs ++ entries_of ys
entries_of-append [] ys = refl
entries_of-append (x ∷ xs) ys = ap (λ rest. (x.0.items, x.1.items) ∷ rest) (entries_of-append xs ys)

-- where no entry has the name, there is a new one at the end
pub with_file-missing : (files : List (File)) (name bytes : List ℕ) →
    length files ≤ place_in (entries_of files) name →
    with_file (entries_of files) name bytes ≡ entries_of files ++ (name, bytes) ∷ []
with_file-missing [] name bytes none = refl
with_file-missing (x ∷ xs) name bytes none = grind (arith, with_file-missing xs name bytes)

-- where an entry has the name, the first such has the new bytes
pub with_file-place : (files : List (File)) (name bytes : List ℕ) (i : ℕ) (old : File)
    (copy : Vec ℕ Global) → i < length files → place_in (entries_of files) name ≡ i →
    old ≡ slice_index_or files i old → copy.items ≡ bytes →
    entries_of (slice_set files i (old.0, copy)) ≡ with_file (entries_of files) name bytes
with_file-place [] name bytes i old copy inside here was now = grind arith
with_file-place (x ∷ xs) name bytes zero old copy inside here was now = grind arith
with_file-place (x ∷ xs) name bytes (suc i) old copy inside here was now =
    grind (arith, with_file-place xs name bytes i old copy)

-- the name has the bytes
pub file_in-with_file : (entries : List (List ℕ × List ℕ)) (name bytes : List ℕ) →
    file_in (with_file entries name bytes) name ≡ Some bytes
file_in-with_file [] name bytes = grind (arith, common_steps, bytes_eq-Decides name name)
file_in-with_file (entry ∷ entries) name bytes =
    grind (arith, common_steps, bytes_eq-Decides entry.0 name, file_in-with_file entries name bytes)

-- and each other name has what it had
pub file_in-with_file_other : (entries : List (List ℕ × List ℕ)) (name bytes other : List ℕ) →
    other ≢ name → file_in (with_file entries name bytes) other ≡ file_in entries other
file_in-with_file_other [] name bytes other apart =
    grind (arith, common_steps, bytes_eq-Decides name other)
file_in-with_file_other (entry ∷ entries) name bytes other apart =
    grind (
      arith,
      common_steps,
      bytes_eq-Decides entry.0 name,
      bytes_eq-Decides entry.0 other,
      file_in-with_file_other entries name bytes other apart,
    )
