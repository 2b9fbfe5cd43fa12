-- Objects by their numbers, and what they hold.
use Rattle.std.proofs.Common.{◌≡◌, ◌<◌, ℕ, zero, suc, ◌-◌, Some, List, [], ◌∷◌, length, slice_get, slice_set, refl, sym, ap, arith}
use Rattle.rx_tree.specs.Object.{Object}
use Rattle.rx_tree.specs.Object as machine
use Rattle.rx_heap.specs.declared.kind.Kind.TheVariants as kind
use Rattle.rx_heap.specs.declared.message.MessageRow.{MessageRow}
use Rattle.rx_heap.specs.declared.contents.Contents.{Contents as Kept}
use Rattle.rx_heap.specs.declared.contents.Contents.TheVariants as kept
use Rattle.rx_heap.specs.Kept.{held, row_count, sending}
use Rattle.rx_heap.specs.Objects.{kind_by}

-- ---- a Message's row

pub row_there : (contents : Kept) (own : List MessageRow) → length own ≡ row_count contents → kind_by (held contents own) ≡ kind.Message → 0 < length own
row_there kept.Plain own count is = let e : kind.Plain ≡ kind.Message = is in cc
row_there kept.ClassObject own count is = let e : kind.ClassObject ≡ kind.Message = is in cc
row_there (kept.Array places) own count is = let e : kind.Array ≡ kind.Message = is in cc
row_there (kept.Queue items) own count is = let e : kind.Queue ≡ kind.Message = is in cc
row_there (kept.Directory entries) own count is = let e : kind.Directory ≡ kind.Message = is in cc
row_there kept.Message own count is = let e : length own ≡ 1 = count in omega (arith, e)

sending_first : (own : List MessageRow) (row : MessageRow) → slice_get own 0 ≡ Some row → held kept.Message own ≡ machine.Message (sending row)
sending_first [] row at = cc
sending_first (first ∷ own) row at = let e : first ≡ row = cc in ap (λ (r : MessageRow). machine.Message (sending r)) e

pub held_row : (contents : Kept) (own : List MessageRow) (row : MessageRow) → kind_by (held contents own) ≡ kind.Message → slice_get own 0 ≡ Some row → held contents own ≡ machine.Message (sending row)
held_row kept.Plain own row is at = let e : kind.Plain ≡ kind.Message = is in cc
held_row kept.ClassObject own row is at = let e : kind.ClassObject ≡ kind.Message = is in cc
held_row (kept.Array places) own row is at = let e : kind.Array ≡ kind.Message = is in cc
held_row (kept.Queue items) own row is at = let e : kind.Queue ≡ kind.Message = is in cc
held_row (kept.Directory entries) own row is at = let e : kind.Directory ≡ kind.Message = is in cc
held_row kept.Message own row is at = sending_first own row at

written_first : (own : List MessageRow) (w : MessageRow) → 0 < length own → held kept.Message (slice_set own 0 w) ≡ machine.Message (sending w)
written_first [] w there = absurd (omega (arith, there))
written_first (first ∷ own) w there = refl

pub held_written : (contents : Kept) (own : List MessageRow) (w : MessageRow) → kind_by (held contents own) ≡ kind.Message → 0 < length own → held contents (slice_set own 0 w) ≡ machine.Message (sending w)
held_written kept.Plain own w is there = let e : kind.Plain ≡ kind.Message = is in cc
held_written kept.ClassObject own w is there = let e : kind.ClassObject ≡ kind.Message = is in cc
held_written (kept.Array places) own w is there = let e : kind.Array ≡ kind.Message = is in cc
held_written (kept.Queue items) own w is there = let e : kind.Queue ≡ kind.Message = is in cc
held_written (kept.Directory entries) own w is there = let e : kind.Directory ≡ kind.Message = is in cc
held_written kept.Message own w is there = written_first own w there

-- ---- an object that holds what it held

pub unchanged : (objects : List Object) (place : ℕ) (object : Object) → slice_get objects place ≡ Some object → slice_set objects place object ≡ objects
unchanged [] place object is = cc
unchanged (first ∷ objects) zero object is = let same : first ≡ object = cc in ap (λ (o : Object). o ∷ objects) (sym same)
unchanged (first ∷ objects) (suc place) object is = ap (λ (os : List Object). first ∷ os) (unchanged objects place object is)
