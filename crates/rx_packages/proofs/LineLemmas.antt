-- The lines of a source, one by one.
use Rattle.std.proofs.Common.{◌≡◌, ◌≢◌, ◌==◌, ◌<◌, ◌+◌, ℕ, zero, suc, Bool, true, false, cond, List, [], ◌∷◌, None, Some, length, take, drop, refl, sym, ◌∙◌, ap, arith, get_or, add-one}
use Rattle.std.proofs.lemmas.Bool.Decides.{nat_tests}
use Rattle.std.specs.List.{slice_split, onto_first}
use Rattle.std.specs.Str.Lines.{lines, lines_of_parts, strip_carriage_return}
use Rattle.memchr.specs.Find.{IsFirstByte, NoneBefore, Passes, is_byte}

not-so : (t : Bool) → (t ≡ true → ⊥) → t ≡ false
not-so true refused = absurd (refused refl)
not-so false refused = refl

-- There is at least one part between line feeds.
record HasPart (parts : List (List ℕ)) : Type 0 where
  pub part : List ℕ
  pub others : List (List ℕ)
  pub is : parts ≡ part ∷ others

part_before : (b : ℕ) (parts : List (List ℕ)) (feed : Bool) → HasPart parts → HasPart (cond feed ([] ∷ parts) (onto_first b parts))
part_before b parts true has = record { part = []; others = parts; is = refl }
part_before b parts false has = record { part = b ∷ has.part; others = has.others; is = ap (onto_first b) has.is }

has-part : (bytes : List ℕ) → HasPart (slice_split (λ b. b == 10) bytes)
has-part [] = record { part = []; others = []; is = refl }
has-part (b ∷ bytes) = part_before b (slice_split (λ x. x == 10) bytes) (b == 10) (has-part bytes)

-- the first part ends at the first line feed
split-at : (bytes : List ℕ) (at : ℕ) → at < length bytes → ((k : ℕ) → k < at → (get_or bytes k 0 == 10) ≡ false) → (get_or bytes at 0 == 10) ≡ true
    → slice_split (λ b. b == 10) bytes ≡ take at bytes ∷ slice_split (λ b. b == 10) (drop (suc at) bytes)
split-at [] at within before here = absurd (omega arith)
split-at (b ∷ bytes) zero within before here =
    ap (λ t. cond t ([] ∷ slice_split (λ x. x == 10) bytes) (onto_first b (slice_split (λ x. x == 10) bytes))) here
split-at (b ∷ bytes) (suc at) within before here =
    let first : (b == 10) ≡ false = before 0 (omega arith) in
    let shorter : at < length bytes = omega arith in
    ap (λ t. cond t ([] ∷ slice_split (λ x. x == 10) bytes) (onto_first b (slice_split (λ x. x == 10) bytes))) first
    ∙ ap (onto_first b) (split-at bytes at shorter (λ k below. before (suc k) (omega arith)) here)

split-none : (bytes : List ℕ) → ((k : ℕ) → k < length bytes → (get_or bytes k 0 == 10) ≡ false) → slice_split (λ b. b == 10) bytes ≡ bytes ∷ []
split-none [] none = refl
split-none (b ∷ bytes) none =
    let first : (b == 10) ≡ false = none 0 (omega arith) in
    ap (λ t. cond t ([] ∷ slice_split (λ x. x == 10) bytes) (onto_first b (slice_split (λ x. x == 10) bytes))) first
    ∙ ap (onto_first b) (split-none bytes (λ k below. none (suc k) (omega arith)))

-- a part before another is a line
part-line : (part : List ℕ) (parts : List (List ℕ)) → HasPart parts → lines_of_parts (part ∷ parts) ≡ strip_carriage_return part ∷ lines_of_parts parts
part-line part parts has =
    ap (λ xs. lines_of_parts (part ∷ xs)) has.is ∙ ap (λ xs. strip_carriage_return part ∷ lines_of_parts xs) (sym has.is)

-- The first line ends at the first line feed.
pub lines-feed : (bytes : List ℕ) (at : ℕ) → IsFirstByte (is_byte 10) bytes (Some at)
    → lines bytes ≡ strip_carriage_return (take at bytes) ∷ lines (drop (at + 1) bytes)
lines-feed bytes at found =
    let place : NoneBefore (Passes (is_byte 10) bytes) 0 (length bytes) at = found.0 in
    let split : slice_split (λ b. b == 10) bytes ≡ take at bytes ∷ slice_split (λ b. b == 10) (drop (suc at) bytes) =
    split-at bytes at place.high (λ k below. not-so (get_or bytes k 0 == 10) (place.before k (omega arith) below)) found.1 in
    ap lines_of_parts split
    ∙ part-line (take at bytes) (slice_split (λ b. b == 10) (drop (suc at) bytes)) (has-part (drop (suc at) bytes))
    ∙ ap (λ n. strip_carriage_return (take at bytes) ∷ lines (drop n bytes)) (sym (add-one at))

some-length : (bytes : List ℕ) → bytes ≢ [] → (length bytes == 0) ≡ false
some-length [] some = absurd (some refl)
some-length (b ∷ bytes) some = let more : length (b ∷ bytes) ≡ suc (length bytes) = refl in grind (arith, nat_tests)

-- Without a line feed there is one line.
pub lines-last : (bytes : List ℕ) → bytes ≢ [] → IsFirstByte (is_byte 10) bytes None → lines bytes ≡ bytes ∷ []
lines-last bytes some none =
    ap lines_of_parts (split-none bytes (λ k below. not-so (get_or bytes k 0 == 10) (none k (omega arith) below)))
    ∙ ap (λ t. cond t [] (bytes ∷ [])) (some-length bytes some)

pub nothing-left : (bytes : List ℕ) → length bytes ≡ 0 → bytes ≡ []
nothing-left [] none = refl
nothing-left (b ∷ bytes) none = absurd (omega arith)
