-- The parts of a tail, one by one.
use Rattle.std.proofs.Common.{◌≡◌, ◌<◌, ◌≤◌, ◌+◌, ℕ, suc, Bool, true, false, not, cond, List, [], ◌∷◌, ◌++◌, None, Some, length, take, drop, refl, sym, ◌∙◌, ap, arith, append_assoc, add-one}
use Rattle.std.specs.Prelude.{map, position, nat_lt}
use Rattle.std.proofs.lemmas.Bool.{ltb-true, ltb-false}
use Rattle.std.specs.List.{prefix_len, slice_split, onto_first}
use Rattle.rx_tree.specs.declared.name.Part.{Part}
use Rattle.rx_tree.specs.Letters.{is_period}
use Rattle.rx_tree.specs.Symbols.{part_of, parts_of}

-- how many bytes stand before the first period
abbrev before_period : List ℕ → ℕ
before_period bytes = prefix_len (λ b. not (is_period b)) bytes

split-byte : (b : ℕ) (bytes : List ℕ) (period : Bool) → is_period b ≡ period
    → (before_period bytes < length bytes → slice_split is_period bytes ≡ take (before_period bytes) bytes ∷ slice_split is_period (drop (suc (before_period bytes)) bytes))
    → before_period (b ∷ bytes) < length (b ∷ bytes)
    → slice_split is_period (b ∷ bytes) ≡ take (before_period (b ∷ bytes)) (b ∷ bytes) ∷ slice_split is_period (drop (suc (before_period (b ∷ bytes))) (b ∷ bytes))
split-byte b bytes true is later within =
    let none : before_period (b ∷ bytes) ≡ 0 = ap (λ t. cond (not t) (1 + before_period bytes) 0) is in
    ap (λ t. cond t ([] ∷ slice_split is_period bytes) (onto_first b (slice_split is_period bytes))) is
    ∙ ap (λ n. take n (b ∷ bytes) ∷ slice_split is_period (drop (suc n) (b ∷ bytes))) (sym none)
split-byte b bytes false is later within =
    let more : before_period (b ∷ bytes) ≡ suc (before_period bytes) = ap (λ t. cond (not t) (1 + before_period bytes) 0) is ∙ omega arith in
    let shorter : before_period bytes < length bytes = omega arith in
    ap (λ t. cond t ([] ∷ slice_split is_period bytes) (onto_first b (slice_split is_period bytes))) is
    ∙ ap (onto_first b) (later shorter)
    ∙ ap (λ n. take n (b ∷ bytes) ∷ slice_split is_period (drop (suc n) (b ∷ bytes))) (sym more)

split-first : (bytes : List ℕ) → before_period bytes < length bytes
    → slice_split is_period bytes ≡ take (before_period bytes) bytes ∷ slice_split is_period (drop (suc (before_period bytes)) bytes)
split-first [] within = absurd (omega arith)
split-first (b ∷ bytes) within = split-byte b bytes (is_period b) refl (split-first bytes) within

split-last_byte : (b : ℕ) (bytes : List ℕ) (period : Bool) → is_period b ≡ period
    → (length bytes ≤ before_period bytes → slice_split is_period bytes ≡ bytes ∷ []) → length (b ∷ bytes) ≤ before_period (b ∷ bytes)
    → slice_split is_period (b ∷ bytes) ≡ (b ∷ bytes) ∷ []
split-last_byte b bytes true is later all =
    let none : before_period (b ∷ bytes) ≡ 0 = ap (λ t. cond (not t) (1 + before_period bytes) 0) is in absurd (omega arith)
split-last_byte b bytes false is later all =
    let more : before_period (b ∷ bytes) ≡ suc (before_period bytes) = ap (λ t. cond (not t) (1 + before_period bytes) 0) is ∙ omega arith in
    ap (λ t. cond t ([] ∷ slice_split is_period bytes) (onto_first b (slice_split is_period bytes))) is
    ∙ ap (onto_first b) (later (omega arith))

split-last : (bytes : List ℕ) → length bytes ≤ before_period bytes → slice_split is_period bytes ≡ bytes ∷ []
split-last [] all = refl
split-last (b ∷ bytes) all = split-last_byte b bytes (is_period b) refl (split-last bytes) all

position-some : (bytes : List ℕ) (at : ℕ) (within : Bool) → nat_lt (before_period bytes) (length bytes) ≡ within
    → cond within (Some (before_period bytes)) None ≡ Some at
    → slice_split is_period bytes ≡ take at bytes ∷ slice_split is_period (drop (at + 1) bytes)
position-some bytes at true tested is =
    let same : before_period bytes ≡ at = cc in
    split-first bytes (ltb-true (before_period bytes) (length bytes) tested)
    ∙ ap (λ n. take n bytes ∷ slice_split is_period (drop (suc n) bytes)) same
    ∙ ap (λ n. take at bytes ∷ slice_split is_period (drop n bytes)) (sym (add-one at))
position-some bytes at false tested is = cc

position-none : (bytes : List ℕ) (within : Bool) → nat_lt (before_period bytes) (length bytes) ≡ within
    → cond within (Some (before_period bytes)) None ≡ None → slice_split is_period bytes ≡ bytes ∷ []
position-none bytes true tested is = cc
position-none bytes false tested is = split-last bytes (ltb-false (before_period bytes) (length bytes) tested)

-- A tail goes on behind its first period.
pub parts_of-some : (tail : List ℕ) (at : ℕ) → position is_period tail ≡ Some at → parts_of tail ≡ part_of (take at tail) ∷ parts_of (drop (at + 1) tail)
parts_of-some tail at is = ap (map part_of) (position-some tail at (nat_lt (before_period tail) (length tail)) refl is)

-- Without a period it is one part.
pub parts_of-none : (tail : List ℕ) → position is_period tail ≡ None → parts_of tail ≡ part_of tail ∷ []
parts_of-none tail is = ap (map part_of) (position-none tail (nat_lt (before_period tail) (length tail)) refl is)

pub parts-push : (parts pushed : List Part) (tail rest : List ℕ) (at : ℕ) (part : Part) → parts ++ parts_of rest ≡ parts_of tail
    → position is_period rest ≡ Some at → part ≡ part_of (take at rest) → pushed ≡ parts ++ part ∷ []
    → pushed ++ parts_of (drop (at + 1) rest) ≡ parts_of tail
parts-push parts pushed tail rest at part joined found is push =
    ap (λ xs. xs ++ parts_of (drop (at + 1) rest)) (push ∙ ap (λ p. parts ++ p ∷ []) is)
    ∙ append_assoc parts (part_of (take at rest) ∷ []) (parts_of (drop (at + 1) rest))
    ∙ ap (λ xs. parts ++ xs) (sym (parts_of-some rest at found)) ∙ joined

pub parts-last : (parts pushed : List Part) (tail rest : List ℕ) (part : Part) → parts ++ parts_of rest ≡ parts_of tail
    → position is_period rest ≡ None → part ≡ part_of rest → pushed ≡ parts ++ part ∷ [] → pushed ≡ parts_of tail
parts-last parts pushed tail rest part joined none is push =
    push ∙ ap (λ p. parts ++ p ∷ []) is ∙ ap (λ xs. parts ++ xs) (sym (parts_of-none rest none)) ∙ joined
