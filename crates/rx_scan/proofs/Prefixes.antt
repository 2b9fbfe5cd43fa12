-- Prefixes of bytes that pass a test.
use Rattle.std.proofs.Common.{◌≡◌, ◌<◌, ◌==◌, ◌+◌, ℕ, zero, suc, Bool, true, false, not, cond, ◌&&◌, List, [], ◌∷◌, ◌++◌, None, Some, length, take, drop, get_or, refl, ◌∙◌, ap, arith}
use Rattle.std.proofs.lemmas.List.Sums.{prefix_len-le-length}
use Rattle.std.proofs.Math.ListN.{drop_of_length-le}
use Rattle.std.specs.Cmp.{first_so, second_so}
use Rattle.std.specs.List.{list_all, prefix_len}
use Rattle.memchr.specs.Find.{IsFirstByte, NoneBefore, Passes, is_byte}
use Rattle.rx_tree.specs.Letters.{is_feed, begins}
use Rattle.rx_scan.specs.Reader.{line_rest}

pub ruleset lengths = (prefix_len-le-length)

pub both_so : (s t : Bool) → s ≡ true → t ≡ true → (s && t) ≡ true
both_so true t first second = second
both_so false t first second = first

pub not-so : (t : Bool) → (t ≡ true → ⊥) → t ≡ false
not-so true refused = absurd (refused refl)
not-so false refused = refl

front-all : (test : ℕ → Bool) (b : ℕ) (bytes : List ℕ) (passes : Bool) → test b ≡ passes
    → list_all test (take (prefix_len test bytes) bytes) ≡ true
    → list_all test (take (cond passes (1 + prefix_len test bytes) 0) (b ∷ bytes)) ≡ true
front-all test b bytes true is rest =
    let next : 1 + prefix_len test bytes ≡ suc (prefix_len test bytes) = omega arith in
    ap (λ n. list_all test (take n (b ∷ bytes))) next ∙ both_so (test b) _ is rest
front-all test b bytes false is rest = refl

-- the bytes that are counted pass
pub prefix_len-all : (test : ℕ → Bool) (bytes : List ℕ) → list_all test (take (prefix_len test bytes) bytes) ≡ true
prefix_len-all test [] = refl
prefix_len-all test (b ∷ bytes) = front-all test b bytes (test b) refl (prefix_len-all test bytes)

behind-stops : (test : ℕ → Bool) (b : ℕ) (bytes : List ℕ) (passes : Bool) → test b ≡ passes
    → begins test (drop (prefix_len test bytes) bytes) ≡ false
    → begins test (drop (cond passes (1 + prefix_len test bytes) 0) (b ∷ bytes)) ≡ false
behind-stops test b bytes true is rest =
    let next : 1 + prefix_len test bytes ≡ suc (prefix_len test bytes) = omega arith in
    ap (λ n. begins test (drop n (b ∷ bytes))) next ∙ rest
behind-stops test b bytes false is rest = is

-- the byte behind doesn't
pub prefix_len-stops : (test : ℕ → Bool) (bytes : List ℕ) → begins test (drop (prefix_len test bytes) bytes) ≡ false
prefix_len-stops test [] = refl
prefix_len-stops test (b ∷ bytes) = behind-stops test b bytes (test b) refl (prefix_len-stops test bytes)

-- all of these bytes pass, and the one behind doesn't
pub prefix_len-is : (test : ℕ → Bool) (front rest : List ℕ) → list_all test front ≡ true → begins test rest ≡ false
    → prefix_len test (front ++ rest) ≡ length front
prefix_len-is test [] [] all ends = refl
prefix_len-is test [] (b ∷ rest) all ends = ap (λ t. cond t (1 + prefix_len test rest) 0) ends
prefix_len-is test (b ∷ front) rest all ends =
    let later : prefix_len test (front ++ rest) ≡ length front = prefix_len-is test front rest (second_so (test b) _ all) ends in
    ap (λ t. cond t (1 + prefix_len test (front ++ rest)) 0) (first_so (test b) _ all) ∙ omega arith

-- the bytes before the first that fails
pub prefix_len-at : (test : ℕ → Bool) (bytes : List ℕ) (at : ℕ) → at < length bytes
    → ((k : ℕ) → k < at → test (get_or bytes k 0) ≡ true) → test (get_or bytes at 0) ≡ false → prefix_len test bytes ≡ at
prefix_len-at test [] at within before here = absurd (omega arith)
prefix_len-at test (b ∷ bytes) zero within before here = ap (λ t. cond t (1 + prefix_len test bytes) 0) here
prefix_len-at test (b ∷ bytes) (suc at) within before here =
    let shorter : at < length bytes = omega arith in
    let later : prefix_len test bytes ≡ at = prefix_len-at test bytes at shorter (λ k below. before (suc k) (omega arith)) here in
    ap (λ t. cond t (1 + prefix_len test bytes) 0) (before 0 (omega arith)) ∙ omega arith

pub prefix_len-none : (test : ℕ → Bool) (bytes : List ℕ)
    → ((k : ℕ) → k < length bytes → test (get_or bytes k 0) ≡ true) → prefix_len test bytes ≡ length bytes
prefix_len-none test [] before = refl
prefix_len-none test (b ∷ bytes) before =
    let later : prefix_len test bytes ≡ length bytes = prefix_len-none test bytes (λ k below. before (suc k) (omega arith)) in
    ap (λ t. cond t (1 + prefix_len test bytes) 0) (before 0 (omega arith)) ∙ omega arith

-- The line ends at the first line feed.
pub line_rest-at : (bytes : List ℕ) (at : ℕ) → IsFirstByte (is_byte 10) bytes (Some at) → line_rest bytes ≡ drop at bytes
line_rest-at bytes at found =
    let place : NoneBefore (Passes (is_byte 10) bytes) 0 (length bytes) at = found.0 in
    ap (λ n. drop n bytes) (prefix_len-at (λ b. not (is_feed b)) bytes at place.high
    (λ k below. ap not (not-so (get_or bytes k 0 == 10) (place.before k (omega arith) below))) (ap not found.1))

pub line_rest-none : (bytes : List ℕ) → IsFirstByte (is_byte 10) bytes None → line_rest bytes ≡ []
line_rest-none bytes none =
    let all : prefix_len (λ b. not (is_feed b)) bytes ≡ length bytes =
    prefix_len-none (λ b. not (is_feed b)) bytes (λ k below. ap not (not-so (get_or bytes k 0 == 10) (none k (omega arith) below))) in
    ap (λ n. drop n bytes) all ∙ drop_of_length-le bytes (omega arith)
