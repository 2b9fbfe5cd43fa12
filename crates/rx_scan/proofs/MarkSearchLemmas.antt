-- A comment goes on at the next byte that may begin a mark of it.
use Rattle.std.proofs.Common.{◌≡◌, ◌==◌, ℕ, true, false, not, List, [], ◌∷◌, ◌++◌, None, Some, length, take, drop, get_or, refl, sym, ◌∙◌, ap, arith}
use Rattle.std.proofs.lemmas.List.{take-append-drop}
use Rattle.std.proofs.Math.ListN.{drop_of_length-le}
use Rattle.std.proofs.lemmas.Bool.{or_parts, cond-false, not-true, and_left}
use Rattle.std.specs.Cmp.{first_so, second_so}
use Rattle.std.specs.List.{list_all, prefix_len}
use Rattle.memchr.specs.Find.{IsFirstByte, NoneBefore, Passes, is_byte2}
use Rattle.rx_scan.specs.Reader.{close_from}
use Rattle.rx_scan.proofs.Prefixes.{not-so, prefix_len-all, prefix_len-at, prefix_len-none}

skip-byte : (n b : ℕ) (bytes : List ℕ) → is_byte2 42 47 b ≡ false → close_from n (b ∷ bytes) ≡ close_from n bytes
skip-byte n b [] plain = refl
skip-byte n b (c ∷ bytes) plain =
    let neither : ((b == 42) ≡ false) × ((b == 47) ≡ false) = or_parts (b == 42) (b == 47) plain in
    cond-false _ _ _ (and_left (b == 42) (c == 47) neither.0) ∙ cond-false _ _ _ (and_left (b == 47) (c == 42) neither.1)

skip-front : (n : ℕ) (front rest : List ℕ) → list_all (λ b. not (is_byte2 42 47 b)) front ≡ true → close_from n (front ++ rest) ≡ close_from n rest
skip-front n [] rest plain = refl
skip-front n (b ∷ front) rest plain =
    skip-byte n b (front ++ rest) (not-true (is_byte2 42 47 b) (first_so (not (is_byte2 42 47 b)) _ plain))
    ∙ skip-front n front rest (second_so (not (is_byte2 42 47 b)) _ plain)

-- bytes before a place, of which none may begin a mark
skip-to : (n : ℕ) (bytes : List ℕ) (at : ℕ) → prefix_len (λ b. not (is_byte2 42 47 b)) bytes ≡ at → close_from n (drop at bytes) ≡ close_from n bytes
skip-to n bytes at count =
    sym (skip-front n (take at bytes) (drop at bytes)
    (ap (λ k. list_all (λ b. not (is_byte2 42 47 b)) (take k bytes)) (sym count) ∙ prefix_len-all (λ b. not (is_byte2 42 47 b)) bytes))
    ∙ ap (close_from n) (take-append-drop at bytes)

pub mark-at : (bytes : List ℕ) (at : ℕ) → IsFirstByte (is_byte2 42 47) bytes (Some at) → (n : ℕ) → close_from n (drop at bytes) ≡ close_from n bytes
mark-at bytes at found n =
    let place : NoneBefore (Passes (is_byte2 42 47) bytes) 0 (length bytes) at = found.0 in
    let passed : is_byte2 42 47 (get_or bytes at 0) ≡ true = found.1 in
    skip-to n bytes at (prefix_len-at (λ b. not (is_byte2 42 47 b)) bytes at place.high
    (λ k below. ap not (not-so (is_byte2 42 47 (get_or bytes k 0)) (place.before k (omega arith) below))) (ap not passed))

pub mark-none : (bytes : List ℕ) → IsFirstByte (is_byte2 42 47) bytes None → (n : ℕ) → close_from n [] ≡ close_from n bytes
mark-none bytes none n =
    ap (close_from n) (sym (drop_of_length-le bytes (omega arith)))
    ∙ skip-to n bytes (length bytes) (prefix_len-none (λ b. not (is_byte2 42 47 b)) bytes
    (λ k below. ap not (not-so (is_byte2 42 47 (get_or bytes k 0)) (none k (omega arith) below))))
