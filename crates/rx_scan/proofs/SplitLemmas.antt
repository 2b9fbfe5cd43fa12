-- A string's text, quote by quote.
use Rattle.std.proofs.Common.{◌≡◌, ◌==◌, ◌+◌, ◌<◌, ℕ, suc, Bool, true, false, not, ◌||◌, List, [], ◌∷◌, ◌++◌, None, Some, length, take, drop, get_or, refl, sym, ◌∙◌, ap, arith, append_assoc, add-one, length-append}
use Rattle.std.proofs.lemmas.List.{append-nil, take-append-drop}
use Rattle.std.proofs.Math.Seq.{drop-cons}
use Rattle.std.proofs.lemmas.Bool.{or_parts, cond-true, cond-false, eq-eqb, ne_eqb, not-true}
use Rattle.std.specs.Cmp.{first_so, second_so}
use Rattle.std.specs.List.{list_all, prefix_len}
use Rattle.memchr.specs.Find.{IsFirstByte, NoneBefore, Passes, is_byte2}
use Rattle.rx_tree.specs.Letters.{begins}
use Rattle.rx_scan.specs.Reader.{string_from, string_at_quote}
use Rattle.rx_scan.specs.Read.{IsSplit, HasNoQuote}
use Rattle.rx_scan.proofs.Prefixes.{not-so, prefix_len-all, prefix_len-at, prefix_len-none}

-- a byte of a text, which is no quote and ends no line
abbrev is_plain_in : ℕ → ℕ → Bool
is_plain_in quote b = not (is_byte2 quote 10 b)

-- such bytes are text
skip-text : (quote : ℕ) (text front rest : List ℕ) → list_all (λ b. not (is_byte2 quote 10 b)) front ≡ true
    → string_from quote text (front ++ rest) ≡ string_from quote (text ++ front) rest
skip-text quote text [] rest plain = ap (λ xs. string_from quote xs rest) (sym (append-nil text))
skip-text quote text (b ∷ front) rest plain =
    let neither : ((b == quote) ≡ false) × ((b == 10) ≡ false) = or_parts (b == quote) (b == 10) (not-true (is_byte2 quote 10 b) (first_so (is_plain_in quote b) _ plain)) in
    cond-false _ _ _ neither.0 ∙ cond-false _ _ _ neither.1
    ∙ skip-text quote (text ++ b ∷ []) front rest (second_so (is_plain_in quote b) _ plain)
    ∙ ap (λ xs. string_from quote xs rest) (append_assoc text (b ∷ []) front)

at-quote : (quote : ℕ) (text rest : List ℕ) → string_from quote text (quote ∷ rest) ≡ string_at_quote quote text rest
at-quote quote text rest = cond-true _ _ _ (eq-eqb quote quote refl)

-- a text up to its next quote
pub split-text : (quote : ℕ) (text bytes front behind : List ℕ) → IsSplit quote bytes front behind
    → string_from quote text bytes ≡ string_at_quote quote (text ++ front) behind
split-text quote text bytes front behind split =
    ap (string_from quote text) split.is ∙ skip-text quote text front (quote ∷ behind) split.plain ∙ at-quote quote (text ++ front) behind

plain-before : (quote : ℕ) (bytes : List ℕ) (at : ℕ) → IsFirstByte (is_byte2 quote 10) bytes (Some at) → list_all (λ b. not (is_byte2 quote 10 b)) (take at bytes) ≡ true
plain-before quote bytes at found =
    let place : NoneBefore (Passes (is_byte2 quote 10) bytes) 0 (length bytes) at = found.0 in
    let passed : is_byte2 quote 10 (get_or bytes at 0) ≡ true = found.1 in
    let count : prefix_len (λ b. not (is_byte2 quote 10 b)) bytes ≡ at =
    prefix_len-at (λ b. not (is_byte2 quote 10 b)) bytes at place.high
    (λ k below. ap not (not-so (is_byte2 quote 10 (get_or bytes k 0)) (place.before k (omega arith) below))) (ap not passed) in
    ap (λ n. list_all (λ b. not (is_byte2 quote 10 b)) (take n bytes)) (sym count) ∙ prefix_len-all (λ b. not (is_byte2 quote 10 b)) bytes

cut-at : (bytes : List ℕ) (at : ℕ) → at < length bytes → bytes ≡ take at bytes ++ (get_or bytes at 0 ∷ drop (at + 1) bytes)
cut-at bytes at within =
    sym (take-append-drop at bytes) ∙ ap (λ xs. take at bytes ++ xs) (drop-cons bytes at 0 within)
    ∙ ap (λ n. take at bytes ++ (get_or bytes at 0 ∷ drop n bytes)) (sym (add-one at))

-- the byte that was found is the quote
pub split-at : (quote : ℕ) (bytes : List ℕ) (at : ℕ) → IsFirstByte (is_byte2 quote 10) bytes (Some at) → get_or bytes at 0 ≡ quote
    → IsSplit quote bytes (take at bytes) (drop (at + 1) bytes)
split-at quote bytes at found here =
    let place : NoneBefore (Passes (is_byte2 quote 10) bytes) 0 (length bytes) at = found.0 in
    record {
      is = cut-at bytes at place.high ∙ ap (λ b. take at bytes ++ (b ∷ drop (at + 1) bytes)) here;
      plain = plain-before quote bytes at found;
    }

feed-here : (quote b : ℕ) → is_byte2 quote 10 b ≡ true → (b ≡ quote → ⊥) → ((b == quote) ≡ false) × ((b == 10) ≡ true)
feed-here quote b passed other =
    let no : (b == quote) ≡ false = ne_eqb b quote other in
    (no, ap (λ t. t || (b == 10)) (sym no) ∙ passed)

-- the line ends there
pub feed-at : (quote : ℕ) (bytes : List ℕ) (at : ℕ) → IsFirstByte (is_byte2 quote 10) bytes (Some at) → (get_or bytes at 0 ≡ quote → ⊥) → HasNoQuote quote bytes
feed-at quote bytes at found other = λ text.
    let place : NoneBefore (Passes (is_byte2 quote 10) bytes) 0 (length bytes) at = found.0 in
    let feed : ((get_or bytes at 0 == quote) ≡ false) × ((get_or bytes at 0 == 10) ≡ true) = feed-here quote (get_or bytes at 0) found.1 other in
    ap (string_from quote text) (cut-at bytes at place.high)
    ∙ skip-text quote text (take at bytes) (get_or bytes at 0 ∷ drop (at + 1) bytes) (plain-before quote bytes at found)
    ∙ cond-false _ _ _ feed.0 ∙ cond-true _ _ _ feed.1

-- neither is found
pub none-found : (quote : ℕ) (bytes : List ℕ) → IsFirstByte (is_byte2 quote 10) bytes None → HasNoQuote quote bytes
none-found quote bytes none = λ text.
    let count : prefix_len (λ b. not (is_byte2 quote 10 b)) bytes ≡ length bytes =
    prefix_len-none (λ b. not (is_byte2 quote 10 b)) bytes (λ k below. ap not (not-so (is_byte2 quote 10 (get_or bytes k 0)) (none k (omega arith) below))) in
    let all : list_all (λ b. not (is_byte2 quote 10 b)) bytes ≡ true =
    ap (list_all (λ b. not (is_byte2 quote 10 b))) (sym (take-append-drop (length bytes) bytes ∙ refl) ∙ whole-take bytes) ∙ all-taken quote bytes count in
    ap (string_from quote text) (sym (append-nil bytes)) ∙ skip-text quote text bytes [] all
  where
    whole-take : (bytes : List ℕ) → take (length bytes) bytes ++ drop (length bytes) bytes ≡ take (length bytes) bytes
    whole-take [] = refl
    whole-take (b ∷ bytes) = ap (λ xs. b ∷ xs) (whole-take bytes)

    all-taken : (quote : ℕ) (bytes : List ℕ) → prefix_len (λ b. not (is_byte2 quote 10 b)) bytes ≡ length bytes
        → list_all (λ b. not (is_byte2 quote 10 b)) (take (length bytes) bytes) ≡ true
    all-taken quote bytes count = ap (λ n. list_all (λ b. not (is_byte2 quote 10 b)) (take n bytes)) (sym count) ∙ prefix_len-all (λ b. not (is_byte2 quote 10 b)) bytes

-- a doubled quote is one
pub text-more : (quote : ℕ) (text longer next bytes front behind more : List ℕ) → IsSplit quote bytes front behind → behind ≡ quote ∷ more
    → longer ≡ text ++ front → next ≡ longer ++ quote ∷ [] → string_from quote next more ≡ string_from quote text bytes
text-more quote text longer next bytes front behind more split again first second =
    ap (λ xs. string_from quote xs more) (second ∙ ap (λ xs. xs ++ quote ∷ []) first)
    ∙ sym (cond-true (quote == quote) _ _ (eq-eqb quote quote refl))
    ∙ ap (string_at_quote quote (text ++ front)) (sym again)
    ∙ sym (split-text quote text bytes front behind split)

text-ends : (quote : ℕ) (text behind : List ℕ) → begins (λ b. b == quote) behind ≡ false → string_at_quote quote text behind ≡ Some (text, behind)
text-ends quote text [] ends = refl
text-ends quote text (b ∷ behind) ends = cond-false _ _ _ ends

-- another byte behind it ends the text
pub text-last : (quote : ℕ) (text longer bytes front behind : List ℕ) → IsSplit quote bytes front behind → begins (λ b. b == quote) behind ≡ false
    → longer ≡ text ++ front → Some (longer, behind) ≡ string_from quote text bytes
text-last quote text longer bytes front behind split ends first =
    ap (λ xs. Some (xs, behind)) first ∙ sym (text-ends quote (text ++ front) behind ends) ∙ sym (split-text quote text bytes front behind split)

pub split-length : (quote : ℕ) (bytes front behind : List ℕ) → IsSplit quote bytes front behind → length bytes ≡ length front + suc (length behind)
split-length quote bytes front behind split = ap length split.is ∙ length-append front (quote ∷ behind)
