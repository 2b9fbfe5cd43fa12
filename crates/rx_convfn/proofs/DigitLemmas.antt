-- How many bytes and digits come of digits.
use Rattle.std.proofs.Common.{◌≡◌, ◌<◌, ◌≤◌, ℕ, suc, ◌+◌, ◌-◌, ◌*◌, ◌/◌, ◌%◌, ◌==◌, Bool, true, false, not, List, [], ◌∷◌, length, get_or, take, drop, replicate, refl, sym, ap, ◌∙◌, arith, length-append}
use Rattle.std.specs.Prelude.{flat_map}
use Rattle.std.proofs.lemmas.Bool.{eqb-true, eqb-false}
use Rattle.std.proofs.Math.Seq.{take-length}
use Rattle.std.proofs.lemmas.List.{length-replicate}
use Rattle.std.proofs.lemmas.List.Sums.{length-filter}
use Rattle.rx_tree.specs.Letters.{is_blank}
use Rattle.rx_tree.specs.Strings.{digits_in, bytes_of, digit_value}
use Rattle.rx_convfn.specs.Digits.{digits, values_of, four_bits, whole_fours, from_fours}

pub length-digits : (text : List ℕ) → length (digits text) ≡ digits_in text
length-digits text = length-filter (λ byte. not (is_blank byte)) text

pub length-bits : (text : List ℕ) → length (flat_map four_bits text) ≡ 4 * length text
length-bits [] = refl
length-bits (digit ∷ text) = omega (arith, length-append (four_bits digit) (flat_map four_bits text), length-bits text)

-- ---- two digits to a byte

digits-first : (byte : ℕ) (text : List ℕ) → is_blank byte ≡ false → digits (byte ∷ text) ≡ byte ∷ digits text
digits-first byte text e = rw e

digits_in-blank : (byte : ℕ) (text : List ℕ) → is_blank byte ≡ true → digits_in (byte ∷ text) ≡ digits_in text
digits_in-blank byte text e =
    let same : digits (byte ∷ text) ≡ digits text = rw e in
    sym (length-digits (byte ∷ text)) ∙ ap length same ∙ length-digits text

digits_in-digit : (byte : ℕ) (text : List ℕ) → is_blank byte ≡ false → digits_in (byte ∷ text) ≡ suc (digits_in text)
digits_in-digit byte text e = sym (length-digits (byte ∷ text)) ∙ ap length (digits-first byte text e) ∙ ap suc (length-digits text)

length-bytes_by : (so_far byte : ℕ) (text : List ℕ) (blank whole : Bool) → is_blank byte ≡ blank → (digits_in text % 2 == 0) ≡ whole → ((s : ℕ) → length (bytes_of false s text) ≡ (digits_in text + 1) / 2) → length (bytes_of false so_far (byte ∷ text)) ≡ (digits_in (byte ∷ text) + 1) / 2
length-bytes_by so_far byte text true whole e w further =
    let same : length (bytes_of false so_far (byte ∷ text)) ≡ length (bytes_of false so_far text) = rw e in
    same ∙ further so_far ∙ ap (λ (n : ℕ). (n + 1) / 2) (sym (digits_in-blank byte text e))
length-bytes_by so_far byte text false true e w further =
    let even : digits_in text % 2 ≡ 0 = eqb-true (digits_in text % 2) 0 w in
    let same : length (bytes_of false so_far (byte ∷ text)) ≡ suc (length (bytes_of false 0 text)) = rw (e, w) in
    omega (arith, same, further 0, digits_in-digit byte text e)
length-bytes_by so_far byte text false false e w further =
    let odd : digits_in text % 2 ≡ 0 → ⊥ = eqb-false (digits_in text % 2) 0 w in
    let sum = (so_far * 16 + digit_value byte) % 256 in
    let same : length (bytes_of false so_far (byte ∷ text)) ≡ length (bytes_of false sum text) = rw (e, w) in
    omega (arith, same, further sum, digits_in-digit byte text e)

pub length-bytes : (so_far : ℕ) (text : List ℕ) → length (bytes_of false so_far text) ≡ (digits_in text + 1) / 2
length-bytes so_far [] = refl
length-bytes so_far (byte ∷ text) =
    length-bytes_by so_far byte text (is_blank byte) (digits_in text % 2 == 0) refl refl (λ s. length-bytes s text)

-- ---- four binary digits to a hexadecimal one

pub length-from_fours : (bits : List ℕ) → length (from_fours bits) ≡ length bits / 4
length-from_fours [] = refl
length-from_fours (a ∷ []) = refl
length-from_fours (a ∷ b ∷ []) = refl
length-from_fours (a ∷ b ∷ c ∷ []) = refl
length-from_fours (a ∷ b ∷ c ∷ d ∷ bits) = omega (arith, length-from_fours bits)

pub from_fours-rest : (bits : List ℕ) → length bits < 4 → from_fours bits ≡ []
from_fours-rest [] h = refl
from_fours-rest (a ∷ []) h = refl
from_fours-rest (a ∷ b ∷ []) h = refl
from_fours-rest (a ∷ b ∷ c ∷ []) h = refl
from_fours-rest (a ∷ b ∷ c ∷ d ∷ bits) h = absurd (omega arith)

length-whole_fours : (bits : List ℕ) → length (whole_fours bits) ≡ (4 - length bits % 4) % 4 + length bits
length-whole_fours bits =
    length-append (replicate ((4 - length bits % 4) % 4) 48) bits ∙
    ap (λ (n : ℕ). n + length bits) (length-replicate ((4 - length bits % 4) % 4) 48)

pub length-hexadecimal : (text : List ℕ) → length (from_fours (whole_fours (digits text))) ≡ (digits_in text + 3) / 4
length-hexadecimal text =
    length-from_fours (whole_fours (digits text)) ∙
    omega (arith, length-whole_fours (digits text), length-digits text)

-- ---- the digits of what is left of a text

rest-one : (byte : ℕ) (more : List ℕ) → take (length (byte ∷ more) - 1) more ≡ more
rest-one byte more =
    let all : length (byte ∷ more) - 1 ≡ length more = omega arith in
    ap (λ (n : ℕ). take n more) all ∙ take-length more

pub rest-first : (text : List ℕ) → 1 ≤ length text → text ≡ get_or text 0 0 ∷ take (length text - 1) (drop 1 text)
rest-first [] h = absurd (omega arith)
rest-first (byte ∷ more) h = ap (λ (t : List ℕ). byte ∷ t) (sym (rest-one byte more))

pub digits-rest : (text : List ℕ) → 1 ≤ length text → is_blank (get_or text 0 0) ≡ false → digits text ≡ get_or text 0 0 ∷ digits (take (length text - 1) (drop 1 text))
digits-rest text h e = ap digits (rest-first text h) ∙ digits-first (get_or text 0 0) (take (length text - 1) (drop 1 text)) e

pub digits-end : (text : List ℕ) → length text < 1 → length (values_of (digits text)) < 1
digits-end [] h = h
digits-end (byte ∷ text) h = absurd (omega arith)

pub bits-end : (text : List ℕ) → length text < 1 → flat_map four_bits (digits text) ≡ []
bits-end [] h = refl
bits-end (byte ∷ text) h = absurd (omega arith)
