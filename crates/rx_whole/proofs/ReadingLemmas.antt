-- Digits read one by one into a magnitude that is capped.
use Rattle.std.proofs.Common.{inl, inr, nat_le, nat_lt, Option, Some, None, option_map, ◌≡◌, ℕ, ◌+◌, ◌-◌, ◌*◌, ◌^◌, ◌<◌, ◌≤◌, min, Bool, true, false, List, length, get_or, take, refl, sym, ap, ◌∙◌, arith}
use Rattle.std.proofs.lemmas.Bool.{leb-true}
use Rattle.rx_whole.proofs.ArithmeticLemmas.{unsigned_abs-signed}
use Rattle.rx_whole.specs.declared.reading.Numeral.TheVariants.{Long}
use Rattle.rx_whole.specs.Numeral.{numeral_of}
use Rattle.rx_whole.specs.Digits.{has_at_most}
use Rattle.std.proofs.lemmas.Bool.{cases_lt, le-ltb}
use Rattle.rx_whole.specs.Number.{with_sign}
use Rattle.rx_whole.proofs.NumberTextLemmas.{list_all_at}
use Rattle.rx_text.proofs.BoolLemmas.{and_first, and_second}
use Rattle.std.specs.Char.{is_ascii_digit, digit_value}
use Rattle.std.specs.List.{list_all}
use Rattle.std.specs.Str.Parse.{digits_value}
use Rattle.std.proofs.lemmas.Str.{digit_value_digit}
use Rattle.std.proofs.lemmas.Int.Digits.{digits_value_more}

pub digit_value_of_digit : (byte : ℕ) → is_ascii_digit byte ≡ true → digit_value byte + 48 ≡ byte
digit_value_of_digit byte h =
    digit_value_digit byte (leb-true 48 byte (and_first (nat_le 48 byte) (nat_le byte 57) h), leb-true byte 57 (and_second (nat_le 48 byte) (nat_le byte 57) h))

-- the value so far, capped, after one more digit
pub capped_more : (digits : List ℕ) (i value : ℕ) → list_all is_ascii_digit digits ≡ true → i < length digits → value ≡ min (digits_value 10 (take i digits)) (10 ^ 18) → min (10 ^ 18) (value * 10 + (get_or digits i 0 - 48)) ≡ min (digits_value 10 (take (i + 1) digits)) (10 ^ 18)
capped_more digits i value all below e =
    let digit = digit_value_of_digit (get_or digits i 0) (list_all_at is_ascii_digit digits i all below) in
    omega (arith, digits_value_more 10 digits i below)

-- ---- magnitudes capped at the limit say as much

long : (is_negative : Bool) (magnitude : ℕ) → 10 ^ 18 ≤ magnitude → numeral_of (Some (with_sign is_negative magnitude)) ≡ Long
long is_negative magnitude h =
    let not_short : has_at_most 18 (with_sign is_negative magnitude) ≡ false = ap (λ m. nat_lt m (10 ^ 18)) (unsigned_abs-signed is_negative magnitude) ∙ le-ltb magnitude (10 ^ 18) h in
    rw not_short

pub numeral_of_capped : (is_negative : Bool) (magnitude : Option ℕ) → numeral_of (option_map (with_sign is_negative) (option_map (λ m. min m (10 ^ 18)) magnitude)) ≡ numeral_of (option_map (with_sign is_negative) magnitude)
numeral_of_capped is_negative None = refl
numeral_of_capped is_negative (Some magnitude) = elim (cases_lt magnitude (10 ^ 18)) [
  | inl h ↦ let same : min magnitude (10 ^ 18) ≡ magnitude = omega arith in ap (λ m. numeral_of (Some (with_sign is_negative m))) same
  | inr h ↦ long is_negative (min magnitude (10 ^ 18)) (omega arith) ∙ sym (long is_negative magnitude h)
]
