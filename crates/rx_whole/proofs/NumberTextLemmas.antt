-- A text reads as a number exactly where it is put together as a number text is.
use Rattle.std.proofs.Common.{nat_le, nat_lt, ◌≢◌, ◌++◌, ◌==◌, ℤ, pos, Some, None, option_map, reverse, append_assoc, append-nil, if◌then◌else◌, ◌≡◌, ℕ, ◌<◌, Bool, true, false, ◌&&◌, List, [], ◌∷◌, length, get_or, refl, sym, ap, ◌∙◌, arith, zero, suc}
use Rattle.std.proofs.lemmas.Bool.{leb-true}
use Rattle.std.proofs.lemmas.List.Folds.{list_all-append}
use Rattle.std.proofs.lemmas.Bool.{lt-ltb, ltb-true, ne_eqb, eqb-true}
use Rattle.std.proofs.lemmas.List.{reverse-append, reverse-reverse, length-reverse}
use Rattle.rx_text.specs.Blanks.{is_blank, stripped, without_blanks_in_front, without_blanks_at_end}
use Rattle.rx_text.proofs.BlankLemmas.{AllBlank, front-other, front-blanks, end-blanks, list_all-reverse, front_parts, end_parts}
use Rattle.rx_whole.specs.Number.{IsNumberText, Sign, NoSign, Plus, Minus, sign_bytes, is_minus, with_sign, digits_number, signed_number, num}
use Rattle.rx_text.proofs.BoolLemmas.{and_first, and_second}
use Rattle.std.specs.Char.{is_ascii_digit}
use Rattle.std.specs.List.{list_all}
use Rattle.std.specs.Str.Parse.{digits_value}

pub list_all_at : (test : ℕ → Bool) (xs : List ℕ) (i : ℕ) → list_all test xs ≡ true → i < length xs → test (get_or xs i 0) ≡ true
list_all_at test [] i h below = absurd (omega arith)
list_all_at test (x ∷ xs) zero h below = and_first (test x) (list_all test xs) h
list_all_at test (x ∷ xs) (suc i) h below = list_all_at test xs i (and_second (test x) (list_all test xs) h) (omega arith)

-- ---- digits between blanks

abbrev AllDigits : List ℕ → Type 0
AllDigits digits = list_all is_ascii_digit digits ≡ true

digit_is_no : (byte other : ℕ) → is_ascii_digit byte ≡ true → other < 48 → (byte == other) ≡ false
digit_is_no byte other h small =
    let low = leb-true 48 byte (and_first (nat_le 48 byte) (nat_le byte 57) h) in
    ne_eqb byte other (λ e. omega arith)

digit_is_no_blank : (byte : ℕ) → is_ascii_digit byte ≡ true → is_blank byte ≡ false
digit_is_no_blank byte h = rw (digit_is_no byte 0x20 h (omega arith), digit_is_no byte 0x09 h (omega arith))

front-digits : (digits rest : List ℕ) → AllDigits digits → 0 < length digits → without_blanks_in_front (digits ++ rest) ≡ digits ++ rest
front-digits [] rest all some = absurd (omega arith)
front-digits (digit ∷ digits) rest all some = front-other digit (digits ++ rest) (digit_is_no_blank digit (and_first (is_ascii_digit digit) (list_all is_ascii_digit digits) all))

end-digits : (rest digits : List ℕ) → AllDigits digits → 0 < length digits → without_blanks_at_end (rest ++ digits) ≡ rest ++ digits
end-digits rest digits all some =
    let some_turned : 0 < length (reverse digits) = rw length-reverse some in
    ap (λ t. reverse (without_blanks_in_front t)) (reverse-append rest digits) ∙
    ap reverse (front-digits (reverse digits) (reverse rest) (list_all-reverse is_ascii_digit digits all) some_turned) ∙
    ap reverse (sym (reverse-append rest digits)) ∙
    reverse-reverse (rest ++ digits)

digits_number_of_digits : (digits : List ℕ) → AllDigits digits → 0 < length digits → digits_number digits ≡ Some (digits_value 10 digits)
digits_number_of_digits digits all some = rw (lt-ltb 0 (length digits) some, all)

-- ---- a sign or none

-- a text that begins with no sign
pub signed_number-plain : (text : List ℕ) → get_or text 0 0 ≢ 0x2D → get_or text 0 0 ≢ 0x2B → signed_number text ≡ option_map (with_sign false) (digits_number text)
signed_number-plain [] no_minus no_plus = refl
signed_number-plain (first ∷ rest) no_minus no_plus = rw (ne_eqb first 0x2D no_minus, ne_eqb first 0x2B no_plus)

-- ---- a number text has its number

first_is_no : (digits : List ℕ) (other : ℕ) → AllDigits digits → 0 < length digits → other < 48 → get_or digits 0 0 ≢ other
first_is_no digits other all some small e =
    let first = list_all_at is_ascii_digit digits 0 all some in
    let low = leb-true 48 (get_or digits 0 0) (and_first (nat_le 48 (get_or digits 0 0)) (nat_le (get_or digits 0 0) 57) first) in
    omega arith

num-before : (before rest : List ℕ) → AllBlank before → num (before ++ rest) ≡ num rest
unfolding num
num-before before rest blank = ap (λ t. signed_number (without_blanks_at_end t)) (front-blanks before rest blank)

num-digits : (digits after : List ℕ) → AllBlank after → AllDigits digits → 0 < length digits → num (digits ++ after) ≡ Some (pos (digits_value 10 digits))
unfolding num
num-digits digits after blank_after all some =
    ap (λ t. signed_number (without_blanks_at_end t)) (front-digits digits after all some) ∙
    ap signed_number (end-blanks digits after blank_after ∙ end-digits [] digits all some) ∙
    signed_number-plain digits (first_is_no digits 0x2D all some (omega arith)) (first_is_no digits 0x2B all some (omega arith)) ∙
    ap (option_map (with_sign false)) (digits_number_of_digits digits all some)

stripped-sign : (sign : ℕ) (between digits after : List ℕ) → is_blank sign ≡ false → AllBlank after → AllDigits digits → 0 < length digits → stripped (sign ∷ (between ++ (digits ++ after))) ≡ sign ∷ (between ++ digits)
stripped-sign sign between digits after other blank_after all some =
    ap without_blanks_at_end (front-other sign (between ++ (digits ++ after)) other) ∙
    ap (λ t. without_blanks_at_end (sign ∷ t)) (sym (append_assoc between digits after)) ∙
    end-blanks (sign ∷ (between ++ digits)) after blank_after ∙
    end-digits (sign ∷ between) digits all some

behind_sign : (between digits : List ℕ) → AllBlank between → AllDigits digits → 0 < length digits → digits_number (without_blanks_in_front (between ++ digits)) ≡ Some (digits_value 10 digits)
behind_sign between digits blank all some =
    ap digits_number (front-blanks between digits blank) ∙
    ap (λ t. digits_number (without_blanks_in_front t)) (sym (append-nil digits)) ∙
    ap digits_number (front-digits digits [] all some ∙ append-nil digits) ∙
    digits_number_of_digits digits all some

num-parts : (sign : Sign) (before between digits after : List ℕ) → AllBlank before → AllBlank between → AllBlank after → AllDigits digits → 0 < length digits → num (before ++ (sign_bytes sign ++ (between ++ (digits ++ after)))) ≡ Some (with_sign (is_minus sign) (digits_value 10 digits))
unfolding num
num-parts NoSign before between digits after blank_before blank_between blank_after all some =
    num-before before (between ++ (digits ++ after)) blank_before ∙
    num-before between (digits ++ after) blank_between ∙
    num-digits digits after blank_after all some
num-parts Plus before between digits after blank_before blank_between blank_after all some =
    num-before before (0x2B ∷ (between ++ (digits ++ after))) blank_before ∙
    ap signed_number (stripped-sign 0x2B between digits after refl blank_after all some) ∙
    ap (option_map (with_sign false)) (behind_sign between digits blank_between all some)
num-parts Minus before between digits after blank_before blank_between blank_after all some =
    num-before before (0x2D ∷ (between ++ (digits ++ after))) blank_before ∙
    ap signed_number (stripped-sign 0x2D between digits after refl blank_after all some) ∙
    ap (option_map (with_sign true)) (behind_sign between digits blank_between all some)

pub num_of_number_text : (text : List ℕ) (number : ℤ) → IsNumberText text number → num text ≡ Some number
num_of_number_text text number t =
    ap num t.parts ∙
    num-parts t.sign t.before t.between t.digits t.after t.blank_before t.blank_between t.blank_after t.all_digits t.some_digit ∙
    ap Some (sym t.value)

-- ---- and nothing else has one

all_blank-append : (xs ys : List ℕ) → AllBlank xs → AllBlank ys → AllBlank (xs ++ ys)
all_blank-append xs ys p q = list_all-append is_blank xs ys ∙ rw (p, q)

surrounded : (text before core after : List ℕ) (number : ℤ) → AllBlank before → AllBlank after → text ≡ before ++ (core ++ after) → IsNumberText core number → IsNumberText text number
surrounded text before core after number blank_before blank_after e t = record {
  before = before ++ t.before;
  sign = t.sign;
  between = t.between;
  digits = t.digits;
  after = t.after ++ after;
  parts = e ∙ ap (λ c. before ++ (c ++ after)) t.parts ∙ simp append_assoc;
  blank_before = all_blank-append before t.before blank_before t.blank_before;
  blank_between = t.blank_between;
  blank_after = all_blank-append t.after after t.blank_after blank_after;
  some_digit = t.some_digit;
  all_digits = t.all_digits;
  value = t.value;
}

-- what a number says of the digits that it was read from
record ReadFrom (digits : List ℕ) (is_negative : Bool) (number : ℤ) : Type 0 where
  some_digit : 0 < length digits
  all_digits : AllDigits digits
  value : number ≡ with_sign is_negative (digits_value 10 digits)

taken : (test : Bool) (is_negative : Bool) (magnitude : ℕ) (number : ℤ) → option_map (with_sign is_negative) (if test then Some magnitude else None) ≡ Some number → (test ≡ true) × (number ≡ with_sign is_negative magnitude)
taken true is_negative magnitude number e = (refl, cc)
taken false is_negative magnitude number e = cc

read_from : (digits : List ℕ) (is_negative : Bool) (number : ℤ) → option_map (with_sign is_negative) (digits_number digits) ≡ Some number → ReadFrom digits is_negative number
read_from digits is_negative number e =
    let parts = taken (nat_lt 0 (length digits) && list_all is_ascii_digit digits) is_negative (digits_value 10 digits) number e in
    record {
      some_digit = ltb-true 0 (length digits) (and_first (nat_lt 0 (length digits)) (list_all is_ascii_digit digits) parts.0);
      all_digits = and_second (nat_lt 0 (length digits)) (list_all is_ascii_digit digits) parts.0;
      value = parts.1;
    }

number_behind_sign : (sign : Sign) (rest : List ℕ) (number : ℤ) → option_map (with_sign (is_minus sign)) (digits_number (without_blanks_in_front rest)) ≡ Some number → IsNumberText (sign_bytes sign ++ rest) number
number_behind_sign sign rest number e =
    let digits = without_blanks_in_front rest in
    let read = read_from digits (is_minus sign) number e in
    let front = front_parts rest in
    record {
      before = [];
      sign = sign;
      between = front.before;
      digits = digits;
      after = [];
      parts = ap (λ t. sign_bytes sign ++ t) (front.parts ∙ ap (λ t. front.before ++ t) (sym (append-nil digits)));
      blank_before = refl;
      blank_between = front.blank;
      blank_after = refl;
      some_digit = read.some_digit;
      all_digits = read.all_digits;
      value = read.value;
    }

number_without_sign : (digits : List ℕ) (number : ℤ) → option_map (with_sign false) (digits_number digits) ≡ Some number → IsNumberText digits number
number_without_sign digits number e =
    let read = read_from digits false number e in
    record {
      before = [];
      sign = NoSign;
      between = [];
      digits = digits;
      after = [];
      parts = sym (append-nil digits);
      blank_before = refl;
      blank_between = refl;
      blank_after = refl;
      some_digit = read.some_digit;
      all_digits = read.all_digits;
      value = read.value;
    }

plus_or_none : (first : ℕ) (rest : List ℕ) (number : ℤ) (is_plus : Bool) → (first == 0x2B) ≡ is_plus → (if is_plus then option_map (with_sign false) (digits_number (without_blanks_in_front rest)) else option_map (with_sign false) (digits_number (first ∷ rest))) ≡ Some number → IsNumberText (first ∷ rest) number
plus_or_none first rest number true same e =
    rw (eqb-true first 0x2B same) (number_behind_sign Plus rest number e)
plus_or_none first rest number false same e = number_without_sign (first ∷ rest) number e

minus_or_other : (first : ℕ) (rest : List ℕ) (number : ℤ) (is_minus_sign : Bool) → (first == 0x2D) ≡ is_minus_sign → (if is_minus_sign then option_map (with_sign true) (digits_number (without_blanks_in_front rest)) else if first == 0x2B then option_map (with_sign false) (digits_number (without_blanks_in_front rest)) else option_map (with_sign false) (digits_number (first ∷ rest))) ≡ Some number → IsNumberText (first ∷ rest) number
minus_or_other first rest number true same e =
    rw (eqb-true first 0x2D same) (number_behind_sign Minus rest number e)
minus_or_other first rest number false same e = plus_or_none first rest number (first == 0x2B) refl e

number_text_of_core : (core : List ℕ) (number : ℤ) → signed_number core ≡ Some number → IsNumberText core number
number_text_of_core [] number e = cc
number_text_of_core (first ∷ rest) number e = minus_or_other first rest number (first == 0x2D) refl e

pub number_text_of_num : (text : List ℕ) (number : ℤ) → num text ≡ Some number → IsNumberText text number
unfolding num
number_text_of_num text number e =
    let front = front_parts text in
    let end = end_parts (without_blanks_in_front text) in
    surrounded text front.before (stripped text) end.after number front.blank end.blank
    (front.parts ∙ ap (λ t. front.before ++ t) end.parts)
    (number_text_of_core (stripped text) number e)
