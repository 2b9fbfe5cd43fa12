-- The text of a number reads as that number, and no text of the number is shorter.
use Rattle.std.proofs.Common.{unsigned_abs, ◌≡◌, ℕ, ◌+◌, ◌^◌, ◌<◌, ◌≤◌, ℤ, pos, negsuc, true, List, [], ◌∷◌, ◌++◌, length, refl, sym, ap, ◌∙◌, arith, rules, decimal, Some, suc, append-nil, length-append}
use Rattle.std.specs.Char.{is_ascii_digit}
use Rattle.std.specs.Int.Signed.{mag}
use Rattle.std.specs.List.{list_all}
use Rattle.std.specs.Str.Parse.{digits_value}
use Rattle.std.proofs.lemmas.Fmt.{decimal_nonempty, digits_decimal, digits_value-decimal, length-decimal-le}
use Rattle.std.proofs.lemmas.Int.Digits.{digits_value-lt}
use Rattle.std.proofs.lemmas.Str.Parse.{IsNumeralModel, numerals_by_value}
use Rattle.rx_whole.specs.Number.{IsNumberText, Sign, NoSign, Plus, Minus, sign_bytes, is_minus, with_sign, num, text_of}
use Rattle.rx_whole.proofs.ArithmeticLemmas.{unsigned_abs-signed}
use Rattle.rx_whole.proofs.NumberTextLemmas.{num_of_number_text, number_text_of_num}

own : IsNumeralModel (λ digits. list_all is_ascii_digit digits ≡ true) (digits_value 10)
own = numerals_by_value _ (search rules)

text_of_is_number_text : (number : ℤ) → mag number < 2 ^ 63 → IsNumberText (text_of number) number
text_of_is_number_text (pos n) h =
    let small : n < 2 ^ 64 = omega arith in
    record {
      before = [];
      sign = NoSign;
      between = [];
      digits = decimal n;
      after = [];
      parts = sym (append-nil (decimal n));
      blank_before = refl;
      blank_between = refl;
      blank_after = refl;
      some_digit = decimal_nonempty n small;
      all_digits = digits_decimal own n small;
      value = ap pos (sym (digits_value-decimal own n small));
    }
text_of_is_number_text (negsuc n) h =
    let small : suc n < 2 ^ 64 = omega arith in
    record {
      before = [];
      sign = Minus;
      between = [];
      digits = decimal (suc n);
      after = [];
      parts = ap (λ t. 0x2D ∷ t) (sym (append-nil (decimal (suc n))));
      blank_before = refl;
      blank_between = refl;
      blank_after = refl;
      some_digit = decimal_nonempty (suc n) small;
      all_digits = digits_decimal own (suc n) small;
      value = ap (with_sign true) (sym (digits_value-decimal own (suc n) small));
    }

pub num-text_of : (number : ℤ) → mag number < 2 ^ 63 → num (text_of number) ≡ Some number
num-text_of number h = num_of_number_text (text_of number) number (text_of_is_number_text number h)

-- ---- the shortest text

decimal_is_shortest : (n : ℕ) (digits : List ℕ) → n < 2 ^ 64 → n ≡ digits_value 10 digits → list_all is_ascii_digit digits ≡ true → 0 < length digits → length (decimal n) ≤ length digits
decimal_is_shortest n digits small e all some =
    let bound = digits_value-lt 10 digits (own.to digits all) in
    length-decimal-le (length digits) n some (omega arith) small

length-parts : (before sign between digits after : List ℕ) → length sign + length digits ≤ length (before ++ (sign ++ (between ++ (digits ++ after))))
length-parts before sign between digits after = simp length-append (omega arith)

sign_of_negative : (n magnitude : ℕ) (sign : Sign) → negsuc n ≡ with_sign (is_minus sign) magnitude → length (sign_bytes sign) ≡ 1
sign_of_negative n magnitude NoSign e = cc
sign_of_negative n magnitude Plus e = refl
sign_of_negative n magnitude Minus e = refl

shortest : (number : ℤ) → mag number < 2 ^ 63 → (text : List ℕ) → IsNumberText text number → length (text_of number) ≤ length text
shortest (pos n) h text t =
    let magnitude = ap unsigned_abs t.value ∙ unsigned_abs-signed (is_minus t.sign) (digits_value 10 t.digits) in
    let digits = decimal_is_shortest n t.digits (omega arith) magnitude t.all_digits t.some_digit in
    omega (arith, ap length t.parts, length-parts t.before (sign_bytes t.sign) t.between t.digits t.after)
shortest (negsuc n) h text t =
    let magnitude = ap unsigned_abs t.value ∙ unsigned_abs-signed (is_minus t.sign) (digits_value 10 t.digits) in
    let digits = decimal_is_shortest (suc n) t.digits (omega arith) magnitude t.all_digits t.some_digit in
    let sign = sign_of_negative n (digits_value 10 t.digits) t.sign t.value in
    omega (arith, ap length t.parts, length-parts t.before (sign_bytes t.sign) t.between t.digits t.after)

pub text_of_is_shortest : (number : ℤ) → mag number < 2 ^ 63 → (text : List ℕ) → num text ≡ Some number → length (text_of number) ≤ length text
text_of_is_shortest number h text e = shortest number h text (number_text_of_num text number e)
