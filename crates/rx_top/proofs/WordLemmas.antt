-- The number of a word.
use Rattle.std.proofs.Common.{◌≡◌, ℕ, ◌≤◌, Bool, true, false, nat_le, List, Option, None, Some, ℤ, pos, refl, sym, ◌∙◌, ap, subst, arith}
use Rattle.std.specs.Prelude.{IsTrue, decimal, unsigned_abs, if◌then◌else◌}
use Rattle.std.specs.Cmp.{first_so, second_so}
use Rattle.std.specs.Str.{bytes_eq}
use Rattle.std.specs.Str.Parse.{digits_value}
use Rattle.std.proofs.lemmas.Fmt.{decimal_is_IsNumeral}
use Rattle.std.proofs.lemmas.Slice.Eq.{bytes_eq-Decides}
use Rattle.std.proofs.lemmas.Bool.{leb-true}
use Rattle.rx_whole.specs.declared.reading.Numeral.TheVariants.{Whole, Long}
use Rattle.rx_whole.specs.Number.{num}
use Rattle.rx_whole.specs.Numeral.{numeral_of}
use Rattle.rx_whole.proofs.DigitsLemmas.{has_at_most-yes}
use Rattle.rx_whole.proofs.WritingLemmas.{num-text_of}
use Rattle.rx_top.specs.Words.{is_number_between, number_between}

-- the digits of a number of steps are read as it
pub digits-read : (word : List ℕ) (number : ℕ) → word ≡ decimal number → number ≤ 10000000 → numeral_of (num word) ≡ Whole (pos number)
digits-read word number is most =
    ap (λ w. numeral_of (num w)) is
    ∙ ap numeral_of (num-text_of (pos number) (omega (arith, most)))
    ∙ ap (λ b. if b then Whole (pos number) else Long) (has_at_most-yes 18 (pos number) (omega (arith, most)))

abbrev between : ℕ → List ℕ → Bool
between number word = is_number_between 1 10000000 number word

is-word : (word : List ℕ) (number : ℕ) → IsTrue (between number word) → word ≡ decimal number
is-word word number is = (bytes_eq-Decides word (decimal number)).0 (first_so (bytes_eq word (decimal number)) _ is)

is-most : (word : List ℕ) (number : ℕ) → IsTrue (between number word) → number ≤ 10000000
is-most word number is =
    leb-true number 10000000 (second_so (nat_le 1 number) _ (second_so (bytes_eq word (decimal number)) _ is))

none_if : (b : Bool) (number : ℕ) → (b ≡ true → ⊥) → (if b then Some number else (let none : Option ℕ = None in none)) ≡ None
none_if true number never = absurd (never refl)
none_if false number never = refl

-- a word that isn't read so is of no number of steps
pub none-unread : (word : List ℕ) → ((number : ℕ) → numeral_of (num word) ≡ Whole (pos number) → ⊥) → number_between 1 10000000 word ≡ None
unfolding number_between
none-unread word never =
    none_if (between (digits_value 10 word) word) (digits_value 10 word)
    (λ is. never (digits_value 10 word) (digits-read word (digits_value 10 word) (is-word word (digits_value 10 word) is) (is-most word (digits_value 10 word) is)))

value-of-digits : (word : List ℕ) (number : ℕ) → IsTrue (between number word) → digits_value 10 word ≡ number
value-of-digits word number is =
    ap (digits_value 10) (is-word word number is)
    ∙ (decimal_is_IsNumeral number (let most : number ≤ 10000000 = is-most word number is in omega (arith, most))).1

some_if : (b : Bool) (number : ℕ) → b ≡ true → (if b then Some number else (let none : Option ℕ = None in none)) ≡ Some number
some_if true number is = refl
some_if false number is = cc

-- a word that is the digits of a number of steps is of that number
pub number-found : (word : List ℕ) (number : ℕ) → IsTrue (between number word) → number_between 1 10000000 word ≡ Some number
unfolding number_between
number-found word number is =
    let value : digits_value 10 word ≡ number = value-of-digits word number is in
    some_if (between (digits_value 10 word) word) (digits_value 10 word) (subst (λ n. IsTrue (between n word)) (sym value) is) ∙ ap Some value

clash : (word : List ℕ) (read : ℤ) (number : ℕ) → numeral_of (num word) ≡ Whole read → between (unsigned_abs read) word ≡ false
    → IsTrue (between number word) → numeral_of (num word) ≡ Whole (pos number) → ⊥
clash word read number is not found as_number =
    let same : read ≡ pos number = cc in
    let no : between number word ≡ false = subst (λ z. between (unsigned_abs z) word ≡ false) same not in
    cc

-- a word is of no number of steps, if it is read as a number whose digits it isn't
pub none-otherwise : (word : List ℕ) (read : ℤ) → numeral_of (num word) ≡ Whole read → between (unsigned_abs read) word ≡ false → number_between 1 10000000 word ≡ None
unfolding number_between
none-otherwise word read is not =
    none_if (between (digits_value 10 word) word) (digits_value 10 word)
    (λ found. clash word read (digits_value 10 word) is not found
    (digits-read word (digits_value 10 word) (is-word word (digits_value 10 word) found) (is-most word (digits_value 10 word) found)))
