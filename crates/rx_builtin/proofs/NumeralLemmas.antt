-- What a numeral says of the number that was read.
use Rattle.std.proofs.Common.{◌≡◌, ℕ, ℤ, pos, ◌^◌, ◌<◌, ◌≤◌, ◌&&◌, Bool, true, false, if◌then◌else◌, unsigned_abs, Option, Some, None, Ok, Err, is_ok, unwrap_or, [], ◌∷◌, refl, subst, ◌∙◌, arith, w64, FitsSigned}
use Rattle.std.proofs.lemmas.Bool.{lt-ltb, le-ltb, ltb-false, ltb-true}
use Rattle.std.proofs.lemmas.Int.{fits_signed_from_abs}
use Rattle.std.specs.List.{list_all}
use Rattle.std.specs.Ordering.{int_cmp}
use Rattle.rx_whole.proofs.DigitsLemmas.{ten_to_at_least, ten_to_at_most}
use Rattle.rx_whole.specs.Arithmetic.{order_of}
use Rattle.rx_whole.specs.Digits.{has_at_most}
use Rattle.rx_whole.specs.Numeral.{numeral_of}
use Rattle.rx_builtin.specs.Arguments.{Arguments}
use Rattle.rx_builtin.specs.Numbers.{is_within, number_of}
use Rattle.rx_whole.specs.declared.reading.Numeral.TheVariants.{Whole, Long, NoNumber}

not_none : (b : Bool) (n : ℤ) → NoNumber ≡ (if b then Whole n else Long) → ⊥
not_none true n e = cc
not_none false n e = cc

not_long : (b : Bool) (n : ℤ) → Long ≡ (if b then Whole n else Long) → b ≡ false
not_long true n e = cc
not_long false n e = refl

same_whole : (b : Bool) (m n : ℤ) → Whole n ≡ (if b then Whole m else Long) → m ≡ n
same_whole true m n e = cc
same_whole false m n e = cc

short_whole : (b : Bool) (m n : ℤ) → Whole n ≡ (if b then Whole m else Long) → b ≡ true
short_whole true m n e = refl
short_whole false m n e = cc

pub zero_within : (digits : ℕ) → 1 ≤ digits → has_at_most digits (pos 0) ≡ true
zero_within digits h = let ten = ten_to_at_least digits h in lt-ltb 0 (10 ^ digits) (omega arith)

-- ---- by the number that was read, or 0 where there is none

pub no_number : (o : Option ℤ) → NoNumber ≡ numeral_of o → unwrap_or o (pos 0) ≡ pos 0
no_number None e = refl
no_number (Some n) e = absurd (not_none (has_at_most 18 n) n e)

pub whole : (o : Option ℤ) (n : ℤ) → Whole n ≡ numeral_of o → unwrap_or o (pos 0) ≡ n
whole None n e = cc
whole (Some m) n e = same_whole (has_at_most 18 m) m n e

-- a number of at most 18 digits fits 64 bits
pub whole_fits : (o : Option ℤ) (n : ℤ) → Whole n ≡ numeral_of o → FitsSigned w64 n
whole_fits None n e = cc
whole_fits (Some m) n e =
    let same = same_whole (has_at_most 18 m) m n e in
    let short = ltb-true (unsigned_abs m) (10 ^ 18) (short_whole (has_at_most 18 m) m n e) in
    let below : unsigned_abs n < 10 ^ 18 = subst (λ (z : ℤ). unsigned_abs z < 10 ^ 18) same short in
    fits_signed_from_abs w64 n (omega arith)

pub long : (o : Option ℤ) (digits : ℕ) → digits ≤ 18 → Long ≡ numeral_of o → has_at_most digits (unwrap_or o (pos 0)) ≡ false
long None digits few e = cc
long (Some n) digits few e =
    let past = ltb-false (unsigned_abs n) (10 ^ 18) (not_long (has_at_most 18 n) n e) in
    let at_most = ten_to_at_most digits few in
    le-ltb (unsigned_abs n) (10 ^ digits) (omega arith)

is_ok-if : {A : Type 0} (b : Bool) (value : A) → is_ok {E = ℕ} (if b then Ok value else Err 42) ≡ b
is_ok-if true value = refl
is_ok-if false value = refl

and_true : (a b : Bool) → b ≡ true → (a && b) ≡ a
and_true true b h = h
and_true false b h = refl

-- a number can be compared with 0 exactly where it is within DIGITS
pub is_ok-order_of : (n : ℤ) (digits : ℕ) → 1 ≤ digits → is_ok (order_of n (pos 0) digits) ≡ has_at_most digits n
unfolding order_of
is_ok-order_of n digits h =
    is_ok-if (has_at_most digits n && has_at_most digits (pos 0)) (int_cmp n (pos 0)) ∙
    and_true (has_at_most digits n) (has_at_most digits (pos 0)) (zero_within digits h)

-- ---- what is within fewer digits is within more

within-more : (n : ℤ) (digits : ℕ) → digits ≤ 18 → has_at_most digits n ≡ true → has_at_most 18 n ≡ true
within-more n digits few h =
    let below = ltb-true (unsigned_abs n) (10 ^ digits) h in
    let at_most = ten_to_at_most digits few in
    lt-ltb (unsigned_abs n) (10 ^ 18) (omega arith)

and_both : (a b c d : Bool) → (a ≡ true → c ≡ true) → (b ≡ true → d ≡ true) → (a && b) ≡ true → (c && d) ≡ true
and_both true true c d first second h = rw (first refl, second refl)
and_both true false c d first second h = cc
and_both false b c d first second h = cc

pub all_within-more : (args : Arguments) (digits : ℕ) → digits ≤ 18 → list_all (is_within digits) args ≡ true → list_all (is_within 18) args ≡ true
all_within-more [] digits few h = refl
all_within-more (argument ∷ args) digits few h =
    and_both (is_within digits argument) (list_all (is_within digits) args) (is_within 18 argument) (list_all (is_within 18) args)
    (within-more (number_of argument) digits few) (all_within-more args digits few) h
