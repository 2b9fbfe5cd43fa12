-- Powers, and tests against the powers of ten.
use Rattle.std.proofs.Common.{◌*◌, add-one, ◌≡◌, ℕ, ◌+◌, ◌^◌, ◌<◌, ◌≤◌, ℤ, true, Some, None, unsigned_abs, suc, zero, refl, ◌∙◌, arith}
use Rattle.std.proofs.Math.Nat.{pow-suc, pow-le-pow_right}
use Rattle.std.proofs.lemmas.Bool.{lt-ltb, le-ltb}
use Rattle.rx_whole.specs.Digits.{has_at_most, below}

pub ten_to_at_most : (digits : ℕ) → digits ≤ 18 → 10 ^ digits ≤ 10 ^ 18
ten_to_at_most digits h = let ten : 0 < 10 = omega arith in pow-le-pow_right ten h

pub has_at_most-yes : (digits : ℕ) (number : ℤ) → unsigned_abs number < 10 ^ digits → has_at_most digits number ≡ true
has_at_most-yes digits number h = lt-ltb (unsigned_abs number) (10 ^ digits) h

pub below-yes : (limit magnitude : ℕ) → magnitude < limit → below limit magnitude ≡ Some magnitude
below-yes limit magnitude h = rw (lt-ltb magnitude limit h)

pub below-no : (limit magnitude : ℕ) → limit ≤ magnitude → below limit magnitude ≡ None
below-no limit magnitude h = rw (le-ltb magnitude limit h)

one-pow : (exponent : ℕ) → 1 ^ exponent ≡ 1
one-pow zero = refl
one-pow (suc exponent) = pow-suc 1 exponent ∙ omega (arith, one-pow exponent)

-- the powers of 0 and 1
pub small_base : (base exponent : ℕ) → base < 2 → (exponent ≡ 0 → ⊥) → base ^ exponent ≡ base
small_base zero zero h e = absurd (e refl)
small_base zero (suc exponent) h e = pow-suc 0 exponent ∙ omega arith
small_base (suc zero) zero h e = refl
small_base (suc zero) (suc exponent) h e = pow-suc 1 exponent ∙ omega (arith, one-pow exponent)
small_base (suc (suc base)) exponent h e = absurd (omega arith)

pub ten_to_at_least : (digits : ℕ) → 1 ≤ digits → 10 ≤ 10 ^ digits
ten_to_at_least digits h = let ten : 0 < 10 = omega arith in pow-le-pow_right ten {i = 1} h

-- once a power has reached a limit, each later one is past it
pub below-later : (limit base exponent done : ℕ) → 0 < base → limit ≤ base ^ done → done ≤ exponent → below limit (base ^ exponent) ≡ None
below-later limit base exponent done positive reached h =
    let later : base ^ done ≤ base ^ exponent = pow-le-pow_right positive h in
    below-no limit (base ^ exponent) (omega arith)

pub power_next : (base done : ℕ) → base ^ (done + 1) ≡ base ^ done * base
power_next base done = rw add-one (pow-suc base done)
