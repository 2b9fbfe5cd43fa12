-- A conjunction of two tests and its parts.
use Rattle.std.proofs.Common.{◌≡◌, Bool, true, false, ◌&&◌, refl}

pub and_first : (p q : Bool) → (p && q) ≡ true → p ≡ true
and_first true q h = refl
and_first false q h = h

pub and_second : (p q : Bool) → (p && q) ≡ true → q ≡ true
and_second true q h = h
and_second false q h = cc

pub and_both : (p q : Bool) → p ≡ true → q ≡ true → (p && q) ≡ true
and_both true q g h = h
and_both false q g h = g
