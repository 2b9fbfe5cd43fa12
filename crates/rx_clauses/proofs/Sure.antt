-- What a reader answers is what is written there.
use Rattle.std.proofs.Common.{◌≡◌, Bool, true, false, if◌then◌else◌, Option, Some, None, Ok, Err, refl, subst}
use Rattle.rx_tree.specs.Operators.{Tokens}
use Rattle.rx_exprs.specs.declared.refused.Fault.{Fault}
use Rattle.rx_exprs.specs.Reader.{Outcome, and_then, on_some}
use Rattle.rx_exprs.proofs.Tables.{ok-is}

abbrev pub Holds : {A : Type 0} → (A → Tokens → Type 0) → Outcome A → Type 0
Holds Is (Ok found) = Is found.0 found.1
Holds Is (Err fault) = Unit {0}

-- What is found, with the rest, is so.
pub record Sure {A : Type 0} (Is : A → Tokens → Type 0) (r : Outcome A) : Type 0 where
  pub so : Holds Is r

pub sure-then : {A B : Type 0} {Is : A → Tokens → Type 0} {Js : B → Tokens → Type 0} (r : Outcome A) (go : A → Tokens → Outcome B) → Sure Is r
    → ((a : A) (rest : Tokens) → Is a rest → Sure Js (go a rest)) → Sure Js (and_then r go)
sure-then (Ok found) go is h = h found.0 found.1 is.so
sure-then (Err fault) go is h = record { so = tt }

pub sure-some : {A B : Type 0} {Js : B → Tokens → Type 0} (found : Option A) (other : Outcome B) (go : A → Outcome B)
    → (found ≡ None → Sure Js other) → ((a : A) → found ≡ Some a → Sure Js (go a)) → Sure Js (on_some found other go)
sure-some None other go none some = none refl
sure-some (Some a) other go none some = some a refl

pub sure-if : {A : Type 0} {Js : A → Tokens → Type 0} (test : Bool) (x y : Outcome A) → (test ≡ true → Sure Js x) → (test ≡ false → Sure Js y)
    → Sure Js (if test then x else y)
sure-if true x y holds fails = holds refl
sure-if false x y holds fails = fails refl

pub refused : {A : Type 0} {Js : A → Tokens → Type 0} (fault : Fault) → Sure Js (Err fault)
refused fault = record { so = tt }

abbrev pub outcome : {A : Type 0} → A → Tokens → Outcome A
outcome a rest = Ok (a, rest)

pub found : {A : Type 0} {Js : A → Tokens → Type 0} (a : A) (rest : Tokens) → Js a rest → Sure Js (Ok (a, rest))
found a rest is = record { so = is }

-- what is read is so
pub so-read : {A : Type 0} {Is : A → Tokens → Type 0} (r : Outcome A) (a : A) (rest : Tokens) → Sure Is r → r ≡ Ok (a, rest) → Is a rest
so-read {A = A} {Is = Is} (Ok found) a rest is same = subst (λ (p : A × Tokens). Is p.0 p.1) (ok-is same) is.so
so-read (Err fault) a rest is same = cc

-- where something is so, what is read of it is so too
pub as-read : {A : Type 0} {Is : A → Tokens → Type 0} (r : Outcome A) → ((a : A) (rest : Tokens) → r ≡ Ok (a, rest) → Is a rest) → Sure Is r
as-read (Ok found) h = record { so = h found.0 found.1 refl }
as-read (Err fault) h = record { so = tt }

pub sure-as : {A : Type 0} {Is Js : A → Tokens → Type 0} (r : Outcome A) → ((a : A) (rest : Tokens) → Is a rest → Js a rest) → Sure Is r → Sure Js r
sure-as (Ok found) go is = record { so = go found.0 found.1 is.so }
sure-as (Err fault) go is = record { so = tt }
