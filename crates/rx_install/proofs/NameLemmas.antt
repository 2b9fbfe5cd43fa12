-- Which names are there, and which one a class waits for.
use Prim.Native.Nat.compare
use lib.Dec.{is_le}
use Rattle.std.proofs.Common.{◌≡◌, ℕ, suc, zero, ◌+◌, ◌≤◌, ◌||◌, Bool, true, false, cond, nat_lt, List, [], ◌∷◌, ◌++◌, length, take, slice_get, Option, Some, None, Result, Ok, Err, refl, sym, ap, subst, ◌∙◌, arith, lt-ltb, take_all}
use Rattle.std.specs.Prelude.{position, find, is_some, is_none, is_err, not, OnOk}
use Rattle.std.specs.List.{position_or_len, list_any}
use Rattle.std.specs.Option.{option_map, option_or}
use Rattle.std.specs.Str.{bytes_eq}
use Rattle.std.proofs.lemmas.Slice.Eq.{bytes_eq-Decides}
use Rattle.std.proofs.lemmas.List.Folds.{list_any-append}
use Rattle.std.proofs.lemmas.Option.{same_Some}
use Rattle.rx_tree.specs.declared.class.ClassDef.{ClassDef}
use Rattle.rx_vars.specs.Tables.{look_up, with_entry}
use Rattle.rx_classes.specs.Natives.{first_class}
use Rattle.rx_classes.specs.Classes.{class_named, defined_named, native_named, number_from}
use Rattle.rx_classes.specs.Installing.{missing_name}
use Rattle.rx_install.specs.Waiting.{AreNamed, IsWaiting, first_missing, names_of}

-- ---- tests

pub same_bytes : (a b : List ℕ) → bytes_eq a b ≡ true → a ≡ b
same_bytes a b is = (bytes_eq-Decides a b).0 is

pub bytes_eq-same : (a b : List ℕ) → a ≡ b → bytes_eq a b ≡ true
bytes_eq-same a b is = (bytes_eq-Decides a b).1 is

pub none-from : {A : Type 0} (o : Option A) → is_some o ≡ false → o ≡ None
none-from None is = refl
none-from (Some x) is = absurd cc

pub none-by : {A : Type 0} (x : A) (rest : Option A) (P : Type 0) (b : Bool) → cond b (Some x) rest ≡ None → (b ≡ false → rest ≡ None → P) → P
none-by x rest P true is so = absurd cc
none-by x rest P false is so = so refl is

not-true : (b : Bool) → (b ≡ true → ⊥) → b ≡ false
not-true true never = absurd (never refl)
not-true false never = refl

-- two names that differ do so from either side
pub bytes_eq-differ : (a b : List ℕ) → bytes_eq a b ≡ false → bytes_eq b a ≡ false
bytes_eq-differ a b is =
    not-true (bytes_eq b a) (λ e. let same : bytes_eq a b ≡ true = bytes_eq-same a b (sym (same_bytes b a e)) in cc)

pub not-false : (b : Bool) → not b ≡ false → b ≡ true
not-false true is = refl
not-false false is = absurd cc

-- ---- a table once something stands under a name

entry-by : {A : Type 0} (entry : List ℕ × A) (table : List (List ℕ × A)) (name : List ℕ) (value : A) (other : List ℕ) (here there : Bool)
    → bytes_eq name entry.0 ≡ here → bytes_eq other entry.0 ≡ there
    → look_up (with_entry table name value) other ≡ cond (bytes_eq other name) (Some value) (look_up table other)
    → look_up (with_entry (entry ∷ table) name value) other ≡ cond (bytes_eq other name) (Some value) (look_up (entry ∷ table) other)
entry-by entry table name value other true true is at further =
    let same : bytes_eq other name ≡ true = bytes_eq-same other name (same_bytes other entry.0 at ∙ sym (same_bytes name entry.0 is)) in
    rw is (rw at (rw same refl))
entry-by entry table name value other true false is at further =
    let same : bytes_eq other name ≡ false = subst (λ (n : List ℕ). bytes_eq other n ≡ false) (sym (same_bytes name entry.0 is)) at in
    rw is (rw at (rw same refl))
entry-by entry table name value other false true is at further =
    let same : bytes_eq other name ≡ false =
    subst (λ (n : List ℕ). bytes_eq n name ≡ false) (sym (same_bytes other entry.0 at)) (bytes_eq-differ name entry.0 is) in
    rw is (rw at (rw same refl))
entry-by entry table name value other false false is at further = rw is (rw at further)

pub look_up-with_entry_any : {A : Type 0} (table : List (List ℕ × A)) (name : List ℕ) (value : A) (other : List ℕ)
    → look_up (with_entry table name value) other ≡ cond (bytes_eq other name) (Some value) (look_up table other)
look_up-with_entry_any [] name value other = refl
look_up-with_entry_any (entry ∷ table) name value other =
    entry-by entry table name value other (bytes_eq name entry.0) (bytes_eq other entry.0) refl refl (look_up-with_entry_any table name value other)

-- ---- names that are there

pub is_some-option_map : {A B : Type 0} (f : A → B) (o : Option A) → is_some (option_map f o) ≡ is_some o
is_some-option_map f None = refl
is_some-option_map f (Some x) = refl

is_some-option_or : {A : Type 0} (a b : Option A) → is_some (option_or a b) ≡ (is_some a || is_some b)
is_some-option_or None b = refl
is_some-option_or (Some x) b = refl

is_some-cond : (b : Bool) (n : ℕ) → is_some (cond b (Some n) None) ≡ b
is_some-cond true n = refl
is_some-cond false n = refl

any-by : {X : Type 0} (p : X → Bool) (x : X) (xs : List X) (b : Bool) → p x ≡ b → list_any p xs ≡ nat_lt (position_or_len p xs) (length xs)
    → list_any p (x ∷ xs) ≡ nat_lt (position_or_len p (x ∷ xs)) (length (x ∷ xs))
any-by p x xs true is so = rw is (sym (lt-ltb 0 (suc (length xs)) (omega arith)))
any-by p x xs false is so =
    let before = position_or_len p xs in
    let place : position_or_len p (x ∷ xs) ≡ suc before = rw is (omega arith) in
    let same : nat_lt (suc before) (suc (length xs)) ≡ nat_lt before (length xs) = ap is_le (compare.suc-suc (suc before) (length xs)) in
    ap (λ (b : Bool). b || list_any p xs) is ∙ so ∙ sym same ∙ sym (ap (λ (n : ℕ). nat_lt n (suc (length xs))) place)

any-before : {X : Type 0} (p : X → Bool) (xs : List X) → list_any p xs ≡ nat_lt (position_or_len p xs) (length xs)
any-before p [] = refl
any-before p (x ∷ xs) = any-by p x xs (p x) refl (any-before p xs)

pub is_some-position : {X : Type 0} (p : X → Bool) (xs : List X) → is_some (position p xs) ≡ list_any p xs
is_some-position p xs = is_some-cond (nat_lt (position_or_len p xs) (length xs)) (position_or_len p xs) ∙ sym (any-before p xs)

or-false : (b : Bool) → (b || false) ≡ b
or-false true = refl
or-false false = refl

or-assoc : (a b c : Bool) → (a || (b || c)) ≡ ((a || b) || c)
or-assoc true b c = refl
or-assoc false b c = refl

abbrev is_class : List ℕ → ClassDef → Bool
is_class name class = bytes_eq name class.name

some-by : (first : ℕ) (class : ClassDef) (classes : List ClassDef) (name : List ℕ) (here : Bool) → bytes_eq name class.name ≡ here
    → is_some (number_from (suc first) classes name) ≡ list_any (is_class name) classes
    → is_some (number_from first (class ∷ classes) name) ≡ list_any (is_class name) (class ∷ classes)
some-by first class classes name true is further = rw is refl
some-by first class classes name false is further = rw is further

some-numbered : (first : ℕ) (classes : List ClassDef) (name : List ℕ)
    → is_some (number_from first classes name) ≡ list_any (is_class name) classes
some-numbered first [] name = refl
some-numbered first (class ∷ classes) name =
    some-by first class classes name (bytes_eq name class.name) refl (some-numbered (suc first) classes name)

some-defined : (classes : List ClassDef) (name : List ℕ) → is_some (defined_named classes name) ≡ list_any (is_class name) classes
some-defined classes name = some-numbered first_class classes name

pub defined-more : (classes : List ClassDef) (class : ClassDef) (name : List ℕ)
    → is_some (defined_named (classes ++ class ∷ []) name) ≡ (is_some (defined_named classes name) || bytes_eq name class.name)
defined-more classes class name =
    some-defined (classes ++ class ∷ []) name
    ∙ list_any-append (is_class name) classes (class ∷ [])
    ∙ ap (λ (b : Bool). list_any (is_class name) classes || b) (or-false (bytes_eq name class.name))
    ∙ ap (λ (b : Bool). b || bytes_eq name class.name) (sym (some-defined classes name))

pub named-more : (classes : List ClassDef) (class : ClassDef) (name : List ℕ)
    → is_some (class_named (classes ++ class ∷ []) name) ≡ (is_some (class_named classes name) || bytes_eq name class.name)
named-more classes class name =
    is_some-option_or (native_named name) (defined_named (classes ++ class ∷ []) name)
    ∙ ap (λ (b : Bool). is_some (native_named name) || b) (defined-more classes class name)
    ∙ or-assoc (is_some (native_named name)) (is_some (defined_named classes name)) (bytes_eq name class.name)
    ∙ ap (λ (b : Bool). b || bytes_eq name class.name) (sym (is_some-option_or (native_named name) (defined_named classes name)))

-- what is there stays there
pub named-stays : (classes : List ClassDef) (class : ClassDef) (name : List ℕ)
    → is_some (class_named classes name) ≡ true → is_some (class_named (classes ++ class ∷ []) name) ≡ true
named-stays classes class name is = named-more classes class name ∙ ap (λ (b : Bool). b || bytes_eq name class.name) is

-- and what isn't there stays away, if the new class has another name
pub missing-stays : (classes : List ClassDef) (class : ClassDef) (name : List ℕ) → bytes_eq name class.name ≡ false
    → class_named classes name ≡ None → class_named (classes ++ class ∷ []) name ≡ None
missing-stays classes class name other is =
    none-from (class_named (classes ++ class ∷ []) name)
    (named-more classes class name ∙ ap (λ (o : Option ℕ). is_some o || bytes_eq name class.name) is ∙ other)

-- ---- the names of a class

abbrev pub is_missing : List ClassDef → List ℕ → Bool
is_missing classes name = is_none (class_named classes name)

-- where none of some names is missing, none is behind one more class
pub none-more : (classes : List ClassDef) (class : ClassDef) (names : List (List ℕ))
    → find (is_missing classes) names ≡ None → find (is_missing (classes ++ class ∷ [])) names ≡ None
none-more classes class [] is = refl
none-more classes class (name ∷ names) is =
    none-by name (find (is_missing classes) names) (find (is_missing (classes ++ class ∷ [])) (name ∷ names) ≡ None) (is_missing classes name) is
    (λ here further.
    let there : is_some (class_named (classes ++ class ∷ []) name) ≡ true =
    named-stays classes class name (not-false (is_some (class_named classes name)) here) in
    rw there (none-more classes class names further))

-- the first that is missing, where those in front of it aren't
find-at : {X : Type 0} (p : X → Bool) (xs : List X) (k : ℕ) (x : X) → find p (take k xs) ≡ None → slice_get xs k ≡ Some x → p x ≡ true
    → find p xs ≡ Some x
find-at p [] k x none at is = absurd cc
find-at p (y ∷ xs) zero x none at is =
    let same : y ≡ x = same_Some y x at in
    rw same (ap (λ (b : Bool). cond b (Some x) (find p xs)) is)
find-at p (y ∷ xs) (suc k) x none at is =
    none-by y (find p (take k xs)) (find p (y ∷ xs) ≡ Some x) (p y) none
    (λ here further. rw here (find-at p xs k x further at is))

-- a class that waits for a name isn't complete
pub waiting-missing : (classes : List ClassDef) (class : ClassDef) (place : ℕ) (name : List ℕ) → IsWaiting classes class place name
    → missing_name classes class ≡ Some name
waiting-missing classes class place name waits =
    find-at (is_missing classes) (names_of class) place name waits.earlier waits.here (ap (λ (o : Option ℕ). is_none o) waits.missing)

-- it still waits behind a class of another name
pub waits-still : (classes : List ClassDef) (more class : ClassDef) (place : ℕ) (name : List ℕ) → bytes_eq name more.name ≡ false
    → IsWaiting classes class place name → IsWaiting (classes ++ more ∷ []) class place name
waits-still classes more class place name other waits = record {
  earlier = none-more classes more (take place (names_of class)) waits.earlier;
  here = waits.here;
  missing = missing-stays classes more name other waits.missing;
}

-- ---- the search for the first

step-by : {X : Type 0} (p : X → Bool) (xs : List X) (k : ℕ) (x : X) → slice_get xs k ≡ Some x → p x ≡ false → find p (take k xs) ≡ None
    → find p (take (suc k) xs) ≡ None
step-by p [] k x at is none = absurd cc
step-by p (y ∷ xs) zero x at is none =
    let same : y ≡ x = same_Some y x at in
    rw same (ap (λ (b : Bool). cond b (Some x) None) is)
step-by p (y ∷ xs) (suc k) x at is none =
    none-by y (find p (take k xs)) (find p (take (suc (suc k)) (y ∷ xs)) ≡ None) (p y) none
    (λ here further. rw here (step-by p xs k x at is further))

-- one more name that is there
pub first_missing-more : (classes : List ClassDef) (class : ClassDef) (place : ℕ) (name : List ℕ) → slice_get (names_of class) place ≡ Some name
    → is_some (class_named classes name) ≡ true → first_missing classes class place ≡ None → first_missing classes class (place + 1) ≡ None
first_missing-more classes class place name at is none =
    let next : place + 1 ≡ suc place = omega arith in
    rw next (step-by (is_missing classes) (names_of class) place name at (ap not is) none)

-- the name where the search stops
pub waits-from : (classes : List ClassDef) (class : ClassDef) (place : ℕ) (name : List ℕ) → slice_get (names_of class) place ≡ Some name
    → is_some (class_named classes name) ≡ false → first_missing classes class place ≡ None → IsWaiting classes class place name
waits-from classes class place name at is none = record { earlier = none; here = at; missing = none-from (class_named classes name) is }

-- where it doesn't stop, the class is complete
pub complete-from : (classes : List ClassDef) (class : ClassDef) (count : ℕ) → length (names_of class) ≤ count
    → first_missing classes class count ≡ None → missing_name classes class ≡ None
complete-from classes class count all none =
    ap (find (is_missing classes)) (sym (take_all count (names_of class) all)) ∙ none

-- ---- the table of names

cond-or : {A : Type 0} (b : Bool) (x : A) (o : Option A) → is_some (cond b (Some x) o) ≡ (is_some o || b)
cond-or true x None = refl
cond-or true x (Some y) = refl
cond-or false x None = refl
cond-or false x (Some y) = refl

-- with the name of one more class
pub named-with : (classes more : List ClassDef) (class : ClassDef) (names table : List (List ℕ × Bool)) (name : List ℕ)
    → AreNamed classes names → more ≡ classes ++ class ∷ [] → name ≡ class.name → table ≡ with_entry names name true → AreNamed more table
named-with classes more class names table name named is same with = record {
  finds = λ other.
      ap (λ (t : List (List ℕ × Bool)). is_some (look_up t other)) with
      ∙ ap (λ (o : Option Bool). is_some o) (look_up-with_entry_any names name true other)
      ∙ cond-or (bytes_eq other name) true (look_up names other)
      ∙ ap (λ (b : Bool). b || bytes_eq other name) (named.finds other)
      ∙ ap (λ (n : List ℕ). is_some (defined_named classes other) || bytes_eq other n) same
      ∙ sym (defined-more classes class other)
      ∙ ap (λ (all : List ClassDef). is_some (defined_named all other)) (sym is);
}

pub from-ok : {T E : Type 0} (result : Result T E) (P : Type 0) → is_err result ≡ false → OnOk result P → P
from-ok (Ok x) P is holds = holds
from-ok (Err e) P is holds = absurd cc
