-- What is known of the classes while they are installed.
use Rattle.std.specs.Prelude.{◌≡◌, ◌⊎◌, ℕ, Bool, true, false, Result, Ok, Err, ◌≤◌, ◌<◌, List, [], ◌∷◌, ◌++◌, length, slice_get, slice_index_or, All, Contains, Option, None, Some, IsSome, IsTrue}
use Rattle.std.specs.Ordering.{nat_cmp}
use Rattle.std.specs.BTreeSet.{contains, Updates}
use Rattle.rx_tree.specs.declared.class.ClassDef.{ClassDef}
use Rattle.rx_classes.specs.Installing.{missing_name}
use Rattle.rx_install.specs.declared.refused.InstallRefused.{InstallRefused}
use Rattle.rx_install.specs.declared.refused.InstallRefused.TheVariants.{NoOrder, OutOfMemory}
use Rattle.rx_install.specs.declared.waiting.Waiter.{Waiter}
use Rattle.rx_install.specs.declared.installation.Installation.{Installation}
use Rattle.rx_install.specs.Installation.{IsNext}
use Rattle.rx_install.specs.Waiting.{Changes, IsWaiting, first_missing, waiters}

-- the classes that are left, of those at their places
abbrev pub left_of : List (Option ClassDef) → List ClassDef
left_of [] = []
left_of (None ∷ places) = left_of places
left_of (Some class ∷ places) = class ∷ left_of places

-- the first of these classes, if there are any
abbrev pub IsFirst : Option ClassDef → List ClassDef → Type 0
IsFirst None classes = classes ≡ []
IsFirst (Some first) classes = (others : List ClassDef) × (classes ≡ first ∷ others)

-- The class is left at this place.
abbrev pub IsLeft : Installation → ℕ → ClassDef → Type 0
IsLeft state place class = slice_get state.left.items place ≡ Some (Some class)

-- It is left, and so many of the names that it needs are there.
abbrev pub IsPending : Installation → Waiter → Type 0
IsPending state waiter =
    (class : ClassDef) × IsLeft state waiter.place class × (first_missing state.installed class waiter.there ≡ None)

-- It is left, and waits for this name.
abbrev pub WaitsFor : Installation → Waiter → List ℕ → Type 0
WaitsFor state waiter name =
    (class : ClassDef) × IsLeft state waiter.place class × IsWaiting state.installed class waiter.there name

abbrev pub IsReady : Installation → ℕ → Type 0
IsReady state place = (class : ClassDef) × IsLeft state place class × (missing_name state.installed class ≡ None)

abbrev pub IsListed : Installation → ℕ → Type 0
IsListed state place = (name : List ℕ) × (waiter : Waiter) × Contains (waiters state.waiting name) waiter × (waiter.place ≡ place)

-- Each class that is left is ready, or waits for the first name that isn't there, or is still to be looked at.
pub record IsSound (state : Installation) (pending : Waiter → Type 0) : Type 0 where
  pub ready : (place : ℕ) → IsTrue (contains nat_cmp state.ready place) → IsReady state place
  pub waiting : (name : List ℕ) (waiter : Waiter) → Contains (waiters state.waiting name) waiter → WaitsFor state waiter name
  pub looked_for : (waiter : Waiter) → pending waiter → IsPending state waiter
  pub covered : (place : ℕ) (class : ClassDef) → IsLeft state place class
      → IsTrue (contains nat_cmp state.ready place) ⊎ (IsListed state place ⊎ ((waiter : Waiter) × pending waiter × (waiter.place ≡ place)))

-- All are looked at.
abbrev pub IsSettled : Installation → Type 0
IsSettled state = IsSound state (λ (waiter : Waiter). ⊥)

-- those of a list from a place on
abbrev pub from_place : ℕ → List Waiter → Waiter → Type 0
from_place place list waiter = (k : ℕ) × (place ≤ k) × (k < length list) × (slice_index_or list k waiter ≡ waiter)

-- the classes from a place on, of so many, of whose names none was looked for
abbrev pub never_looked_at : ℕ → ℕ → Waiter → Type 0
never_looked_at place count waiter = (place ≤ waiter.place) × (waiter.place < count) × (waiter.there ≡ 0)

-- The same classes are installed, and the same are left.
pub record SameClasses (old new : Installation) : Type 0 where
  pub installed : new.installed ≡ old.installed
  pub left : new.left.items ≡ old.left.items

pub record IsFoundReady (old new : Installation) (waiter : Waiter) : Type 0 where
  pub class : ClassDef
  pub here : IsLeft old waiter.place class
  pub complete : missing_name old.installed class ≡ None
  pub added : Updates nat_cmp old.ready new.ready waiter.place true
  pub others : new.waiting ≡ old.waiting

pub record IsFoundWaiting (old new : Installation) (waiter : Waiter) : Type 0 where
  pub class : ClassDef
  pub here : IsLeft old waiter.place class
  pub place : ℕ
  pub name : List ℕ
  pub waits : IsWaiting old.installed class place name
  pub added : Changes old.waiting new.waiting name (waiters old.waiting name ++ record { place = waiter.place; there = place } ∷ [])
  pub others : new.ready ≡ old.ready

-- A class was looked at.
abbrev pub IsLookedAt : Installation → Installation → Waiter → Type 0
IsLookedAt old new waiter = SameClasses old new × (IsFoundReady old new waiter ⊎ IsFoundWaiting old new waiter)

-- The next class was installed.
pub record IsNextInstalled (old new : Installation) (pending : Waiter → Type 0) : Type 0 where
  pub class : ClassDef
  pub next : IsNext old.installed (left_of old.left.items) class (left_of new.left.items)
  pub installed : new.installed ≡ old.installed ++ class ∷ []
  pub sound : IsSound new pending

-- None is ready.
pub record IsAtEnd (old new : Installation) : Type 0 where
  pub same : SameClasses old new
  pub waiting : All (λ (class : ClassDef). IsSome (missing_name old.installed class)) (left_of old.left.items)

-- The next class was installed, and these waited for its name; or none is ready.
abbrev pub Steps : Installation → Installation → Option (List Waiter) → Type 0
Steps old new None = IsAtEnd old new
Steps old new (Some woken) = IsNextInstalled old new (from_place 0 woken)

-- The next class was installed and all are looked at, or none is ready.
abbrev pub Goes : Installation → Installation → Bool → Type 0
Goes old new true = IsNextInstalled old new (λ (waiter : Waiter). ⊥)
Goes old new false = IsAtEnd old new

-- what comes of the classes at the end
abbrev pub IsOutcome : Installation → Result (List ClassDef) InstallRefused → Type 0
IsOutcome state (Ok order) = (order ≡ state.installed) × (left_of state.left.items ≡ [])
IsOutcome state (Err (NoOrder line)) =
    (first : ClassDef) × (others : List ClassDef) × (left_of state.left.items ≡ first ∷ others) × (line ≡ first.line)
IsOutcome state (Err OutOfMemory) = ⊥
