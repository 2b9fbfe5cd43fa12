-- What the tables of names say: which classes are there, and which names are waited for.
use Rattle.std.specs.Prelude.{◌≡◌, ℕ, List, [], ◌∷◌, take, find, is_some, is_none, slice_get, unwrap_or, Option, None, Some, if◌then◌else◌, Bool}
use Rattle.std.specs.Str.{bytes_eq}
use Rattle.rx_tree.specs.declared.class.ClassDef.{ClassDef}
use Rattle.rx_vars.specs.Tables.{look_up}
use Rattle.rx_classes.specs.Classes.{class_named, defined_named}
use Rattle.rx_install.specs.declared.waiting.Waiter.{Waiter}

-- the names that a class needs
abbrev pub names_of : ClassDef → List (List ℕ)
names_of class = class.parent ∷ class.inherits

-- the first of so many of these names that isn't there
abbrev pub first_missing : List ClassDef → ClassDef → ℕ → Option (List ℕ)
first_missing before class count = find (λ (name : List ℕ). is_none (class_named before name)) (take count (names_of class))

-- The first name that isn't there has this place among those that the class needs.
pub record IsWaiting (before : List ClassDef) (class : ClassDef) (place : ℕ) (name : List ℕ) : Type 0 where
  pub earlier : first_missing before class place ≡ None
  pub here : slice_get (names_of class) place ≡ Some name
  pub missing : class_named before name ≡ None

-- The table has the names of these classes.
pub record AreNamed (classes : List ClassDef) (names : List (List ℕ × Bool)) : Type 0 where
  pub finds : (name : List ℕ) → is_some (look_up names name) ≡ is_some (defined_named classes name)

-- the classes that wait for a name
abbrev pub waiters : List (List ℕ × List Waiter) → List ℕ → List Waiter
waiters table name = unwrap_or (look_up table name) []

-- These wait for a name then, and for each other name the same as before.
abbrev pub Changes : List (List ℕ × List Waiter) → List (List ℕ × List Waiter) → List ℕ → List Waiter → Type 0
Changes old new name list = (other : List ℕ) → waiters new other ≡ (if bytes_eq other name then list else waiters old other)
