-- A change of the table of those that wait.
use Rattle.std.proofs.Common.{◌≡◌, ℕ, Bool, true, false, cond, Vec, List, [], ◌∷◌, ◌++◌, Result, Ok, Err, OnOk, subst, Option, Some, None, refl, sym, ap, ◌∙◌}
use Rattle.std.specs.Prelude.{unwrap_or}
use Rattle.std.specs.declared.alloc.Global.{Global}
use Rattle.std.specs.Str.{bytes_eq}
use Rattle.std.specs.Map.{lookup, set_value}
use Rattle.rx_vars.specs.Tables.{look_up, table_of, with_entry}
use Rattle.rx_vars.proofs.TableLemmas.{look_up-entries, set_value-entries}
use Rattle.rx_install.specs.declared.waiting.Waiter.{Waiter}
use Rattle.rx_install.specs.Waiting.{Changes, waiters}
use Rattle.rx_install.proofs.NameLemmas.{look_up-with_entry_any, same_bytes}

abbrev pub is_key : List ℕ → Vec ℕ Global → Bool
is_key name key = bytes_eq name key.items

unwrap-cond : {A : Type 0} (b : Bool) (list : A) (o : Option A) (d : A) → unwrap_or (cond b (Some list) o) d ≡ cond b list (unwrap_or o d)
unwrap-cond true list o d = refl
unwrap-cond false list o d = refl

-- these are put under a name
pub changes-with : (old new : List (List ℕ × List Waiter)) (name : List ℕ) (list : List Waiter) → new ≡ with_entry old name list
    → Changes old new name list
changes-with old new name list is other =
    ap (λ (table : List (List ℕ × List Waiter)). waiters table other) is
    ∙ ap (λ (o : Option (List Waiter)). unwrap_or o []) (look_up-with_entry_any old name list other)
    ∙ unwrap-cond (bytes_eq other name) list (look_up old other) []

module _ (entries : List (Vec ℕ Global × List Waiter)) (old : List (List ℕ × List Waiter)) (name : List ℕ) (is : table_of entries ≡ old) where
  -- those that wait for a name
  pub waiters-found : (was : List Waiter) → Some was ≡ lookup (is_key name) entries → was ≡ waiters old name
  waiters-found was found =
      ap (λ (o : Option (List Waiter)). unwrap_or o []) (found ∙ look_up-entries entries name)
      ∙ ap (λ (table : List (List ℕ × List Waiter)). waiters table name) is

  pub waiters-absent : None ≡ lookup (is_key name) entries → [] ≡ waiters old name
  waiters-absent found =
      ap (λ (o : Option (List Waiter)). unwrap_or o []) (found ∙ look_up-entries entries name)
      ∙ ap (λ (table : List (List ℕ × List Waiter)). waiters table name) is

  -- once these are written in their place
  pub changes-written : (new : List (Vec ℕ Global × List Waiter)) (was list : List Waiter) → Some was ≡ lookup (is_key name) entries
      → new ≡ set_value (is_key name) entries list → Changes old (table_of new) name list
  changes-written new was list found written =
      changes-with old (table_of new) name list
      (ap table_of written ∙ set_value-entries entries name list was (sym found)
      ∙ ap (λ (table : List (List ℕ × List Waiter)). with_entry table name list) is)

none-by : (old : List (List ℕ × List Waiter)) (name other : List ℕ) (b : Bool) → bytes_eq other name ≡ b → [] ≡ waiters old name
    → waiters old other ≡ cond b [] (waiters old other)
none-by old name other true is none = ap (waiters old) (same_bytes other name is) ∙ sym none
none-by old name other false is none = refl

-- where none waits, none is taken away
pub changes-none : (old new : List (List ℕ × List Waiter)) (name : List ℕ) → new ≡ old → [] ≡ waiters old name → Changes old new name []
changes-none old new name is none other =
    ap (λ (table : List (List ℕ × List Waiter)). waiters table other) is ∙ none-by old name other (bytes_eq other name) refl none

-- one more where some wait
pub found-added : (old new : List (List ℕ × List Waiter)) (name : List ℕ) (was list : List Waiter) (waiter : Waiter) → was ≡ waiters old name
    → list ≡ was ++ waiter ∷ [] → Changes old new name list → Changes old new name (waiters old name ++ waiter ∷ [])
found-added old new name was list waiter found is changes =
    subst (Changes old new name) (is ∙ ap (λ (all : List Waiter). all ++ waiter ∷ []) found) changes

-- the first one
pub absent-added : {T E : Type 0} (result : Result T E) (self old new : List (List ℕ × List Waiter)) (name : List ℕ) (list none : List Waiter)
    (waiter : Waiter) → self ≡ old → [] ≡ waiters old name → list ≡ none ++ waiter ∷ [] → none ≡ [] → OnOk result (Changes self new name list)
    → OnOk result (Changes old new name (waiters old name ++ waiter ∷ []))
absent-added (Ok x) self old new name list none waiter is absent listed empty changes =
    found-added old new name none list waiter (empty ∙ absent) listed
    (subst (λ (table : List (List ℕ × List Waiter)). Changes table new name list) is changes)
absent-added (Err e) self old new name list none waiter is absent listed empty changes = tt
