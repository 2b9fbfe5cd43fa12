-- What is added to code while a body is made flat.
use Rattle.std.specs.Prelude.{◌≡◌, ℕ, ◌+◌, ◌≤◌, List, [], ◌∷◌, ◌++◌, length, slice_set, Option, Some}
use Rattle.rx_clause_tree.specs.declared.clause.Clause.{Clause}
use Rattle.rx_clause_tree.specs.declared.clause.When.{When}
use Rattle.rx_flow.specs.declared.code.Op.{Op}
use Rattle.rx_flow.specs.declared.code.Op.TheVariants as op
use Rattle.rx_flow.specs.declared.code.Code.{Code}
use Rattle.rx_flow.specs.Rules.{whens_left}
use Rattle.rx_flow.specs.Kept.{kept_test, kept, all_kept, whens_kept}
use Rattle.rx_flow.specs.Spots.{Laying, spots, all_spots, when_spots}
use Rattle.rx_flow.specs.Stands.{View, left, AllFit, AllInside}

-- ---- code with one change

abbrev pub with_op : Code → Op → Code
with_op code op = record code { ops = code.ops ++ op ∷ [] }

abbrev pub with_entry : Code → Clause → Code
with_entry code clause = record code { clauses = code.clauses ++ clause ∷ [] }

abbrev pub with_set : Code → ℕ → Op → Code
with_set code place op = record code { ops = slice_set code.ops place op }

-- ---- ops and entries, wherever they stand

-- a function has these values from this number on
abbrev pub Runs : {A : Type 0} → (ℕ → A) → ℕ → List A → Type 0
Runs f at [] = Unit {0}
Runs f at (x ∷ xs) = (f at ≡ x) × Runs f (at + 1) xs

-- a function has these values, which others may lack, from this number on
abbrev pub Held : {A : Type 0} → (ℕ → Option A) → ℕ → List A → Type 0
Held f at [] = Unit {0}
Held f at (x ∷ xs) = (f at ≡ Some x) × Held f (at + 1) xs

-- Ops and clauses, at these places and numbers, are laid for what these spots stand for.
pub record Lays (at number : ℕ) (ops : List Op) (entries : List Clause) (laying : Laying) : Type 0 where
  pub counts : (after : List Clause) → length (laying after) ≡ length ops
  pub inside : (limit : ℕ) → at + length ops ≤ limit → AllInside limit ops
  pub fits : (v : View) (after : List Clause) → Runs v.spot at (laying after) → left v (at + length ops) ≡ after
      → Held v.op at ops → Held v.entry number entries → AllFit v at ops

-- The same of WHENs of a SELECT, whose THEN clauses go on at the exit, which leads to the end.
pub record LaysWhens (exit at number : ℕ) (ops : List Op) (entries : List Clause) (line : ℕ) (whens : List When)
    (others : Option (List Clause)) : Type 0 where
  pub counts : (rest : List When) (after : List Clause) → length (when_spots line whens rest others after) ≡ length ops
  pub inside : (limit : ℕ) → at + length ops ≤ limit → exit ≤ limit → AllInside limit ops
  pub fits : (v : View) (rest : List When) (after : List Clause) (end : ℕ) → Runs v.spot at (when_spots line whens rest others after)
      → left v (at + length ops) ≡ whens_left line rest others ++ after → left v exit ≡ after → v.op exit ≡ Some (op.Jump end)
      → at + length ops ≤ end → Held v.op at ops → Held v.entry number entries → AllFit v at ops

-- ---- what a function has added

-- what is laid for clauses: the spots, and the clauses that are kept
pub record Plan : Type 0 where
  pub laying : Laying
  pub kept : List Clause

abbrev pub plan : Clause → Plan
plan clause = record { laying = spots clause; kept = kept clause }

abbrev pub plans : List Clause → Plan
plans clauses = record { laying = all_spots clauses; kept = all_kept clauses }

-- This code was added to the old one, and its places stand for these spots.
pub record Laid (old new : Code) (what : Plan) : Type 0 where
  pub ops : List Op
  pub entries : List Clause
  pub all_ops : new.ops ≡ old.ops ++ ops
  pub all_entries : new.clauses ≡ old.clauses ++ entries
  pub kept_are : entries ≡ what.kept
  pub lays : Lays (length old.ops) (length old.clauses) ops entries what.laying

-- The same of one WHEN, whose THEN clause goes on at the exit; where its test fails, it goes on behind itself.
pub record LaidWhen (exit : ℕ) (old new : Code) (line : ℕ) (when : When) : Type 0 where
  pub ops : List Op
  pub entries : List Clause
  pub next : ℕ
  pub all_ops : new.ops ≡ old.ops ++ op.Test (length old.clauses) next ∷ (ops ++ op.Jump exit ∷ [])
  pub all_entries : new.clauses ≡ old.clauses ++ kept_test line when.test ∷ entries
  pub kept_are : entries ≡ kept when.chosen
  pub next_is : next ≡ length old.ops + 1 + length ops + 1
  pub lays : Lays (length old.ops + 1) (length old.clauses + 1) ops entries (spots when.chosen)

pub record LaidWhens (exit : ℕ) (old new : Code) (line : ℕ) (whens : List When) : Type 0 where
  pub ops : List Op
  pub entries : List Clause
  pub all_ops : new.ops ≡ old.ops ++ ops
  pub all_entries : new.clauses ≡ old.clauses ++ entries
  pub kept_are : entries ≡ whens_kept line whens
  pub lays : (others : Option (List Clause)) → LaysWhens exit (length old.ops) (length old.clauses) ops entries line whens others

-- A SELECT was begun: a jump over the exit, and the place of the exit.
pub record Opened (old new : Code) (entry : Clause) (number exit : ℕ) : Type 0 where
  pub number_is : number ≡ length old.clauses
  pub exit_is : exit ≡ length old.ops + 1
  pub all_ops : new.ops ≡ old.ops ++ op.Jump (length old.ops + 2) ∷ op.Jump 0 ∷ []
  pub all_entries : new.clauses ≡ old.clauses ++ entry ∷ []
