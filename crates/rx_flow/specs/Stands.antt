-- When code stands for a body.
use Rattle.std.specs.Prelude.{◌≡◌, ℕ, ◌+◌, ◌<◌, ◌≤◌, false, List, [], ◌∷◌, ◌++◌, length, slice_get, Option, Some, ◌⊎◌}
use Rattle.rx_clause_tree.specs.declared.clause.Clause.{Clause}
use Rattle.rx_flow.specs.declared.code.Op.{Op}
use Rattle.rx_flow.specs.declared.code.Op.TheVariants as op
use Rattle.rx_flow.specs.declared.code.Code.{Code}
use Rattle.rx_flow.specs.Rules.{Rule, Does, Begins, Asks, Loops, Fails, rule}
use Rattle.rx_flow.specs.Todo.{is_label}
use Rattle.rx_flow.specs.Kept.{kept_of, all_kept}
use Rattle.rx_flow.specs.Spots.{Spot, Doing, Turning, clauses_at, spot_at}

-- What is at a place, what clause has a number, and what a place stands for.
pub record View : Type 0 where
  pub op : ℕ → Option Op
  pub entry : ℕ → Option Clause
  pub spot : ℕ → Spot

-- of this code, where it is that of this body
abbrev pub view : Code → List Clause → View
view code body = record {
  op = λ place. slice_get code.ops place;
  entry = λ number. slice_get code.clauses number;
  spot = spot_at body;
}

abbrev pub left : View → ℕ → List Clause
left v place = clauses_at (v.spot place)

-- ---- the clauses of ops

-- What is left at the places to which a clause leads, by its rule: this comes behind it.
abbrev pub LeadsTo : View → Clause → List Clause → ℕ → ℕ → Rule → Type 0
LeadsTo v clause after next otherwise (Does simple) = left v next ≡ after
LeadsTo v clause after next otherwise (Begins clauses) = left v next ≡ clauses ++ after
LeadsTo v clause after next otherwise (Asks test one other) = (left v next ≡ one ++ after) × (left v otherwise ≡ other ++ after)
LeadsTo v clause after next otherwise (Loops header test clauses) = v.spot next ≡ Turning clause after
LeadsTo v clause after next otherwise Fails = Unit {0}

-- A clause stands at a place, is kept under a number, and leads to these places.
pub record ClauseHere (v : View) (at number next otherwise : ℕ) : Type 0 where
  pub clause : Clause
  pub after : List Clause
  pub here : left v at ≡ clause ∷ after
  pub entry : v.entry number ≡ Some (kept_of clause)
  pub leads : LeadsTo v clause after next otherwise (rule clause)

-- The same, and the clause is no label.
pub record StepHere (v : View) (at number next otherwise : ℕ) : Type 0 where
  pub stands : ClauseHere v at number next otherwise
  pub step : is_label (rule stands.clause) ≡ false

abbrev pub repeated : Rule → List Clause
repeated (Loops header test clauses) = clauses
repeated _ = []

-- A loop before a turn: its clauses come behind this place, and the other place is behind the loop.
pub record TurnHere (v : View) (at number end : ℕ) : Type 0 where
  pub clause : Clause
  pub after : List Clause
  pub here : v.spot at ≡ Turning clause after
  pub entry : v.entry number ≡ Some (kept_of clause)
  pub again : left v (at + 1) ≡ repeated (rule clause)
  pub there : left v end ≡ after

-- ---- jumps

-- a loop's turn, or a jump onward, stands at a place to which a jump leads back
pub record TurnThere (v : View) (place : ℕ) : Type 0 where
  pub clause : Clause
  pub after : List Clause
  pub there : v.spot place ≡ Turning clause after

pub record JumpThere (v : View) (at place : ℕ) : Type 0 where
  pub next : ℕ
  pub there : v.op place ≡ Some (op.Jump next)
  pub onward : at < next

pub record JumpHere (v : View) (at to : ℕ) : Type 0 where
  pub here : v.spot at ≡ Doing (left v to)
  pub ends : (at < to) ⊎ (TurnThere v to ⊎ JumpThere v at to)

-- ---- all ops

abbrev pub Fits : View → ℕ → Op → Type 0
Fits v at (op.Clause number) = ClauseHere v at number (at + 1) (at + 1)
Fits v at (op.Test number otherwise) = StepHere v at number (at + 1) otherwise
Fits v at (op.Jump to) = JumpHere v at to
Fits v at (op.Header number) = StepHere v at number (at + 1) (at + 1)
Fits v at (op.Turn number end) = TurnHere v at number end
Fits v at (op.NoWhen number) = StepHere v at number (at + 1) (at + 1)

-- from this place on the ops fit
abbrev pub AllFit : View → ℕ → List Op → Type 0
AllFit v at [] = Unit {0}
AllFit v at (o ∷ ops) = Fits v at o × AllFit v (at + 1) ops

-- an op leads to no place behind this one
abbrev pub Inside : ℕ → Op → Type 0
Inside limit (op.Clause number) = Unit {0}
Inside limit (op.Test number otherwise) = otherwise ≤ limit
Inside limit (op.Jump to) = to ≤ limit
Inside limit (op.Header number) = Unit {0}
Inside limit (op.Turn number end) = end ≤ limit
Inside limit (op.NoWhen number) = Unit {0}

abbrev pub AllInside : ℕ → List Op → Type 0
AllInside limit [] = Unit {0}
AllInside limit (o ∷ ops) = Inside limit o × AllInside limit ops

-- Each place of the code stands for what it has to.
pub record Stands (code : Code) (body : List Clause) : Type 0 where
  pub fits : AllFit (view code body) 0 code.ops
  -- jumps lead to places of the code or to its end
  pub inside : AllInside (length code.ops) code.ops
  -- the whole body is to be done at the first place, and nothing behind the last one
  pub first : clauses_at (spot_at body 0) ≡ body
  pub last : (place : ℕ) → length code.ops ≤ place → spot_at body place ≡ Doing []
  -- the clauses that are kept, in the order in which they begin
  pub kept : code.clauses ≡ all_kept body
