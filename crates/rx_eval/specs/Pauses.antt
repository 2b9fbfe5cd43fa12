-- Evaluations that stand at a call, and those that may go on.
use Rattle.std.specs.Prelude.{ℕ, ◌-◌, Bool, true, false, if◌then◌else◌, List, [], ◌∷◌, length, reverse, slice_get, Option, Some}
use Rattle.rx_tree.specs.declared.expr.Expr.{Expr}
use Rattle.rx_tree.specs.declared.expr.Expr.TheOpen.{Expr-F}
use Rattle.rx_tree.specs.declared.expr.Expr.TheViews.{out-Expr}
use Rattle.rx_tree.specs.declared.expr.SendPart.{SendPart}
use Rattle.rx_tree.specs.declared.value.Value.{Value}
use Rattle.rx_eval.specs.declared.code.Instr.{Instr}
use Rattle.rx_eval.specs.declared.code.Instr.TheVariants as i
use Rattle.rx_eval.specs.Code.{Code}
use Rattle.rx_eval.specs.Places.{Trees, IsPlace, partial, rest_at, with_answer, with_hole}

-- ---- at a call

-- A place of code, with the values that stand there below the answer of a call, and whether the answer becomes a value.
pub record Pause : Type 0 where
  pub code : Code
  pub place : ℕ
  pub values : List Value
  pub kept : Bool

-- whatever the answer is, the code goes on with it there
abbrev pub GoesOn : Pause → Type 0
GoesOn pause = (answer : Value) → IsPlace pause.code.instrs pause.place (with_answer pause.kept answer (reverse pause.values))

-- the expressions that are left: a hole stands for the answer
abbrev pub left_of : Pause → Trees
left_of pause = rest_at pause.code.instrs pause.place (with_hole pause.kept (reverse pause.values))

-- ---- nothing but the answer

abbrev pub is_hole : Expr-F Expr SendPart → Bool
is_hole Expr-F.Hole = true
is_hole _ = false

-- nothing but the answer is left of an expression of which no string is wanted
abbrev pub is_bare : Trees → Bool
is_bare [] = false
is_bare (tree ∷ []) = if tree.1 then false else is_hole (out-Expr tree.0)
is_bare (tree ∷ (next ∷ trees)) = false

-- ---- ready to go on

-- A place of code, with the values that stand there, the last one last.
pub record Going : Type 0 where
  pub code : Code
  pub place : ℕ
  pub values : List Value

abbrev pub IsPlaced : Going → Type 0
IsPlaced going = IsPlace going.code.instrs going.place (reverse going.values)

-- the expressions for which they stand
abbrev pub trees_of : Going → Trees
trees_of going = partial going.code.instrs going.place (reverse going.values)

-- an evaluation once the answer of its call has come
abbrev pub going_on : Pause → Value → Going
going_on pause answer = record {
  code = pause.code;
  place = pause.place;
  values = reverse (with_answer pause.kept answer (reverse pause.values));
}

-- whether the last of these instructions wants a string

abbrev pub is_wanted : Option Instr → Bool
is_wanted (Some i.Wanted) = true
is_wanted _ = false

abbrev pub ends_wanted : List Instr → Bool
ends_wanted code = is_wanted (slice_get code (length code - 1))
