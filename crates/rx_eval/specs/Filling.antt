-- Expressions with the answer of a call in place of their hole.
use Rattle.std.specs.Prelude.{◌≡◌, ℕ, Bool, List, map}
use Rattle.rx_tree.specs.declared.expr.Expr.{Expr}
use Rattle.rx_tree.specs.declared.expr.Expr.TheVariants as e
use Rattle.rx_tree.specs.declared.expr.Expr.TheOpen.{Expr-F}
use Rattle.rx_tree.specs.declared.expr.Expr.TheViews.{roll-Expr, roll-SendPart}
use Rattle.rx_tree.specs.declared.expr.Expr.TheFolds.{fold-Expr}
use Rattle.rx_tree.specs.declared.expr.SendPart.{SendPart}
use Rattle.rx_tree.specs.declared.value.Value.{Value}
use Rattle.rx_eval.specs.declared.code.Instr.{Instr}
use Rattle.rx_eval.specs.Places.{Trees, partial, rest_at, with_answer, with_hole}

abbrev pub filled_level : Value → Expr-F Expr SendPart → Expr
filled_level answer Expr-F.Hole = e.Const answer
filled_level answer layer = roll-Expr layer

-- an expression with the answer of a call in place of its hole
unfoldable pub filled : Value → Expr → Expr
filled answer = fold-Expr Expr SendPart (filled_level answer) roll-SendPart

abbrev pub filled_all : Value → Trees → Trees
filled_all answer trees = map (λ tree. (filled answer tree.0, tree.1)) trees

-- Filling the hole of what is left at a call gives what is left once its answer stands at the place behind it.
abbrev pub FillsRest : Type 0
FillsRest = (code : List Instr) (place : ℕ) (values : List Value) (kept : Bool) (answer : Value)
    → filled_all answer (rest_at code place (with_hole kept values)) ≡ partial code place (with_answer kept answer values)
