use Rattle.std.proofs.Common.{◌∷◌, [], false, ◌≤◌, length, drop}
use Rattle.rx_tree.specs.declared.expr.Expr.{Expr}
use Rattle.rx_tree.specs.declared.expr.Expr.TheVariants as e
use Rattle.rx_eval.specs.Bodies.{Body}
use Rattle.rx_eval.specs.Places.{Trees}
use Rattle.rx_eval.specs.Whole.{IsBuilt}
use Rattle.rx_eval.proofs.appending.append_opers.Given as goal

abbrev pub invariant-loop-at : goal.invariant-loop-at
invariant-loop-at l = record {
  bound : l.at ≤ length l.opers;
  built : (body : Body) (inner : Expr) (trees : Trees) → IsBuilt body l.initial.code ((e.Prefix [] inner, false) ∷ trees) → IsBuilt body l.code ((e.Prefix (drop l.at l.opers) inner, false) ∷ trees);
}

abbrev pub decreases-loop-at : goal.decreases-loop-at
decreases-loop-at l = l.at
