-- What the code of a body and of its clauses is to be.
use Rattle.std.specs.Prelude.{◌≡◌, ℕ, List, [], ◌∷◌, ◌++◌, codes, map, Option, None, Some}
use Rattle.std.specs.declared.alloc.Global.{Global}
use Rattle.std.specs.declared.sync.Arc.{Arc}
use Rattle.std.specs.Arc.{arc_value}
use Rattle.rx_tree.specs.declared.value.Value.{Value}
use Rattle.rx_tree.specs.declared.class.ClassDef.{ClassDef}
use Rattle.rx_clause_tree.specs.declared.clause.Body.{Body as Written}
use Rattle.rx_clause_tree.specs.declared.clause.Clause.{Clause}
use Rattle.rx_clause_tree.specs.declared.simple.Simple.{Simple}
use Rattle.rx_flow.specs.Rules.{Rule, Does, rule}
use Rattle.rx_flow.specs.Kept.{all_kept}
use Rattle.rx_classes.specs.Natives.{native_names}
use Rattle.rx_eval.specs.Bodies.{Body}
use Rattle.rx_eval.specs.Code.{Code}
use Rattle.rx_eval.specs.Places.{Trees, trees_of}
use Rattle.rx_machine.specs.Clauses as clauses
use Rattle.rx_machine.specs.Scenes.{class_name, labels_from, symbols_from}

-- ---- symbols

-- the names of the symbols that each program has
abbrev pub first_names : List (List ℕ)
first_names = codes "NIL" ∷ native_names

-- the symbols of a program with these classes
abbrev pub symbols_for : List ClassDef → List (List ℕ × ℕ)
symbols_for classes = symbols_from [] 1 (codes "NIL" ∷ native_names ++ map class_name classes)

-- ---- clauses

-- what a clause does that holds no other clause
abbrev pub done_by : Rule → Option Simple
done_by (Does simple) = Some simple
done_by _ = None

abbrev pub trees_by : List (Option Value) → Option Simple → Trees
trees_by args None = []
trees_by args (Some simple) = clauses.trees_of args simple

-- the expressions of a clause, where the frame has these arguments
abbrev pub trees_in : List (Option Value) → Clause → Trees
trees_in args clause = trees_by args (done_by (rule clause))

-- ---- code

-- what is fixed for code, and its trees
abbrev pub seen : Arc Code Global → Body × Trees
seen code = ((arc_value code).body, trees_of (arc_value code).instrs)

-- the same of the code that a clause of a body is to have
abbrev pub wanted : Body → Clause → Body × Trees
wanted body clause = (body, trees_in [] clause)

-- Each clause of a body has its code.
abbrev pub AreCodes : Body → List Clause → List (Arc Code Global) → Type 0
AreCodes body clauses codes = map seen codes ≡ map (wanted body) clauses

-- ---- bodies

-- A body, and the objects that environment symbols name in it.
pub record Coded : Type 0 where
  pub body : Written
  pub objects : List (List ℕ × ℕ)

-- what is fixed for its expressions
abbrev pub fixed_for : Coded → Body
fixed_for coded = record { labels = labels_from [] coded.body.clauses; objects = coded.objects }

abbrev pub with_objects : List (List ℕ × ℕ) → Written → Coded
with_objects objects body = record { body = body; objects = objects }

-- What is kept of a body with these clauses: what is fixed for its expressions, and the code of each clause.
pub record IsCoded (clauses : List Clause) (fixed : Body) (compiled : List (Arc Code Global)) : Type 0 where
  pub labels : fixed.labels ≡ labels_from [] clauses
  pub codes : AreCodes fixed (all_kept clauses) compiled
