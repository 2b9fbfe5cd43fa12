-- What a clause is of which nothing is done yet, by one layer of its tree.
use Rattle.std.specs.Prelude.{ℕ, List, [], ◌∷◌, Option, Some, None}
use Rattle.rx_tree.specs.declared.expr.Expr.{Expr}
use Rattle.rx_clause_tree.specs.declared.simple.Simple.{Simple}
use Rattle.rx_clause_tree.specs.declared.loops.Header.{Header}
use Rattle.rx_clause_tree.specs.declared.loops.Test.{Test}
use Rattle.rx_clause_tree.specs.declared.clause.Clause.{Clause}
use Rattle.rx_clause_tree.specs.declared.clause.When.{When}
use Rattle.rx_clause_tree.specs.declared.clause.ClauseKind.{ClauseKind, out-ClauseKind}
use Rattle.rx_clause_tree.specs.declared.clause.ClauseKind.TheVariants as kind
use Rattle.rx_clause_tree.specs.declared.clause.ClauseKind.TheOpen.{ClauseKind-F}

pub data Rule : Type 0 where
  -- it holds no other clause
  Does : Simple → Rule
  -- these clauses come next
  Begins : List Clause → Rule
  -- its expression is tested: where it holds the first clauses come next, else the second ones
  Asks : Expr → List Clause → List Clause → Rule
  -- a loop, with its header, its WHILE or UNTIL, and its clauses
  Loops : Header → Test → List Clause → Rule
  -- a SELECT of which no WHEN is left, and which has no OTHERWISE
  Fails : Rule

abbrev pub made : ℕ → ClauseKind → Clause
made line kind = record { line = line; kind = kind }

abbrev pub else_of : Option Clause → List Clause
else_of None = []
else_of (Some clause) = clause ∷ []

-- What comes next in a SELECT where a WHEN was false: the SELECT with the WHENs that are left, or OTHERWISE.
abbrev pub whens_left : ℕ → List When → Option (List Clause) → List Clause
whens_left line [] None = made line (kind.Select [] None) ∷ []
whens_left line [] (Some others) = others
whens_left line (when ∷ whens) others = made line (kind.Select (when ∷ whens) others) ∷ []

abbrev pub select_rule : ℕ → List When → Option (List Clause) → Rule
select_rule line [] None = Fails
select_rule line [] (Some others) = Begins others
select_rule line (when ∷ whens) others = Asks when.test (when.chosen ∷ []) (whens_left line whens others)

abbrev pub rule_of : ℕ → ClauseKind-F ClauseKind Clause When → Rule
rule_of line (ClauseKind-F.Simple simple) = Does simple
rule_of line (ClauseKind-F.If test chosen other) = Asks test (chosen ∷ []) (else_of other)
rule_of line (ClauseKind-F.Select whens others) = select_rule line whens others
rule_of line (ClauseKind-F.Group clauses) = Begins clauses
rule_of line (ClauseKind-F.Loop header test clauses) = Loops header test clauses

abbrev pub rule : Clause → Rule
rule clause = rule_of clause.line (out-ClauseKind clause.kind)
