-- The clauses that code keeps, without those that stand in them.
use Rattle.std.specs.Prelude.{ℕ, Bool, true, false, List, [], ◌∷◌, ◌++◌, Option, Some, None}
use Rattle.rx_tree.specs.declared.expr.Expr.{Expr}
use Rattle.rx_clause_tree.specs.declared.simple.Simple.TheVariants as simple
use Rattle.rx_clause_tree.specs.declared.clause.Clause.{Clause, fold-Clause}
use Rattle.rx_clause_tree.specs.declared.clause.When.{When}
use Rattle.rx_clause_tree.specs.declared.clause.ClauseKind.{ClauseKind, out-ClauseKind}
use Rattle.rx_clause_tree.specs.declared.clause.ClauseKind.TheVariants as kind
use Rattle.rx_clause_tree.specs.declared.clause.ClauseKind.TheOpen.{ClauseKind-F, Clause-F, When-F}
use Rattle.rx_flow.specs.Rules.{made}

-- ---- one clause

-- a test: an IF with NOP
abbrev pub kept_test : ℕ → Expr → Clause
kept_test line test = made line (kind.If test (made line (kind.Simple simple.Nop)) None)

-- OTHERWISE without its clauses
abbrev pub emptied : Option (List Clause) → Option (List Clause)
emptied None = None
emptied (Some others) = Some []

abbrev pub kept_select : ℕ → Option (List Clause) → Clause
kept_select line others = made line (kind.Select [] (emptied others))

-- a SELECT, with OTHERWISE or without it
abbrev pub select_of : ℕ → Bool → Clause
select_of line true = kept_select line (Some [])
select_of line false = kept_select line None

abbrev pub kept_whens : ℕ → List When → Option (List Clause) → Clause
kept_whens line [] others = kept_select line others
kept_whens line (when ∷ whens) others = kept_test line when.test

abbrev pub kept_layer : ℕ → ClauseKind-F ClauseKind Clause When → Clause
kept_layer line (ClauseKind-F.Simple simple) = made line (kind.Simple simple)
kept_layer line (ClauseKind-F.If test chosen other) = kept_test line test
kept_layer line (ClauseKind-F.Select whens others) = kept_whens line whens others
kept_layer line (ClauseKind-F.Group clauses) = made line (kind.Group [])
kept_layer line (ClauseKind-F.Loop header test clauses) = made line (kind.Loop header test [])

-- What is kept of a clause of which nothing is done. A SELECT with WHENs is the test of the first one, at its own line.
abbrev pub kept_of : Clause → Clause
kept_of clause = kept_layer clause.line (out-ClauseKind clause.kind)

-- ---- all clauses of a body, in the order in which they begin. Each WHEN has an entry of its own.

abbrev pub joined : List (List Clause) → List Clause
joined [] = []
joined (xs ∷ xss) = xs ++ joined xss

abbrev pub when_entries : ℕ → List (Expr × List Clause) → List Clause
when_entries line [] = []
when_entries line (x ∷ xs) = kept_test line x.0 ∷ (x.1 ++ when_entries line xs)

abbrev pub select_entries : ℕ → List (Expr × List Clause) → Option (List (List Clause)) → List Clause
select_entries line whens None = kept_select line None ∷ when_entries line whens
select_entries line whens (Some others) = kept_select line (Some []) ∷ (when_entries line whens ++ joined others)

-- one layer: its own entry, and those of the clauses in it
abbrev pub entries_step : ClauseKind-F (ℕ → List Clause) (List Clause) (Expr × List Clause) → ℕ → List Clause
entries_step (ClauseKind-F.Simple simple) line = made line (kind.Simple simple) ∷ []
entries_step (ClauseKind-F.If test one None) line = kept_test line test ∷ one
entries_step (ClauseKind-F.If test one (Some other)) line = kept_test line test ∷ (one ++ other)
entries_step (ClauseKind-F.Select whens others) line = select_entries line whens others
entries_step (ClauseKind-F.Group clauses) line = made line (kind.Group []) ∷ joined clauses
entries_step (ClauseKind-F.Loop header test clauses) line = made line (kind.Loop header test []) ∷ joined clauses

abbrev pub clause_entries : Clause-F (ℕ → List Clause) (List Clause) (Expr × List Clause) → List Clause
clause_entries x = x.kind x.line

abbrev pub when_entry : When-F (ℕ → List Clause) (List Clause) (Expr × List Clause) → Expr × List Clause
when_entry x = (x.test, x.chosen)

abbrev pub kept : Clause → List Clause
kept = fold-Clause (ℕ → List Clause) (List Clause) (Expr × List Clause) entries_step clause_entries when_entry

abbrev pub all_kept : List Clause → List Clause
all_kept [] = []
all_kept (clause ∷ clauses) = kept clause ++ all_kept clauses

-- ---- the entries of WHENs, over clauses alone

abbrev pub whens_kept : ℕ → List When → List Clause
whens_kept line [] = []
whens_kept line (when ∷ whens) = kept_test line when.test ∷ (kept when.chosen ++ whens_kept line whens)
