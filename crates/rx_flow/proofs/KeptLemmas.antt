-- The equations of `kept`, one for each kind of clause.
use Rattle.std.proofs.Common.{◌≡◌, ℕ, List, [], ◌∷◌, ◌++◌, map, Some, None, refl, ap, sym, ◌∙◌, append_assoc}
use Rattle.std.proofs.lemmas.List.{append-nil}
use Rattle.rx_tree.specs.declared.expr.Expr.{Expr}
use Rattle.rx_clause_tree.specs.declared.simple.Simple.{Simple}
use Rattle.rx_clause_tree.specs.declared.loops.Header.{Header}
use Rattle.rx_clause_tree.specs.declared.loops.Test.{Test}
use Rattle.rx_clause_tree.specs.declared.clause.Clause.{Clause, fold-roll-Clause}
use Rattle.rx_clause_tree.specs.declared.clause.When.{When, out-When, fold-When, fold-roll-When}
use Rattle.rx_clause_tree.specs.declared.clause.ClauseKind.{ClauseKind, roll-ClauseKind, fold-ClauseKind, fold-roll-ClauseKind}
use Rattle.rx_clause_tree.specs.declared.clause.ClauseKind.TheVariants as kind
use Rattle.rx_clause_tree.specs.declared.clause.ClauseKind.TheOpen.{ClauseKind-F}
use Rattle.rx_flow.specs.Rules.{made}
use Rattle.rx_flow.specs.Kept.{kept_test, kept_select, joined, when_entries, entries_step, clause_entries, when_entry, kept, all_kept, whens_kept}

abbrev inner : ClauseKind → ℕ → List Clause
inner = fold-ClauseKind (ℕ → List Clause) (List Clause) (Expr × List Clause) entries_step clause_entries when_entry

abbrev of_when : When → Expr × List Clause
of_when = fold-When (ℕ → List Clause) (List Clause) (Expr × List Clause) entries_step clause_entries when_entry

of_when_is : (when : When) → of_when when ≡ (when.test, kept when.chosen)
of_when_is when = fold-roll-When (ℕ → List Clause) (List Clause) (Expr × List Clause) entries_step clause_entries when_entry (out-When when)

joined_is : (clauses : List Clause) → joined (map kept clauses) ≡ all_kept clauses
joined_is [] = refl
joined_is (clause ∷ clauses) = ap (λ (xs : List Clause). kept clause ++ xs) (joined_is clauses)

asked_is : (line : ℕ) (whens : List When) → when_entries line (map of_when whens) ≡ whens_kept line whens
asked_is line [] = refl
asked_is line (when ∷ whens) = rw (of_when_is when, asked_is line whens) refl

kept-by : (line : ℕ) (x : ClauseKind-F ClauseKind Clause When) (k : ClauseKind) (all : List Clause)
    → roll-ClauseKind x ≡ k → inner (roll-ClauseKind x) line ≡ all → kept (made line k) ≡ all
kept-by line x k all rolls is =
    fold-roll-Clause (ℕ → List Clause) (List Clause) (Expr × List Clause) entries_step clause_entries when_entry (record { line = line; kind = k })
    ∙ ap (λ (z : ClauseKind). inner z line) (sym rolls) ∙ is

pub kept-simple : (line : ℕ) (simple : Simple) → kept (made line (kind.Simple simple)) ≡ made line (kind.Simple simple) ∷ []
kept-simple line simple = kept-by line (ClauseKind-F.Simple simple) _ _ (kind.rolls-Simple simple)
    (ap (λ (f : ℕ → List Clause). f line) (fold-roll-ClauseKind (ℕ → List Clause) (List Clause) (Expr × List Clause) entries_step clause_entries when_entry (ClauseKind-F.Simple simple)))

pub kept-if : (line : ℕ) (test : Expr) (one : Clause) → kept (made line (kind.If test one None)) ≡ kept_test line test ∷ kept one
kept-if line test one = kept-by line (ClauseKind-F.If test one None) _ _ (kind.rolls-If test one None)
    (ap (λ (f : ℕ → List Clause). f line) (fold-roll-ClauseKind (ℕ → List Clause) (List Clause) (Expr × List Clause) entries_step clause_entries when_entry (ClauseKind-F.If test one None)))

pub kept-if_else : (line : ℕ) (test : Expr) (one other : Clause) → kept (made line (kind.If test one (Some other))) ≡ kept_test line test ∷ (kept one ++ kept other)
kept-if_else line test one other = kept-by line (ClauseKind-F.If test one (Some other)) _ _ (kind.rolls-If test one (Some other))
    (ap (λ (f : ℕ → List Clause). f line) (fold-roll-ClauseKind (ℕ → List Clause) (List Clause) (Expr × List Clause) entries_step clause_entries when_entry (ClauseKind-F.If test one (Some other))))

pub kept-group : (line : ℕ) (clauses : List Clause) → kept (made line (kind.Group clauses)) ≡ made line (kind.Group []) ∷ all_kept clauses
kept-group line clauses = kept-by line (ClauseKind-F.Group clauses) _ _ (kind.rolls-Group clauses)
    (ap (λ (f : ℕ → List Clause). f line) (fold-roll-ClauseKind (ℕ → List Clause) (List Clause) (Expr × List Clause) entries_step clause_entries when_entry (ClauseKind-F.Group clauses))
    ∙ ap (λ (xs : List Clause). made line (kind.Group []) ∷ xs) (joined_is clauses))

pub kept-loop : (line : ℕ) (header : Header) (test : Test) (clauses : List Clause)
    → kept (made line (kind.Loop header test clauses)) ≡ made line (kind.Loop header test []) ∷ all_kept clauses
kept-loop line header test clauses = kept-by line (ClauseKind-F.Loop header test clauses) _ _ (kind.rolls-Loop header test clauses)
    (ap (λ (f : ℕ → List Clause). f line) (fold-roll-ClauseKind (ℕ → List Clause) (List Clause) (Expr × List Clause) entries_step clause_entries when_entry (ClauseKind-F.Loop header test clauses))
    ∙ ap (λ (xs : List Clause). made line (kind.Loop header test []) ∷ xs) (joined_is clauses))

pub kept-no_when : (line : ℕ) (others : List Clause) → kept (made line (kind.Select [] (Some others))) ≡ kept_select line (Some []) ∷ all_kept others
kept-no_when line others = kept-by line (ClauseKind-F.Select [] (Some others)) _ _ (kind.rolls-Select [] (Some others))
    (ap (λ (f : ℕ → List Clause). f line) (fold-roll-ClauseKind (ℕ → List Clause) (List Clause) (Expr × List Clause) entries_step clause_entries when_entry (ClauseKind-F.Select [] (Some others)))
    ∙ ap (λ (xs : List Clause). kept_select line (Some []) ∷ xs) (joined_is others))

pub kept-select : (line : ℕ) (whens : List When) → kept (made line (kind.Select whens None)) ≡ kept_select line None ∷ whens_kept line whens
kept-select line [] = kept-by line (ClauseKind-F.Select [] None) _ _ (kind.rolls-Select [] None)
    (ap (λ (f : ℕ → List Clause). f line) (fold-roll-ClauseKind (ℕ → List Clause) (List Clause) (Expr × List Clause) entries_step clause_entries when_entry (ClauseKind-F.Select [] None)))
kept-select line (when ∷ whens) = kept-by line (ClauseKind-F.Select (when ∷ whens) None) _ _ (kind.rolls-Select (when ∷ whens) None)
    (ap (λ (f : ℕ → List Clause). f line) (fold-roll-ClauseKind (ℕ → List Clause) (List Clause) (Expr × List Clause) entries_step clause_entries when_entry (ClauseKind-F.Select (when ∷ whens) None))
    ∙ ap (λ (xs : List Clause). kept_select line None ∷ xs) (asked_is line (when ∷ whens)))

pub kept-select_otherwise : (line : ℕ) (when : When) (whens : List When) (others : List Clause)
    → kept (made line (kind.Select (when ∷ whens) (Some others))) ≡ kept_select line (Some []) ∷ (whens_kept line (when ∷ whens) ++ all_kept others)
kept-select_otherwise line when whens others = kept-by line (ClauseKind-F.Select (when ∷ whens) (Some others)) _ _ (kind.rolls-Select (when ∷ whens) (Some others))
    (ap (λ (f : ℕ → List Clause). f line) (fold-roll-ClauseKind (ℕ → List Clause) (List Clause) (Expr × List Clause) entries_step clause_entries when_entry (ClauseKind-F.Select (when ∷ whens) (Some others)))
    ∙ ap (λ (xs : List Clause). kept_select line (Some []) ∷ (xs ++ joined (map kept others))) (asked_is line (when ∷ whens))
    ∙ ap (λ (xs : List Clause). kept_select line (Some []) ∷ (whens_kept line (when ∷ whens) ++ xs)) (joined_is others))

pub all_kept-snoc : (clauses : List Clause) (clause : Clause) → all_kept (clauses ++ clause ∷ []) ≡ all_kept clauses ++ kept clause
all_kept-snoc [] clause = append-nil (kept clause)
all_kept-snoc (first ∷ clauses) clause = rw (all_kept-snoc clauses clause) (sym (append_assoc (kept first) (all_kept clauses) (kept clause)))

pub whens_kept-snoc : (line : ℕ) (whens : List When) (when : When) → whens_kept line (whens ++ when ∷ []) ≡ whens_kept line whens ++ kept_test line when.test ∷ kept when.chosen
whens_kept-snoc line [] when = ap (λ (xs : List Clause). kept_test line when.test ∷ xs) (append-nil (kept when.chosen))
whens_kept-snoc line (first ∷ whens) when =
    rw (whens_kept-snoc line whens when)
    (ap (λ (xs : List Clause). kept_test line first.test ∷ xs) (sym (append_assoc (kept first.chosen) (whens_kept line whens) (kept_test line when.test ∷ kept when.chosen))))
