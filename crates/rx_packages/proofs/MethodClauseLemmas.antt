-- The equations of the search for clauses of methods, one for each form.
use Rattle.std.proofs.Common.{◌≡◌, ℕ, ◌+◌, ◌<◌, Bool, true, false, ◌||◌, List, drop, length, get_or, Some, None, refl, ap, sym, ◌∙◌, arith}
use Rattle.std.proofs.lemmas.Grind.{common_steps}
use Rattle.rx_tree.specs.declared.expr.Expr.{Expr}
use Rattle.rx_clause_tree.specs.declared.loops.Header.{Header}
use Rattle.rx_clause_tree.specs.declared.loops.Test.{Test}
use Rattle.rx_clause_tree.specs.declared.simple.Simple.{Simple}
use Rattle.rx_clause_tree.specs.declared.clause.Clause.{Clause}
use Rattle.rx_clause_tree.specs.declared.clause.ClauseKind.TheVariants as x
use Rattle.rx_clause_tree.specs.declared.clause.When.{When}
use Rattle.rx_clause_tree.specs.declared.clause.ClauseKind.TheOpen.{ClauseKind-F}
use Rattle.rx_clause_tree.specs.declared.clause.ClauseKind.TheFolds.{fold-roll-ClauseKind, fold_out-Clause, fold_out-When}
use Rattle.rx_packages.specs.MethodClauses.{is_for_methods, kind_step, clause_step, when_step, in_kind, in_clause, in_when, in_clauses, in_whens}

or-false : (b : Bool) → (b || false) ≡ b
or-false true = refl
or-false false = refl

pub in_simple : (simple : Simple) → in_kind (x.Simple simple) ≡ is_for_methods simple
in_simple simple = ap in_kind (sym (x.rolls-Simple simple)) ∙ fold-roll-ClauseKind Bool Bool Bool kind_step clause_step when_step (ClauseKind-F.Simple simple)

pub in_if : (test : Expr) (chosen : Clause) → in_kind (x.If test chosen None) ≡ in_clause chosen
in_if test chosen = ap in_kind (sym (x.rolls-If test chosen None))
    ∙ fold-roll-ClauseKind Bool Bool Bool kind_step clause_step when_step (ClauseKind-F.If test chosen None) ∙ or-false (in_clause chosen)

pub in_if_else : (test : Expr) (chosen other : Clause) → in_kind (x.If test chosen (Some other)) ≡ (in_clause chosen || in_clause other)
in_if_else test chosen other =
    ap in_kind (sym (x.rolls-If test chosen (Some other))) ∙ fold-roll-ClauseKind Bool Bool Bool kind_step clause_step when_step (ClauseKind-F.If test chosen (Some other))

pub in_select : (whens : List When) → in_kind (x.Select whens None) ≡ in_whens whens
in_select whens =
    ap in_kind (sym (x.rolls-Select whens None)) ∙ fold-roll-ClauseKind Bool Bool Bool kind_step clause_step when_step (ClauseKind-F.Select whens None)
    ∙ or-false (in_whens whens)

pub in_select_otherwise : (whens : List When) (others : List Clause) → in_kind (x.Select whens (Some others)) ≡ (in_whens whens || in_clauses others)
in_select_otherwise whens others =
    ap in_kind (sym (x.rolls-Select whens (Some others)))
    ∙ fold-roll-ClauseKind Bool Bool Bool kind_step clause_step when_step (ClauseKind-F.Select whens (Some others))

pub in_group : (clauses : List Clause) → in_kind (x.Group clauses) ≡ in_clauses clauses
in_group clauses = ap in_kind (sym (x.rolls-Group clauses)) ∙ fold-roll-ClauseKind Bool Bool Bool kind_step clause_step when_step (ClauseKind-F.Group clauses)

pub in_loop : (header : Header) (test : Test) (clauses : List Clause) → in_kind (x.Loop header test clauses) ≡ in_clauses clauses
in_loop header test clauses =
    ap in_kind (sym (x.rolls-Loop header test clauses)) ∙ fold-roll-ClauseKind Bool Bool Bool kind_step clause_step when_step (ClauseKind-F.Loop header test clauses)

pub in_one : (clause : Clause) → in_clause clause ≡ in_kind clause.kind
in_one clause = fold_out-Clause Bool Bool Bool kind_step clause_step when_step clause

pub in_one_when : (when : When) → in_when when ≡ in_clause when.chosen
in_one_when when = fold_out-When Bool Bool Bool kind_step clause_step when_step when

pub clauses_step : (clauses : List Clause) (i : ℕ) (clause : Clause) → i < length clauses → clause ≡ get_or clauses i clause
    → in_clauses (drop i clauses) ≡ (in_clause clause || in_clauses (drop (i + 1) clauses))
clauses_step clauses i clause h e = grind (arith, common_steps)

pub whens_step : (whens : List When) (i : ℕ) (when : When) → i < length whens → when ≡ get_or whens i when
    → in_whens (drop i whens) ≡ (in_when when || in_whens (drop (i + 1) whens))
whens_step whens i when h e = grind (arith, common_steps)

pub ruleset found = (in_simple, in_if, in_if_else, in_select, in_select_otherwise, in_group, in_loop, in_one, in_one_when, clauses_step, whens_step)
