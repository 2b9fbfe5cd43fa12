-- The equations of what runs, one for each form.
use Rattle.std.proofs.Common.{◌≡◌, ℕ, Bool, true, false, ◌&&◌, List, [], ◌∷◌, map, Option, Some, None, refl, ap, sym, ◌∙◌}
use Rattle.rx_tree.specs.declared.value.Value.{Value}
use Rattle.rx_tree.specs.declared.name.Name.{Name}
use Rattle.rx_tree.specs.declared.token.Oper.{Oper}
use Rattle.rx_tree.specs.declared.expr.Expr.{Expr}
use Rattle.rx_tree.specs.declared.expr.Expr.TheVariants as e
use Rattle.rx_tree.specs.declared.expr.Expr.TheOpen.{Expr-F}
use Rattle.rx_tree.specs.declared.expr.Expr.TheShapes.{former-Expr-Function-2, former-Expr-Sends-1}
use Rattle.rx_tree.specs.declared.expr.Expr.TheViews.{out-SendPart, roll-out-SendPart}
use Rattle.rx_tree.specs.declared.expr.Expr.TheFolds.{fold-SendPart, fold-roll-Expr, fold-roll-SendPart}
use Rattle.rx_tree.specs.declared.expr.SendPart.{SendPart}
use Rattle.rx_clause_tree.specs.declared.loops.Header.{Header}
use Rattle.rx_clause_tree.specs.declared.loops.Test.{Test}
use Rattle.rx_clause_tree.specs.declared.simple.Simple.{Simple}
use Rattle.rx_clause_tree.specs.declared.clause.Clause.{Clause}
use Rattle.rx_clause_tree.specs.declared.clause.ClauseKind.{ClauseKind, out-ClauseKind}
use Rattle.rx_clause_tree.specs.declared.clause.ClauseKind.TheVariants as kind
use Rattle.rx_clause_tree.specs.declared.clause.When.{When}
use Rattle.rx_flow.specs.Rules.{rule_of, select_rule}
use Rattle.rx_eval.specs.Whole.{all_args, all_parts, all_terms}
use Rattle.rx_machine.specs.Built.{args_run, clause_runs, expr_runs, parts_run, rule_runs, runs_level, runs_part, simple_runs, terms_run}

abbrev part_runs : SendPart → Bool
part_runs = fold-SendPart Bool Bool runs_level runs_part

args_are : (args : List (Option Expr)) → all_args (former-Expr-Function-2.map Expr Bool expr_runs args) ≡ args_run args
args_are [] = refl
args_are (None ∷ args) = args_are args
args_are (Some arg ∷ args) = ap (λ b. expr_runs arg && b) (args_are args)

terms_are : (terms : List (Oper × Expr)) → all_terms (map (λ x. (x.0, expr_runs x.1)) terms) ≡ terms_run terms
terms_are [] = refl
terms_are (term ∷ terms) = ap (λ b. expr_runs term.1 && b) (terms_are terms)

part_is : (part : SendPart) → part_runs part ≡ args_run part.args
unfolding expr_runs
part_is part = ap part_runs (sym (roll-out-SendPart part)) ∙ fold-roll-SendPart Bool Bool runs_level runs_part (out-SendPart part) ∙ args_are part.args

parts_are : (parts : List SendPart) → all_parts (former-Expr-Sends-1.map SendPart Bool part_runs parts) ≡ parts_run parts
parts_are [] = refl
parts_are (part ∷ parts) = ap (λ b. b && all_parts (former-Expr-Sends-1.map SendPart Bool part_runs parts)) (part_is part) ∙ ap (λ b. args_run part.args && b) (parts_are parts)

pub runs_prefix : (opers : List Oper) (inner : Expr) → expr_runs (e.Prefix opers inner) ≡ expr_runs inner
unfolding expr_runs
runs_prefix opers inner = ap expr_runs (sym (e.rolls-Prefix opers inner)) ∙ fold-roll-Expr Bool Bool runs_level runs_part (Expr-F.Prefix opers inner)

pub runs_chain : (first : Expr) (terms : List (Oper × Expr)) → expr_runs (e.Chain first terms) ≡ (expr_runs first && terms_run terms)
unfolding expr_runs
runs_chain first terms =
    ap expr_runs (sym (e.rolls-Chain first terms)) ∙ fold-roll-Expr Bool Bool runs_level runs_part (Expr-F.Chain first terms) ∙ ap (λ b. expr_runs first && b) (terms_are terms)

pub runs_group : (inner : Expr) → expr_runs (e.Group inner) ≡ expr_runs inner
unfolding expr_runs
runs_group inner = ap expr_runs (sym (e.rolls-Group inner)) ∙ fold-roll-Expr Bool Bool runs_level runs_part (Expr-F.Group inner)

pub runs_function : (name : List ℕ) (is_string : Bool) (args : List (Option Expr)) → expr_runs (e.Function name is_string args) ≡ false
unfolding expr_runs
runs_function name is_string args = ap expr_runs (sym (e.rolls-Function name is_string args)) ∙ fold-roll-Expr Bool Bool runs_level runs_part (Expr-F.Function name is_string args)

pub runs_sends : (receiver : Expr) (parts : List SendPart) → expr_runs (e.Sends receiver parts) ≡ (expr_runs receiver && parts_run parts)
unfolding expr_runs
runs_sends receiver parts =
    ap expr_runs (sym (e.rolls-Sends receiver parts)) ∙ fold-roll-Expr Bool Bool runs_level runs_part (Expr-F.Sends receiver parts) ∙ ap (λ b. expr_runs receiver && b) (parts_are parts)

pub runs_hole : expr_runs e.Hole ≡ true
unfolding expr_runs
runs_hole = ap expr_runs (sym e.rolls-Hole) ∙ fold-roll-Expr Bool Bool runs_level runs_part Expr-F.Hole

pub runs_const : (value : Value) → expr_runs (e.Const value) ≡ true
unfolding expr_runs
runs_const value = ap expr_runs (sym (e.rolls-Const value)) ∙ fold-roll-Expr Bool Bool runs_level runs_part (Expr-F.Const value)

pub runs_name : (name : Name) → expr_runs (e.Name name) ≡ true
unfolding expr_runs
runs_name name = ap expr_runs (sym (e.rolls-Name name)) ∙ fold-roll-Expr Bool Bool runs_level runs_part (Expr-F.Name name)

pub runs_environment : (name : List ℕ) → expr_runs (e.Environment name) ≡ true
unfolding expr_runs
runs_environment name = ap expr_runs (sym (e.rolls-Environment name)) ∙ fold-roll-Expr Bool Bool runs_level runs_part (Expr-F.Environment name)

pub ruleset runs = (runs_const, runs_name, runs_environment, runs_prefix, runs_chain, runs_group, runs_function, runs_sends, runs_hole)

-- ---- clauses

by_kind : (clause : Clause) (kind : ClauseKind) → clause.kind ≡ kind → clause_runs clause ≡ rule_runs (rule_of clause.line (out-ClauseKind kind))
by_kind clause kind is = ap (λ k. rule_runs (rule_of clause.line (out-ClauseKind k))) is

pub clause_simple : (clause : Clause) (simple : Simple) → clause.kind ≡ kind.Simple simple → clause_runs clause ≡ simple_runs simple
clause_simple clause simple is = by_kind clause (kind.Simple simple) is ∙ ap (λ layer. rule_runs (rule_of clause.line layer)) (kind.outs-Simple simple)

pub clause_if : (clause : Clause) (test : Expr) (chosen : Clause) (other : Option Clause) → clause.kind ≡ kind.If test chosen other → clause_runs clause ≡ false
clause_if clause test chosen other is = by_kind clause (kind.If test chosen other) is ∙ ap (λ layer. rule_runs (rule_of clause.line layer)) (kind.outs-If test chosen other)

pub clause_group : (clause : Clause) (clauses : List Clause) → clause.kind ≡ kind.Group clauses → clause_runs clause ≡ false
clause_group clause clauses is = by_kind clause (kind.Group clauses) is ∙ ap (λ layer. rule_runs (rule_of clause.line layer)) (kind.outs-Group clauses)

pub clause_loop : (clause : Clause) (header : Header) (test : Test) (clauses : List Clause) → clause.kind ≡ kind.Loop header test clauses → clause_runs clause ≡ false
clause_loop clause header test clauses is = by_kind clause (kind.Loop header test clauses) is ∙ ap (λ layer. rule_runs (rule_of clause.line layer)) (kind.outs-Loop header test clauses)

select-by : (line : ℕ) (whens : List When) (others : Option (List Clause)) → rule_runs (select_rule line whens others) ≡ false
select-by line [] None = refl
select-by line [] (Some others) = refl
select-by line (when ∷ whens) others = refl

pub clause_select : (clause : Clause) (whens : List When) (others : Option (List Clause)) → clause.kind ≡ kind.Select whens others → clause_runs clause ≡ false
clause_select clause whens others is =
    by_kind clause (kind.Select whens others) is ∙ ap (λ layer. rule_runs (rule_of clause.line layer)) (kind.outs-Select whens others)
    ∙ select-by clause.line whens others

-- for the function that looks at a clause
pub ruleset kinds = (clause_simple, clause_if, clause_group, clause_loop, clause_select)
