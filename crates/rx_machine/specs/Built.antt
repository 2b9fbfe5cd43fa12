-- The part of the language that runs.
use Rattle.std.specs.Prelude.{ℕ, Bool, true, false, ◌&&◌, if◌then◌else◌, List, [], ◌∷◌, Option, Some, None}
use Rattle.std.specs.Option.{option_or}
use Rattle.rx_tree.specs.declared.token.Oper.{Oper}
use Rattle.rx_tree.specs.declared.expr.Expr.{Expr}
use Rattle.rx_tree.specs.declared.expr.Expr.TheOpen.{Expr-F, SendPart-F}
use Rattle.rx_tree.specs.declared.expr.Expr.TheFolds.{fold-Expr}
use Rattle.rx_tree.specs.declared.expr.SendPart.{SendPart}
use Rattle.rx_clause_tree.specs.declared.clause.Body.{Body}
use Rattle.rx_clause_tree.specs.declared.clause.Clause.{Clause}
use Rattle.rx_clause_tree.specs.declared.instruction.Parameter.{Parameter}
use Rattle.rx_clause_tree.specs.declared.package.Package.{Package}
use Rattle.rx_clause_tree.specs.declared.simple.Simple.{Simple}
use Rattle.rx_clause_tree.specs.declared.simple.Simple.TheVariants.{Assign, Drop, Expose, Message, Nop, Parse, Push, Queue, Return, Say, UseArg}
use Rattle.rx_clause_tree.specs.declared.template.ParseFrom.{ParseFrom}
use Rattle.rx_clause_tree.specs.declared.template.ParseFrom.TheVariants as f
use Rattle.rx_flow.specs.Rules.{Rule, Does, rule}
use Rattle.rx_eval.specs.Whole.{all_args, all_parts, all_terms}

-- ---- expressions: no function is called in them

abbrev pub runs_level : Expr-F Bool Bool → Bool
runs_level (Expr-F.Prefix opers inner) = inner
runs_level (Expr-F.Chain first terms) = first && all_terms terms
runs_level (Expr-F.Group inner) = inner
runs_level (Expr-F.Function name is_string args) = false
runs_level (Expr-F.Sends receiver parts) = receiver && all_parts parts
runs_level _ = true

abbrev pub runs_part : SendPart-F Bool Bool → Bool
runs_part part = all_args part.args

unfoldable pub expr_runs : Expr → Bool
expr_runs = fold-Expr Bool Bool runs_level runs_part

abbrev pub args_run : List (Option Expr) → Bool
args_run [] = true
args_run (None ∷ args) = args_run args
args_run (Some arg ∷ args) = expr_runs arg && args_run args

abbrev pub terms_run : List (Oper × Expr) → Bool
terms_run [] = true
terms_run (term ∷ terms) = expr_runs term.1 && terms_run terms

abbrev pub parts_run : List SendPart → Bool
parts_run [] = true
parts_run (part ∷ parts) = args_run part.args && parts_run parts

abbrev pub given_runs : Option Expr → Bool
given_runs None = true
given_runs (Some expr) = expr_runs expr

-- ---- clauses

abbrev pub defaults_run : List Parameter → Bool
defaults_run [] = true
defaults_run (parameter ∷ parameters) = given_runs parameter.default && defaults_run parameters

abbrev pub origin_runs : ParseFrom → Bool
origin_runs (f.Value expr) = expr_runs expr
origin_runs _ = true

abbrev pub simple_runs : Simple → Bool
simple_runs (Assign name expr) = expr_runs expr
simple_runs (Message expr) = expr_runs expr
simple_runs (Say given) = given_runs given
simple_runs (Return given) = given_runs given
simple_runs (Push given) = given_runs given
simple_runs (Queue given) = given_runs given
simple_runs (UseArg strict parameters) = defaults_run parameters
simple_runs (Parse parse) = origin_runs parse.from
simple_runs (Expose names) = true
simple_runs (Drop names) = true
simple_runs Nop = true
simple_runs _ = false

abbrev pub rule_runs : Rule → Bool
rule_runs (Does simple) = simple_runs simple
rule_runs _ = false

-- a clause that holds no other, and is of a kind that runs
abbrev pub clause_runs : Clause → Bool
clause_runs clause = rule_runs (rule clause)

-- ---- programs

-- the line of the first of these clauses that doesn't run
abbrev pub unbuilt_line : List Clause → Option ℕ
unbuilt_line [] = None
unbuilt_line (clause ∷ clauses) = if clause_runs clause then unbuilt_line clauses else Some clause.line

abbrev pub unbuilt_in : List Body → Option ℕ
unbuilt_in [] = None
unbuilt_in (body ∷ bodies) = option_or (unbuilt_line body.clauses) (unbuilt_in bodies)

-- The line of the first clause of a program that doesn't run: all bodies stand behind the main one.
abbrev pub first_unbuilt : Package → Option ℕ
first_unbuilt program = option_or (unbuilt_line program.main.clauses) (unbuilt_in program.bodies)
