-- The equations of the sizes of trees, one for each form that has parts.
use Rattle.std.proofs.Common.{◌≡◌, ℕ, ◌+◌, Bool, List, [], ◌∷◌, Option, Some, None, refl, ap, sym, ◌∙◌, arith}
use Rattle.std.specs.Prelude.{map}
use Rattle.rx_tree.specs.declared.token.Oper.{Oper}
use Rattle.rx_tree.specs.declared.name.Name.{Name}
use Rattle.rx_tree.specs.declared.value.Value.{Value}
use Rattle.rx_tree.specs.declared.expr.Expr.{Expr}
use Rattle.rx_tree.specs.declared.expr.Expr.TheVariants as e
use Rattle.rx_tree.specs.declared.expr.Expr.TheOpen.{Expr-F}
use Rattle.rx_tree.specs.declared.expr.Expr.TheShapes.{former-Expr-Function-2}
use Rattle.rx_tree.specs.declared.expr.Expr.TheFolds.{fold-roll-Expr, fold_out-SendPart}
use Rattle.rx_tree.specs.declared.expr.SendPart.{SendPart}
use Rattle.rx_tree.specs.Expressions.{part}
use Rattle.rx_clause_tree.specs.declared.loops.Header.{Header}
use Rattle.rx_clause_tree.specs.declared.loops.Test.{Test}
use Rattle.rx_clause_tree.specs.declared.simple.Simple.{Simple}
use Rattle.rx_clause_tree.specs.declared.clause.Clause.{Clause}
use Rattle.rx_clause_tree.specs.declared.clause.ClauseKind.{ClauseKind}
use Rattle.rx_clause_tree.specs.declared.clause.ClauseKind.TheVariants as x
use Rattle.rx_clause_tree.specs.declared.clause.When.{When}
use Rattle.rx_clause_tree.specs.declared.clause.ClauseKind.TheOpen.{ClauseKind-F}
use Rattle.rx_clause_tree.specs.declared.clause.ClauseKind.TheFolds.{fold-roll-ClauseKind, fold_out-Clause, fold_out-When}
use Rattle.rx_clause_tree.specs.Clauses.{clause, when}
use Rattle.rx_packages.specs.Sizes.{total, total_given, total_terms, expr_step, part_step, in_expr, in_part, in_args, in_header, in_test, in_simple, kind_step, clause_step, when_step, in_kind, in_clause, in_when, in_clauses}

-- ---- expressions

pub name_size : (name : Name) → in_expr (e.Name name) ≡ 1
name_size name = ap in_expr (sym (e.rolls-Name name)) ∙ fold-roll-Expr ℕ ℕ expr_step part_step (Expr-F.Name name)

pub const_size : (value : Value) → in_expr (e.Const value) ≡ 0
const_size value = ap in_expr (sym (e.rolls-Const value)) ∙ fold-roll-Expr ℕ ℕ expr_step part_step (Expr-F.Const value)

pub environment_size : (name : List ℕ) → in_expr (e.Environment name) ≡ 0
environment_size name = ap in_expr (sym (e.rolls-Environment name)) ∙ fold-roll-Expr ℕ ℕ expr_step part_step (Expr-F.Environment name)

pub prefix_size : (opers : List Oper) (term : Expr) → in_expr (e.Prefix opers term) ≡ in_expr term
prefix_size opers term = ap in_expr (sym (e.rolls-Prefix opers term)) ∙ fold-roll-Expr ℕ ℕ expr_step part_step (Expr-F.Prefix opers term)

pub group_size : (inner : Expr) → in_expr (e.Group inner) ≡ in_expr inner
group_size inner = ap in_expr (sym (e.rolls-Group inner)) ∙ fold-roll-Expr ℕ ℕ expr_step part_step (Expr-F.Group inner)

abbrev pub in_terms : List (Oper × Expr) → ℕ
in_terms [] = 0
in_terms (term ∷ terms) = in_expr term.1 + in_terms terms

terms_are : (terms : List (Oper × Expr)) → total_terms (map (λ x. (x.0, in_expr x.1)) terms) ≡ in_terms terms
terms_are [] = refl
terms_are (term ∷ terms) = ap (λ n. in_expr term.1 + n) (terms_are terms)

pub chain_size : (first : Expr) (terms : List (Oper × Expr)) → in_expr (e.Chain first terms) ≡ in_expr first + in_terms terms
chain_size first terms =
    ap in_expr (sym (e.rolls-Chain first terms)) ∙ fold-roll-Expr ℕ ℕ expr_step part_step (Expr-F.Chain first terms)
    ∙ ap (λ n. in_expr first + n) (terms_are terms)

-- the arguments of one level, each with its size
abbrev args_of : List (Option Expr) → List (Option ℕ)
args_of = former-Expr-Function-2.map Expr ℕ in_expr

args_are : (args : List (Option Expr)) → total_given (args_of args) ≡ in_args args
args_are [] = refl
args_are (None ∷ rest) = let h = args_are rest in omega arith
args_are (Some arg ∷ rest) = ap (λ n. in_expr arg + n) (args_are rest)

pub function_size : (name : List ℕ) (is_string : Bool) (args : List (Option Expr)) → in_expr (e.Function name is_string args) ≡ in_args args
function_size name is_string args =
    ap in_expr (sym (e.rolls-Function name is_string args)) ∙ fold-roll-Expr ℕ ℕ expr_step part_step (Expr-F.Function name is_string args)
    ∙ args_are args

abbrev pub in_parts : List SendPart → ℕ
in_parts [] = 0
in_parts (part ∷ parts) = in_part part + in_parts parts

parts_are : (parts : List SendPart) → total (map in_part parts) ≡ in_parts parts
parts_are [] = refl
parts_are (part ∷ parts) = ap (λ n. in_part part + n) (parts_are parts)

pub sends_size : (receiver : Expr) (parts : List SendPart) → in_expr (e.Sends receiver parts) ≡ in_expr receiver + in_parts parts
sends_size receiver parts =
    ap in_expr (sym (e.rolls-Sends receiver parts)) ∙ fold-roll-Expr ℕ ℕ expr_step part_step (Expr-F.Sends receiver parts)
    ∙ ap (λ n. in_expr receiver + n) (parts_are parts)

pub part_size : (name : List ℕ) (class : Option (List ℕ)) (args : List (Option Expr)) (back bracket : Bool)
    → in_part (part name class args back bracket) ≡ in_args args
part_size name class args back bracket =
    fold_out-SendPart ℕ ℕ expr_step part_step (part name class args back bracket) ∙ args_are args

-- ---- clauses

clauses_are : (clauses : List Clause) → total (map in_clause clauses) ≡ in_clauses clauses
clauses_are [] = refl
clauses_are (clause ∷ clauses) = ap (λ n. in_clause clause + n) (clauses_are clauses)

abbrev pub in_whens : List When → ℕ
in_whens [] = 0
in_whens (when ∷ whens) = in_when when + in_whens whens

whens_are : (whens : List When) → total (map in_when whens) ≡ in_whens whens
whens_are [] = refl
whens_are (when ∷ whens) = ap (λ n. in_when when + n) (whens_are whens)

pub simple_size : (simple : Simple) → in_kind (x.Simple simple) ≡ in_simple simple
simple_size simple =
    ap in_kind (sym (x.rolls-Simple simple)) ∙ fold-roll-ClauseKind ℕ ℕ ℕ kind_step clause_step when_step (ClauseKind-F.Simple simple)

abbrev pub in_else : Option Clause → ℕ
in_else None = 0
in_else (Some clause) = in_clause clause

pub if_size : (test : Expr) (chosen : Clause) (other : Option Clause)
    → in_kind (x.If test chosen other) ≡ in_expr test + (in_clause chosen + in_else other)
if_size test chosen None =
    ap in_kind (sym (x.rolls-If test chosen None)) ∙ fold-roll-ClauseKind ℕ ℕ ℕ kind_step clause_step when_step (ClauseKind-F.If test chosen None)
if_size test chosen (Some other) =
    ap in_kind (sym (x.rolls-If test chosen (Some other)))
    ∙ fold-roll-ClauseKind ℕ ℕ ℕ kind_step clause_step when_step (ClauseKind-F.If test chosen (Some other))

abbrev pub in_otherwise : Option (List Clause) → ℕ
in_otherwise None = 0
in_otherwise (Some clauses) = in_clauses clauses

pub select_size : (whens : List When) (other : Option (List Clause)) → in_kind (x.Select whens other) ≡ in_whens whens + in_otherwise other
select_size whens None =
    ap in_kind (sym (x.rolls-Select whens None)) ∙ fold-roll-ClauseKind ℕ ℕ ℕ kind_step clause_step when_step (ClauseKind-F.Select whens None)
    ∙ ap (λ n. n + 0) (whens_are whens)
select_size whens (Some others) =
    ap in_kind (sym (x.rolls-Select whens (Some others)))
    ∙ fold-roll-ClauseKind ℕ ℕ ℕ kind_step clause_step when_step (ClauseKind-F.Select whens (Some others))
    ∙ rw (whens_are whens, clauses_are others)

pub group_clause_size : (clauses : List Clause) → in_kind (x.Group clauses) ≡ in_clauses clauses
group_clause_size clauses =
    ap in_kind (sym (x.rolls-Group clauses)) ∙ fold-roll-ClauseKind ℕ ℕ ℕ kind_step clause_step when_step (ClauseKind-F.Group clauses)
    ∙ clauses_are clauses

pub loop_size : (header : Header) (test : Test) (clauses : List Clause)
    → in_kind (x.Loop header test clauses) ≡ (in_header header + in_test test) + in_clauses clauses
loop_size header test clauses =
    ap in_kind (sym (x.rolls-Loop header test clauses))
    ∙ fold-roll-ClauseKind ℕ ℕ ℕ kind_step clause_step when_step (ClauseKind-F.Loop header test clauses)
    ∙ ap (λ n. (in_header header + in_test test) + n) (clauses_are clauses)

pub clause_size : (line : ℕ) (kind : ClauseKind) → in_clause (clause line kind) ≡ 1 + in_kind kind
clause_size line kind = fold_out-Clause ℕ ℕ ℕ kind_step clause_step when_step (clause line kind)

pub when_size : (test : Expr) (chosen : Clause) → in_when (when test chosen) ≡ 1 + (in_expr test + in_clause chosen)
when_size test chosen = fold_out-When ℕ ℕ ℕ kind_step clause_step when_step (when test chosen)
