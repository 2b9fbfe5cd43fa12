-- How many clauses stand in trees, and at how many places variables are named in them.
use Rattle.std.specs.Prelude.{ℕ, ◌+◌, List, [], ◌∷◌, length, Option, Some, None}
use Rattle.rx_tree.specs.declared.token.Oper.{Oper}
use Rattle.rx_tree.specs.declared.name.Name.{Name}
use Rattle.rx_tree.specs.declared.expr.Expr.{Expr}
use Rattle.rx_tree.specs.declared.expr.SendPart.{SendPart}
use Rattle.rx_tree.specs.declared.expr.Expr.TheOpen.{Expr-F, SendPart-F}
use Rattle.rx_tree.specs.declared.expr.Expr.TheFolds.{fold-Expr, fold-SendPart}
use Rattle.rx_clause_tree.specs.declared.instruction.Parameter.{Parameter}
use Rattle.rx_clause_tree.specs.declared.instruction.Forwarded.{Forwarded}
use Rattle.rx_clause_tree.specs.declared.instruction.Forwarded.TheVariants as f
use Rattle.rx_clause_tree.specs.declared.instruction.Forward.{Forward}
use Rattle.rx_clause_tree.specs.declared.template.Distance.{Distance}
use Rattle.rx_clause_tree.specs.declared.template.Distance.TheVariants as d
use Rattle.rx_clause_tree.specs.declared.template.TemplatePart.{TemplatePart}
use Rattle.rx_clause_tree.specs.declared.template.TemplatePart.TheVariants as p
use Rattle.rx_clause_tree.specs.declared.template.Template.{Template}
use Rattle.rx_clause_tree.specs.declared.template.ParseFrom.{ParseFrom}
use Rattle.rx_clause_tree.specs.declared.template.ParseFrom.TheVariants as o
use Rattle.rx_clause_tree.specs.declared.template.Parse.{Parse}
use Rattle.rx_clause_tree.specs.declared.loops.Bound.{Bound}
use Rattle.rx_clause_tree.specs.declared.loops.Bound.TheVariants as b
use Rattle.rx_clause_tree.specs.declared.loops.Header.{Header}
use Rattle.rx_clause_tree.specs.declared.loops.Header.TheVariants as h
use Rattle.rx_clause_tree.specs.declared.loops.Test.{Test}
use Rattle.rx_clause_tree.specs.declared.loops.Test.TheVariants as w
use Rattle.rx_clause_tree.specs.declared.simple.Simple.{Simple}
use Rattle.rx_clause_tree.specs.declared.simple.Simple.TheVariants as c
use Rattle.rx_clause_tree.specs.declared.clause.Clause.{Clause}
use Rattle.rx_clause_tree.specs.declared.clause.ClauseKind.{ClauseKind}
use Rattle.rx_clause_tree.specs.declared.clause.When.{When}
use Rattle.rx_clause_tree.specs.declared.clause.Body.{Body}
use Rattle.rx_clause_tree.specs.declared.clause.ClauseKind.TheOpen.{ClauseKind-F, Clause-F, When-F}
use Rattle.rx_clause_tree.specs.declared.clause.ClauseKind.TheFolds.{fold-ClauseKind, fold-Clause, fold-When}
use Rattle.rx_clause_tree.specs.declared.package.Package.{Package}

abbrev pub total : List ℕ → ℕ
total [] = 0
total (n ∷ ns) = n + total ns

abbrev pub total_given : List (Option ℕ) → ℕ
total_given [] = 0
total_given (None ∷ rest) = total_given rest
total_given (Some n ∷ rest) = n + total_given rest

abbrev pub total_terms : List (Oper × ℕ) → ℕ
total_terms [] = 0
total_terms (term ∷ terms) = term.1 + total_terms terms

-- ---- expressions: places at which a variable is named

-- One level of an expression, with the number of each part in its place.
abbrev pub expr_step : Expr-F ℕ ℕ → ℕ
expr_step (Expr-F.Name name) = 1
expr_step (Expr-F.Prefix opers term) = term
expr_step (Expr-F.Chain first terms) = first + total_terms terms
expr_step (Expr-F.Group inner) = inner
expr_step (Expr-F.Function name is_string args) = total_given args
expr_step (Expr-F.Sends receiver parts) = receiver + total parts
expr_step _ = 0

abbrev pub part_step : SendPart-F ℕ ℕ → ℕ
part_step part = total_given part.args

abbrev pub in_expr : Expr → ℕ
in_expr = fold-Expr ℕ ℕ expr_step part_step

abbrev pub in_part : SendPart → ℕ
in_part = fold-SendPart ℕ ℕ expr_step part_step

abbrev pub in_given : Option Expr → ℕ
in_given None = 0
in_given (Some expr) = in_expr expr

abbrev pub in_args : List (Option Expr) → ℕ
in_args [] = 0
in_args (arg ∷ args) = in_given arg + in_args args

-- ---- clauses that hold no other clause: places at which a variable is named

abbrev pub in_name : Option Name → ℕ
in_name None = 0
in_name (Some name) = 1

abbrev pub in_parameters : List Parameter → ℕ
in_parameters [] = 0
in_parameters (parameter ∷ parameters) = (1 + in_given parameter.default) + in_parameters parameters

abbrev pub in_forwarded : Forwarded → ℕ
in_forwarded f.Own = 0
in_forwarded (f.Arguments expr) = in_expr expr
in_forwarded (f.Array args) = in_args args

abbrev pub in_forward : Forward → ℕ
in_forward forward = in_given forward.to + (in_given forward.class + (in_given forward.message + in_forwarded forward.args))

abbrev pub in_distance : Distance → ℕ
in_distance (d.Number text) = 0
in_distance (d.Value name) = 1

abbrev pub in_template_part : TemplatePart → ℕ
in_template_part (p.Target name) = 1
in_template_part p.Period = 0
in_template_part (p.Literal text) = 0
in_template_part (p.Pattern name) = 1
in_template_part (p.At distance) = in_distance distance
in_template_part (p.Forward distance) = in_distance distance
in_template_part (p.Backward distance) = in_distance distance

abbrev pub in_template_parts : List TemplatePart → ℕ
in_template_parts [] = 0
in_template_parts (part ∷ parts) = in_template_part part + in_template_parts parts

abbrev pub in_templates : List Template → ℕ
in_templates [] = 0
in_templates (template ∷ templates) = in_template_parts template.parts + in_templates templates

abbrev pub in_parse_from : ParseFrom → ℕ
in_parse_from (o.Var name) = 1
in_parse_from (o.Value expr) = in_expr expr
in_parse_from _ = 0

abbrev pub in_parse : Parse → ℕ
in_parse parse = in_parse_from parse.from + in_templates parse.templates

abbrev pub in_simple : Simple → ℕ
in_simple (c.Assign name expr) = 1 + in_expr expr
in_simple (c.SendAssign receiver part expr) = (in_expr receiver + in_part part) + in_expr expr
in_simple (c.Message term) = in_expr term
in_simple (c.Say given) = in_given given
in_simple (c.Leave name) = in_name name
in_simple (c.Iterate name) = in_name name
in_simple (c.Call routine) = in_args routine.args
in_simple (c.Return given) = in_given given
in_simple (c.Exit given) = in_given given
in_simple (c.Procedure names) = length names
in_simple (c.Expose names) = length names
in_simple (c.UseArg strict parameters) = in_parameters parameters
in_simple (c.Parse parse) = in_parse parse
in_simple (c.Push given) = in_given given
in_simple (c.Queue given) = in_given given
in_simple (c.Drop names) = length names
in_simple (c.Digits given) = in_given given
in_simple (c.GuardOn test) = in_given test
in_simple (c.GuardOff test) = in_given test
in_simple (c.Reply given) = in_given given
in_simple (c.Forward forward) = in_forward forward
in_simple (c.RaiseSyntax number text) = in_expr number + in_given text
in_simple (c.RaiseUser name text value) = in_given text + in_given value
in_simple _ = 0

-- ---- loops

abbrev pub in_bound : Bound → ℕ
in_bound (b.To expr) = in_expr expr
in_bound (b.By expr) = in_expr expr
in_bound (b.For expr) = in_expr expr

abbrev pub in_bounds : List Bound → ℕ
in_bounds [] = 0
in_bounds (bound ∷ bounds) = in_bound bound + in_bounds bounds

abbrev pub in_header : Header → ℕ
in_header h.Forever = 0
in_header (h.Times expr) = in_expr expr
in_header (h.Counts name first bounds) = (1 + in_expr first) + in_bounds bounds
in_header (h.Over name expr) = 1 + in_expr expr

abbrev pub in_test : Test → ℕ
in_test w.Never = 0
in_test (w.While expr) = in_expr expr
in_test (w.Until expr) = in_expr expr

-- ---- clauses: those that stand in one and itself, and the places at which variables are named in it

abbrev pub if_given : Option ℕ → ℕ
if_given None = 0
if_given (Some n) = n

abbrev pub total_if_given : Option (List ℕ) → ℕ
total_if_given None = 0
total_if_given (Some ns) = total ns

-- One level of a clause, with the number of each part in its place.
abbrev pub kind_step : ClauseKind-F ℕ ℕ ℕ → ℕ
kind_step (ClauseKind-F.Simple simple) = in_simple simple
kind_step (ClauseKind-F.If test chosen other) = in_expr test + (chosen + if_given other)
kind_step (ClauseKind-F.Select whens other) = total whens + total_if_given other
kind_step (ClauseKind-F.Group clauses) = total clauses
kind_step (ClauseKind-F.Loop header test clauses) = (in_header header + in_test test) + total clauses

abbrev pub clause_step : Clause-F ℕ ℕ ℕ → ℕ
clause_step clause = 1 + clause.kind

-- A WHEN is a clause.
abbrev pub when_step : When-F ℕ ℕ ℕ → ℕ
when_step when = 1 + (in_expr when.test + when.chosen)

abbrev pub in_kind : ClauseKind → ℕ
in_kind = fold-ClauseKind ℕ ℕ ℕ kind_step clause_step when_step

abbrev pub in_clause : Clause → ℕ
in_clause = fold-Clause ℕ ℕ ℕ kind_step clause_step when_step

abbrev pub in_when : When → ℕ
in_when = fold-When ℕ ℕ ℕ kind_step clause_step when_step

abbrev pub in_clauses : List Clause → ℕ
in_clauses [] = 0
in_clauses (clause ∷ clauses) = in_clause clause + in_clauses clauses

abbrev pub in_bodies : List Body → ℕ
in_bodies [] = 0
in_bodies (body ∷ bodies) = in_clauses body.clauses + in_bodies bodies

-- how many clauses stand in a program, and at how many places variables are named in it
abbrev pub in_program : Package → ℕ
in_program program = in_clauses program.main.clauses + in_bodies program.bodies

-- ---- the most that a program has

abbrev pub most_parts : ℕ
most_parts = 16777216

abbrev pub most_classes : ℕ
most_classes = 1000000
