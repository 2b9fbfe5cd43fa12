-- Expressions in which no hole stands, and code that builds trees.
use Rattle.std.specs.Prelude.{◌≡◌, Bool, true, false, ◌&&◌, List, [], ◌∷◌, ◌++◌, Option, Some, None}
use Rattle.rx_operators.specs.Families.{is_join}
use Rattle.rx_tree.specs.declared.token.Oper.{Oper}
use Rattle.rx_tree.specs.declared.expr.Expr.{Expr}
use Rattle.rx_tree.specs.declared.expr.Expr.TheVariants as e
use Rattle.rx_tree.specs.declared.expr.Expr.TheOpen.{Expr-F, SendPart-F}
use Rattle.rx_tree.specs.declared.expr.Expr.TheFolds.{fold-Expr}
use Rattle.rx_tree.specs.declared.expr.SendPart.{SendPart}
use Rattle.rx_eval.specs.declared.code.Instr.{Instr}
use Rattle.rx_eval.specs.Bodies.{Body}
use Rattle.rx_eval.specs.Places.{Trees, made_by, fits}

abbrev pub all_args : List (Option Bool) → Bool
all_args [] = true
all_args (None ∷ args) = all_args args
all_args (Some arg ∷ args) = arg && all_args args

abbrev pub all_terms : List (Oper × Bool) → Bool
all_terms [] = true
all_terms (term ∷ terms) = term.1 && all_terms terms

abbrev pub all_parts : List Bool → Bool
all_parts [] = true
all_parts (part ∷ parts) = part && all_parts parts

abbrev pub whole_level : Expr-F Bool Bool → Bool
whole_level (Expr-F.Prefix opers inner) = inner
whole_level (Expr-F.Chain first terms) = first && all_terms terms
whole_level (Expr-F.Group inner) = inner
whole_level (Expr-F.Function name is_string args) = all_args args
whole_level (Expr-F.Sends receiver parts) = receiver && all_parts parts
whole_level Expr-F.Hole = false
whole_level _ = true

abbrev pub whole_part : SendPart-F Bool Bool → Bool
whole_part part = all_args part.args

-- Whether no hole stands in an expression.
unfoldable pub is_whole : Expr → Bool
is_whole = fold-Expr Bool Bool whole_level whole_part

abbrev pub args_whole : List (Option Expr) → Bool
args_whole [] = true
args_whole (None ∷ args) = args_whole args
args_whole (Some arg ∷ args) = is_whole arg && args_whole args

abbrev pub terms_whole : List (Oper × Expr) → Bool
terms_whole [] = true
terms_whole (term ∷ terms) = is_whole term.1 && terms_whole terms

abbrev pub parts_whole : List SendPart → Bool
parts_whole [] = true
parts_whole (part ∷ parts) = args_whole part.args && parts_whole parts

-- Code of which each instruction finds what it needs, and the trees that it makes, the last one first.
pub record IsBuilt (body : Body) (code : List Instr) (trees : Trees) : Type 0 where
  pub makes : made_by code [] ≡ trees
  pub runs : fits body code [] ≡ true

-- the trees of the given arguments, above others; a string may be wanted of each
abbrev pub stacked : Bool → List (Option Expr) → Trees → Trees
stacked strings [] trees = trees
stacked strings (None ∷ args) trees = stacked strings args trees
stacked strings (Some arg ∷ args) trees = stacked strings args ((arg, strings) ∷ trees)

-- which arguments are given, the last one first
abbrev pub given : {X : Type 0} → Option X → Bool
given None = false
given (Some x) = true

-- ---- what code grows by: more trees are made of the code, or more of the last tree

abbrev pub AppendsTree : Body → Expr → Bool → List Instr → List Instr → Type 0
AppendsTree body expr string old new =
    (trees : Trees) → is_whole expr ≡ true → IsBuilt body old trees → IsBuilt body new ((expr, string) ∷ trees)

abbrev pub AppendsArgs : Body → Bool → List (Option Expr) → List Instr → List Instr → Type 0
AppendsArgs body strings args old new =
    (trees : Trees) → args_whole args ≡ true → IsBuilt body old trees → IsBuilt body new (stacked strings args trees)

abbrev pub WantsLeft : Oper → List Instr → List Instr → Type 0
WantsLeft oper old new =
    (body : Body) (left : Expr) (trees : Trees) → IsBuilt body old ((left, false) ∷ trees)
    → IsBuilt body new ((left, is_join oper) ∷ trees)

abbrev pub AppendsOpers : List Oper → List Instr → List Instr → Type 0
AppendsOpers opers old new =
    (body : Body) (inner : Expr) (trees : Trees) → IsBuilt body old ((e.Prefix [] inner, false) ∷ trees)
    → IsBuilt body new ((e.Prefix opers inner, false) ∷ trees)

abbrev pub AppendsTerms : Body → List (Oper × Expr) → List Instr → List Instr → Type 0
AppendsTerms body terms old new =
    (first : Expr) (done : List (Oper × Expr)) (trees : Trees) → terms_whole terms ≡ true
    → IsBuilt body old ((e.Chain first done, false) ∷ trees) → IsBuilt body new ((e.Chain first (done ++ terms), false) ∷ trees)

abbrev pub AppendsParts : Body → List SendPart → List Instr → List Instr → Type 0
AppendsParts body parts old new =
    (receiver : Expr) (done : List SendPart) (trees : Trees) → parts_whole parts ≡ true
    → IsBuilt body old ((e.Sends receiver done, false) ∷ trees) → IsBuilt body new ((e.Sends receiver (done ++ parts), false) ∷ trees)
