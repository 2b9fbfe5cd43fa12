-- What holds of expressions and their tokens.
use Rattle.std.specs.Prelude.{◌≡◌, ◌↔◌, ◌++◌, Ok}
use Rattle.rx_tree.specs.declared.expr.Expr.{Expr}
use Rattle.rx_tree.specs.declared.stops.Stops.{Stops}
use Rattle.rx_tree.specs.Operators.{Tokens}
use Rattle.rx_tree.specs.Expressions.{Fits}
use Rattle.rx_exprs.specs.Reader.{expression}

-- An expression fits exactly where the reader reads it.
abbrev pub ReaderLaw : Type 0
ReaderLaw = (stops : Stops) (tokens : Tokens) (expr : Expr) (rest : Tokens) → Fits stops tokens expr rest ↔ (expression stops tokens ≡ Ok (expr, rest))

-- At most one expression fits.
abbrev pub AtMostOneFits : Type 0
AtMostOneFits = (stops : Stops) (tokens : Tokens) (expr other : Expr) (rest others : Tokens) → Fits stops tokens expr rest
    → Fits stops tokens other others → (expr ≡ other) × (rest ≡ others)

-- Its tokens stand in front of the rest.
abbrev pub StandsInFront : Type 0
StandsInFront = (stops : Stops) (tokens : Tokens) (expr : Expr) (rest : Tokens) → Fits stops tokens expr rest → (front : Tokens) × (tokens ≡ front ++ rest)
