-- The parts of an expression, each with turns enough, so that functions can be compared with them.
use Rattle.std.specs.Prelude.{ℕ, ◌+◌, ◌*◌, List, length, Option, Some, None, Ok}
use Rattle.rx_tree.specs.declared.token.Oper.{Oper}
use Rattle.rx_tree.specs.declared.expr.Expr.{Expr}
use Rattle.rx_tree.specs.declared.expr.SendPart.{SendPart}
use Rattle.rx_tree.specs.declared.stops.Stops.{Stops}
use Rattle.rx_tree.specs.declared.stops.Stops.TheVariants as s
use Rattle.rx_tree.specs.Operators.{Tokens}
use Rattle.rx_exprs.specs.declared.operators.Opening.{Opening}
use Rattle.rx_exprs.specs.declared.operators.Bracketed.{Bracketed}
use Rattle.rx_exprs.specs.declared.operators.End.{End}
use Rattle.rx_exprs.specs.declared.operators.End.TheVariants.{Comma, Close}
use Rattle.rx_exprs.specs.Marks.{end_at}
use Rattle.rx_exprs.specs.Reader.{Outcome, and_then, on_some, loosest, read, terms, parts, one_part, call_args, args, listed}

-- an expression of a level
unfoldable pub level_form : Stops → ℕ → Tokens → Outcome Expr
level_form stops n tokens = read (16 * length tokens + n + 2) stops n tokens

unfoldable pub terms_form : Stops → ℕ → List (Oper × Expr) → Tokens → Outcome (List (Oper × Expr))
terms_form stops n found tokens = terms (16 * length tokens + n + 5) stops n found tokens

unfoldable pub parts_form : List SendPart → Tokens → Outcome (List SendPart)
parts_form found tokens = parts (16 * length tokens + 1) found tokens

unfoldable pub part_form : Opening → Tokens → Outcome SendPart
part_form opening tokens = one_part (16 * length tokens + 15) opening tokens

unfoldable pub call_form : Tokens → Outcome (List (Option Expr))
call_form tokens = call_args (16 * length tokens + 1) tokens

unfoldable pub args_form : Bracketed → Tokens → Outcome (List (Option Expr))
args_form bracketed tokens = args (16 * length tokens + 14) bracketed tokens

unfoldable pub listed_form : Bracketed → List (Option Expr) → Tokens → Outcome (List (Option Expr))
listed_form bracketed found tokens = listed (16 * length tokens + 13) bracketed found tokens

unfoldable pub argument_form : Bracketed → Tokens → Outcome (Option Expr)
argument_form bracketed tokens =
    on_some (end_at bracketed tokens) (and_then (level_form s.Nothing loosest tokens) (λ expr rest. Ok (Some expr, rest))) (λ _. Ok (None, tokens))

unfoldable pub next_form : Bracketed → List (Option Expr) → End → Tokens → Outcome (List (Option Expr))
next_form bracketed found Comma rest = listed_form bracketed found rest
next_form bracketed found Close rest = Ok (found, rest)
