-- The reader of FORWARD, behind its keyword.
use Rattle.std.specs.Prelude.{ℕ, zero, suc, ◌+◌, Bool, true, false, if◌then◌else◌, List, [], ◌∷◌, length, Option, Some, None, is_some, Ok, Err, codes}
use Rattle.rx_tree.specs.declared.name.Name.{Name}
use Rattle.rx_tree.specs.declared.token.TokenKind.{TokenKind}
use Rattle.rx_tree.specs.declared.token.TokenKind.TheVariants as k
use Rattle.rx_tree.specs.declared.expr.Expr.{Expr}
use Rattle.rx_tree.specs.declared.expr.Expr.TheVariants as e
use Rattle.rx_tree.specs.declared.value.Value.TheVariants.{Str}
use Rattle.rx_tree.specs.Operators.{Tokens}
use Rattle.rx_exprs.specs.declared.operators.Bracketed.TheVariants.{Round}
use Rattle.rx_exprs.specs.Marks.{left_at}
use Rattle.rx_exprs.specs.Reader.{Outcome, and_then, on_some, lack, refusal, no_turns}
use Rattle.rx_exprs.specs.Forms.{args_form}
use Rattle.rx_clause_tree.specs.declared.instruction.Forward.{Forward}
use Rattle.rx_clause_tree.specs.declared.instruction.Forwarded.{Forwarded}
use Rattle.rx_clause_tree.specs.declared.instruction.Forwarded.TheVariants as f
use Rattle.rx_clause_tree.specs.ClauseWords.{variable_of, behind_end}
use Rattle.rx_clause_tree.specs.Forwards.{no_options}
use Rattle.rx_clauses.specs.Parts.{behind_symbol, group}

abbrev pub variable_or : Option Name → Tokens → Tokens → Outcome Expr
variable_or None here behind = group 19 here
variable_or (Some name) here behind = Ok (e.Name name, behind)

abbrev pub operand_of : TokenKind → Tokens → Tokens → Outcome Expr
operand_of (k.Quoted text) here behind = Ok (e.Const (Str text), behind)
operand_of kind here behind = variable_or (variable_of kind) here behind

-- an operand of an option
abbrev pub operand : Tokens → Outcome Expr
operand [] = Err (refusal 19 [])
operand (t ∷ behind) = operand_of t.kind (t ∷ behind) behind

-- the operand of an option behind its word, where the option didn't stand before
abbrev pub operand_once : Bool → Tokens → Tokens → Outcome Expr
operand_once stood here behind = if stood then Err (lack 25 here) else operand behind

abbrev pub option_of : (Expr → Forward) → Bool → Tokens → Tokens → Outcome Forward
option_of make stood here behind = and_then (operand_once stood here behind) (λ expr rest. Ok (make expr, rest))

abbrev pub has_args : Forwarded → Bool
has_args f.Own = false
has_args _ = true

-- the arguments of ARRAY behind its word, where no arguments stood before
abbrev pub array_once : Bool → Tokens → Tokens → Outcome (List (Option Expr))
array_once stood here behind =
    if stood then Err (lack 25 here) else on_some (left_at behind) (Err (refusal 25 behind)) (λ inside. args_form Round inside)

abbrev pub array_of : Forward → Tokens → Tokens → Outcome Forward
array_of read here behind =
    and_then (array_once (has_args read.args) here behind) (λ args rest. Ok (record read { args = f.Array args }, rest))

abbrev pub continue_of : Forward → Tokens → Tokens → Outcome Forward
continue_of read here behind = if read.goes_on then Err (lack 25 here) else Ok (record read { goes_on = true }, behind)

-- one option more
abbrev pub option : Forward → Tokens → Outcome Forward
option read here =
    on_some (behind_symbol (codes "TO") here)
    (on_some (behind_symbol (codes "CLASS") here)
    (on_some (behind_symbol (codes "MESSAGE") here)
    (on_some (behind_symbol (codes "ARGUMENTS") here)
    (on_some (behind_symbol (codes "ARRAY") here)
    (on_some (behind_symbol (codes "CONTINUE") here) (Err (refusal 25 here))
    (λ behind. continue_of read here behind))
    (λ behind. array_of read here behind))
    (λ behind. option_of (λ expr. record read { args = f.Arguments expr }) (has_args read.args) here behind))
    (λ behind. option_of (λ expr. record read { message = Some expr }) (is_some read.message) here behind))
    (λ behind. option_of (λ expr. record read { class = Some expr }) (is_some read.class) here behind))
    (λ behind. option_of (λ expr. record read { to = Some expr }) (is_some read.to) here behind)

-- the options behind those that were read already, and the end of the clause
abbrev pub options : ℕ → Forward → Tokens → Outcome Forward
options zero read tokens = no_turns
options (suc more) read tokens = on_some (behind_end tokens) (and_then (option read tokens) (λ now behind. options more now behind)) (λ rest. Ok (read, rest))

abbrev pub forward : Tokens → Outcome Forward
forward tokens = options (length tokens + 1) no_options tokens
