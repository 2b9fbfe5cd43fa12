-- The reader of instructions that hold no other clause: each behind its keyword.
use Rattle.std.specs.Prelude.{ℕ, ◌+◌, Bool, true, false, if◌then◌else◌, List, [], ◌∷◌, length, Option, Some, None, Ok, Err, codes}
use Rattle.rx_tree.specs.declared.activity.Condition.{Condition}
use Rattle.rx_tree.specs.declared.activity.Condition.TheVariants as y
use Rattle.rx_tree.specs.declared.activity.TraceSetting.{TraceSetting}
use Rattle.rx_tree.specs.declared.name.Name.{Name}
use Rattle.rx_tree.specs.declared.token.TokenKind.{TokenKind}
use Rattle.rx_tree.specs.declared.token.TokenKind.TheVariants as k
use Rattle.rx_tree.specs.declared.expr.Expr.{Expr}
use Rattle.rx_tree.specs.declared.expr.Expr.TheVariants as e
use Rattle.rx_tree.specs.declared.value.Value.TheVariants.{Str}
use Rattle.rx_tree.specs.declared.stops.Stops.TheVariants as s
use Rattle.rx_tree.specs.Operators.{Tokens}
use Rattle.rx_tree.specs.Terms.{name_of, is_string}
use Rattle.rx_exprs.specs.Reader.{Outcome, and_then, on_some, lack, refusal, expression}
use Rattle.rx_clause_tree.specs.declared.instruction.Parameter.{Parameter}
use Rattle.rx_clause_tree.specs.declared.simple.Simple.{Simple}
use Rattle.rx_clause_tree.specs.declared.simple.Simple.TheVariants as c
use Rattle.rx_clause_tree.specs.ClauseWords.{is_word, behind_end, is_equal}
use Rattle.rx_clause_tree.specs.Instructions.{label_of, setting_of}
use Rattle.rx_clauses.specs.Parts.{taken, variable_at, symbol_at, behind_symbol, separated, to_end, last_expression, given, some_names, group, arguments}

-- ---- traps

-- USER and a symbol
abbrev pub user_condition : Tokens → Outcome Condition
user_condition tokens =
    on_some (behind_symbol (codes "USER") tokens) (Err (lack 25 tokens)) (λ behind.
    and_then (symbol_at behind) (λ name rest. Ok (y.User name, rest)))

-- a condition
abbrev pub condition : Tokens → Outcome Condition
condition tokens =
    on_some (behind_symbol (codes "SYNTAX") tokens)
    (on_some (behind_symbol (codes "NOVALUE") tokens)
    (on_some (behind_symbol (codes "NOMETHOD") tokens) (user_condition tokens)
    (λ rest. Ok (y.NoMethod, rest))) (λ rest. Ok (y.NoValue, rest))) (λ rest. Ok (y.Syntax, rest))

-- `[NAME label]`, and the end of the clause
abbrev pub trap_label : Condition → Tokens → Outcome (List ℕ)
trap_label condition tokens =
    on_some (behind_end tokens)
    (on_some (behind_symbol (codes "NAME") tokens) (Err (refusal 21 tokens)) (λ behind.
    and_then (symbol_at behind) (λ label rest. to_end label rest)))
    (λ rest. Ok (label_of condition, rest))

-- CALL ON
abbrev pub call_on : Tokens → Outcome Simple
call_on tokens =
    and_then (user_condition tokens) (λ trapped behind.
    and_then (trap_label trapped behind) (λ label rest. Ok (c.CallOn (record { condition = trapped; label = label }), rest)))

-- CALL OFF
abbrev pub call_off : Tokens → Outcome Simple
call_off tokens = and_then (user_condition tokens) (λ trapped behind. to_end (c.CallOff trapped) behind)

-- CALL and a name
abbrev pub call_named : Bool → Option (List ℕ) → Tokens → Tokens → Outcome Simple
call_named string None here behind = Err (lack 19 here)
call_named string (Some name) here behind =
    and_then (arguments behind) (λ args rest. Ok (c.Call (record { name = name; is_string = string; args = args }), rest))

abbrev pub call_routine : Tokens → Outcome Simple
call_routine [] = Err (lack 19 [])
call_routine (u ∷ tokens) = call_named (is_string u.kind) (name_of u.kind) (u ∷ tokens) tokens

abbrev pub call : Tokens → Outcome Simple
call [] = Err (lack 19 [])
call (u ∷ tokens) =
    if is_word (codes "ON") u.kind then call_on tokens
    else (if is_word (codes "OFF") u.kind then call_off tokens else call_routine (u ∷ tokens))

abbrev pub signal_on : Tokens → Outcome Simple
signal_on tokens =
    and_then (condition tokens) (λ trapped behind.
    and_then (trap_label trapped behind) (λ label rest. Ok (c.SignalOn (record { condition = trapped; label = label }), rest)))

abbrev pub signal_off : Tokens → Outcome Simple
signal_off tokens = and_then (condition tokens) (λ trapped behind. to_end (c.SignalOff trapped) behind)

abbrev pub signal_label : Tokens → Outcome Simple
signal_label tokens = and_then (symbol_at tokens) (λ label behind. to_end (c.Signal label) behind)

abbrev pub signal : Tokens → Outcome Simple
signal [] = Err (lack 20 [])
signal (u ∷ tokens) =
    if is_word (codes "ON") u.kind then signal_on tokens
    else (if is_word (codes "OFF") u.kind then signal_off tokens else signal_label (u ∷ tokens))

-- ---- names and parameters

abbrev pub drop_names : Tokens → Outcome Simple
drop_names tokens = and_then (some_names tokens) (λ list rest. Ok (c.Drop list, rest))

abbrev pub with_default : Name → Tokens → Outcome Parameter
with_default name tokens = and_then (expression s.Nothing tokens) (λ expr rest. Ok (record { name = name; default = Some expr }, rest))

abbrev pub default_at : Name → Tokens → Outcome Parameter
default_at name [] = Ok (record { name = name; default = None }, [])
default_at name (u ∷ behind) = if is_equal u.kind then with_default name behind else Ok (record { name = name; default = None }, u ∷ behind)

abbrev pub parameter : Tokens → Outcome Parameter
parameter tokens = and_then (variable_at tokens) (λ name behind. default_at name behind)

abbrev pub parameters : ℕ → Tokens → Outcome (List Parameter)
parameters more tokens = separated 21 (λ ts. parameter ts) more tokens

abbrev pub use_args : Bool → Tokens → Outcome Simple
use_args strict tokens =
    on_some (behind_symbol (codes "ARG") tokens) (Err (lack 25 tokens)) (λ behind.
    and_then (parameters (length behind + 1) behind) (λ list rest. Ok (c.UseArg strict list, rest)))

abbrev pub use_ : Tokens → Outcome Simple
use_ tokens = on_some (behind_symbol (codes "STRICT") tokens) (use_args false tokens) (λ behind. use_args true behind)

-- ---- NUMERIC, GUARD, RAISE and TRACE

abbrev pub digits : Tokens → Outcome Simple
digits tokens =
    on_some (behind_symbol (codes "DIGITS") tokens) (Err (lack 25 tokens)) (λ behind.
    and_then (given behind) (λ expr rest. Ok (c.Digits expr, rest)))

abbrev pub guard_test : Tokens → Outcome (Option Expr)
guard_test tokens =
    on_some (behind_end tokens)
    (on_some (behind_symbol (codes "WHEN") tokens) (Err (refusal 25 tokens)) (λ behind.
    and_then (last_expression behind) (λ expr rest. Ok (Some expr, rest))))
    (λ rest. Ok (None, rest))

abbrev pub guard_off : Tokens → Outcome Simple
guard_off tokens =
    on_some (behind_symbol (codes "OFF") tokens) (Err (lack 25 tokens)) (λ behind.
    and_then (guard_test behind) (λ test rest. Ok (c.GuardOff test, rest)))

abbrev pub guard : Tokens → Outcome Simple
guard tokens =
    on_some (behind_symbol (codes "ON") tokens) (guard_off tokens) (λ behind.
    and_then (guard_test behind) (λ test rest. Ok (c.GuardOn test, rest)))

-- a constant, or an expression in parentheses
abbrev pub constant_or : TokenKind → Tokens → Tokens → Outcome Expr
constant_or (k.Constant text) here behind = Ok (e.Const (Str text), behind)
constant_or _ here behind = group 26 here

abbrev pub error_number : Tokens → Outcome Expr
error_number [] = group 26 []
error_number (t ∷ behind) = constant_or t.kind (t ∷ behind) behind

-- an option of RAISE
abbrev pub raise_option : List ℕ → Tokens → Outcome (Option Expr)
raise_option spelling tokens =
    on_some (behind_symbol spelling tokens) (Ok (None, tokens)) (λ behind.
    and_then (expression s.Raise behind) (λ expr rest. Ok (Some expr, rest)))

abbrev pub raise_syntax : Tokens → Outcome Simple
raise_syntax tokens =
    and_then (error_number tokens) (λ number behind.
    and_then (raise_option (codes "DESCRIPTION") behind) (λ text others. to_end (c.RaiseSyntax number text) others))

abbrev pub raise_user : Tokens → Outcome Simple
raise_user tokens =
    on_some (behind_symbol (codes "USER") tokens) (Err (lack 25 tokens)) (λ behind.
    and_then (symbol_at behind) (λ name others.
    and_then (raise_option (codes "DESCRIPTION") others) (λ text more.
    and_then (raise_option (codes "RETURN") more) (λ value last. to_end (c.RaiseUser name text value) last))))

abbrev pub raise : Tokens → Outcome Simple
raise tokens = on_some (behind_symbol (codes "SYNTAX") tokens) (raise_user tokens) (λ behind. raise_syntax behind)

abbrev pub setting_at : Tokens → Outcome TraceSetting
setting_at [] = Err (lack 24 [])
setting_at (u ∷ behind) = taken (setting_of u.kind) 24 (u ∷ behind) behind

abbrev pub trace : Tokens → Outcome Simple
trace tokens = and_then (setting_at tokens) (λ setting behind. to_end (c.Trace setting) behind)
