-- Instructions that hold no other clause, but for PARSE, FORWARD and those that stand at certain places alone: which tokens they
-- are written with, a form a line.
use Rattle.std.specs.Prelude.{◌≡◌, ◌≢◌, ℕ, Bool, true, false, if◌then◌else◌, List, [], ◌∷◌, Option, Some, None, codes}
use Rattle.rx_tree.specs.declared.activity.Condition.{Condition}
use Rattle.rx_tree.specs.declared.activity.Condition.TheVariants as y
use Rattle.rx_tree.specs.declared.activity.TraceSetting.{TraceSetting}
use Rattle.rx_tree.specs.declared.activity.TraceSetting.TheVariants as r
use Rattle.rx_tree.specs.declared.name.Name.{Name}
use Rattle.rx_tree.specs.declared.token.Token.{Token}
use Rattle.rx_tree.specs.declared.token.TokenKind.{TokenKind}
use Rattle.rx_tree.specs.declared.token.TokenKind.TheVariants as k
use Rattle.rx_tree.specs.declared.expr.Expr.{Expr}
use Rattle.rx_tree.specs.declared.expr.Expr.TheVariants as e
use Rattle.rx_tree.specs.declared.value.Value.TheVariants.{Str}
use Rattle.rx_clause_tree.specs.declared.instruction.Parameter.{Parameter}
use Rattle.rx_clause_tree.specs.declared.simple.Simple.{Simple}
use Rattle.rx_clause_tree.specs.declared.simple.Simple.TheVariants as c
use Rattle.rx_tree.specs.declared.stops.Stops.TheVariants as s
use Rattle.rx_tree.specs.Operators.{Tokens}
use Rattle.rx_tree.specs.Terms.{name_of, is_string}
use Rattle.rx_tree.specs.Expressions.{Fits, AreArgs}
use Rattle.rx_clause_tree.specs.ClauseWords.{word, is_word, begins_word, variable_of, symbol_of, is_clause_end, behind_end, is_equal}
use Rattle.rx_clause_tree.specs.Assignments.{IsLastExpression, IsGiven}

-- ---- parts

-- variables side by side, and the end of the clause
pub data AreNames : List Name → Tokens → Tokens → Type 0 where
  no_name : {rest : Tokens} (t : Token) → is_clause_end t.kind ≡ true → AreNames [] (t ∷ rest) rest
  name : {name : Name} {names : List Name} {tokens rest : Tokens} (t : Token) → variable_of t.kind ≡ Some name → AreNames names tokens rest
      → AreNames (name ∷ names) (t ∷ tokens) rest

-- a condition: SYNTAX, NOVALUE, NOMETHOD, or USER and a symbol
pub data IsCondition : Condition → Tokens → Tokens → Type 0 where
  syntax_condition : {rest : Tokens} (t : Token) → t.kind ≡ word (codes "SYNTAX") → IsCondition y.Syntax (t ∷ rest) rest
  novalue : {rest : Tokens} (t : Token) → t.kind ≡ word (codes "NOVALUE") → IsCondition y.NoValue (t ∷ rest) rest
  nomethod : {rest : Tokens} (t : Token) → t.kind ≡ word (codes "NOMETHOD") → IsCondition y.NoMethod (t ∷ rest) rest
  user : {rest : Tokens} (t u : Token) (name : List ℕ) → t.kind ≡ word (codes "USER") → symbol_of u.kind ≡ Some name
      → IsCondition (y.User name) (t ∷ (u ∷ rest)) rest

-- the label of a trap without NAME
abbrev pub label_of : Condition → List ℕ
label_of y.Syntax = codes "SYNTAX"
label_of y.NoValue = codes "NOVALUE"
label_of y.NoMethod = codes "NOMETHOD"
label_of (y.User text) = text

-- `[NAME label]`, and the end of the clause
pub data IsTrapLabel : Condition → List ℕ → Tokens → Tokens → Type 0 where
  own_label : {condition : Condition} {rest : Tokens} (t : Token) → is_clause_end t.kind ≡ true
      → IsTrapLabel condition (label_of condition) (t ∷ rest) rest
  other_label : {condition : Condition} {rest : Tokens} (t u v : Token) (label : List ℕ) → t.kind ≡ word (codes "NAME")
      → symbol_of u.kind ≡ Some label → is_clause_end v.kind ≡ true → IsTrapLabel condition label (t ∷ (u ∷ (v ∷ rest))) rest

-- what is between two commas of USE: a variable, and its default
pub data IsParameter : Parameter → Tokens → Tokens → Type 0 where
  required : {name : Name} {rest : Tokens} (t : Token) → variable_of t.kind ≡ Some name
      → IsParameter (record { name = name; default = None }) (t ∷ rest) rest
  with_default : {name : Name} {expr : Expr} {tokens rest : Tokens} (t u : Token) → variable_of t.kind ≡ Some name → is_equal u.kind ≡ true
      → Fits s.Nothing tokens expr rest → IsParameter (record { name = name; default = Some expr }) (t ∷ (u ∷ tokens)) rest

-- parameters with commas between them, one at least, and the end of the clause
pub data AreParameters : List Parameter → Tokens → Tokens → Type 0 where
  last_parameter : {parameter : Parameter} {tokens rest : Tokens} (t : Token) → IsParameter parameter tokens (t ∷ rest)
      → is_clause_end t.kind ≡ true → AreParameters (parameter ∷ []) tokens rest
  next_parameter : {parameter : Parameter} {parameters : List Parameter} {tokens behind rest : Tokens} (t : Token)
      → IsParameter parameter tokens (t ∷ behind) → t.kind ≡ k.Comma → AreParameters parameters behind rest
      → AreParameters (parameter ∷ parameters) tokens rest

-- an expression in parentheses
pub data IsGroup : Expr → Tokens → Tokens → Type 0 where
  group : {expr : Expr} {tokens rest : Tokens} (t u : Token) → t.kind ≡ k.LeftParen → Fits s.Nothing tokens expr (u ∷ rest) → u.kind ≡ k.RightParen
      → IsGroup (e.Group expr) (t ∷ tokens) rest

-- a number of RAISE SYNTAX: a constant, or an expression in parentheses
pub data IsErrorNumber : Expr → Tokens → Tokens → Type 0 where
  constant_number : {rest : Tokens} (t : Token) (text : List ℕ) → t.kind ≡ k.Constant text → IsErrorNumber (e.Const (Str text)) (t ∷ rest) rest
  group_number : {expr : Expr} {tokens rest : Tokens} → IsGroup expr tokens rest → IsErrorNumber expr tokens rest

-- an option of RAISE, a word with an expression: `[DESCRIPTION e]`, `[RETURN e]`
pub data IsRaiseOption : List ℕ → Option Expr → Tokens → Tokens → Type 0 where
  no_option : {spelling : List ℕ} {rest : Tokens} → begins_word spelling rest ≡ false → IsRaiseOption spelling None rest rest
  option : {spelling : List ℕ} {expr : Expr} {tokens rest : Tokens} (t : Token) → t.kind ≡ word spelling → Fits s.Raise tokens expr rest
      → IsRaiseOption spelling (Some expr) (t ∷ tokens) rest

-- `[WHEN e]`, and the end of the clause
pub data IsGuardTest : Option Expr → Tokens → Tokens → Type 0 where
  no_guard_test : {rest : Tokens} (t : Token) → is_clause_end t.kind ≡ true → IsGuardTest None (t ∷ rest) rest
  guard_test : {expr : Expr} {tokens rest : Tokens} (t : Token) → t.kind ≡ word (codes "WHEN") → IsLastExpression expr tokens rest
      → IsGuardTest (Some expr) (t ∷ tokens) rest

-- the setting of TRACE
abbrev pub setting_of : TokenKind → Option TraceSetting
setting_of kind =
    if is_word (codes "A") kind then Some r.All else (if is_word (codes "R") kind then Some r.Results else
    (if is_word (codes "N") kind then Some r.Normal else (if is_word (codes "O") kind then Some r.Off else None)))

-- ---- instructions. The first token, t, is the keyword

pub data IsPlainInstruction : Simple → Tokens → Tokens → Type 0 where
  -- SAY [e]
  say : {given : Option Expr} {tokens rest : Tokens} (t : Token) → t.kind ≡ word (codes "SAY") → IsGiven given tokens rest
      → IsPlainInstruction (c.Say given) (t ∷ tokens) rest
  -- NOP
  nop : {tokens rest : Tokens} (t : Token) → t.kind ≡ word (codes "NOP") → behind_end tokens ≡ Some rest → IsPlainInstruction c.Nop (t ∷ tokens) rest
  -- CALL name [args]. ON and OFF go before a name
  call : {args : List (Option Expr)} {tokens rest : Tokens} (t u : Token) (name : List ℕ) → t.kind ≡ word (codes "CALL")
      → is_word (codes "ON") u.kind ≡ false → is_word (codes "OFF") u.kind ≡ false → name_of u.kind ≡ Some name → AreArgs k.ClauseEnd args tokens rest
      → IsPlainInstruction (c.Call (record { name = name; is_string = is_string u.kind; args = args })) (t ∷ (u ∷ tokens)) rest
  -- CALL ON USER c [NAME label]
  call_on : {name label : List ℕ} {tokens behind rest : Tokens} (t u : Token) → t.kind ≡ word (codes "CALL") → u.kind ≡ word (codes "ON")
      → IsCondition (y.User name) tokens behind → IsTrapLabel (y.User name) label behind rest
      → IsPlainInstruction (c.CallOn (record { condition = y.User name; label = label })) (t ∷ (u ∷ tokens)) rest
  -- CALL OFF USER c
  call_off : {name : List ℕ} {tokens behind rest : Tokens} (t u : Token) → t.kind ≡ word (codes "CALL") → u.kind ≡ word (codes "OFF")
      → IsCondition (y.User name) tokens behind → behind_end behind ≡ Some rest → IsPlainInstruction (c.CallOff (y.User name)) (t ∷ (u ∷ tokens)) rest
  -- RETURN [e]
  return_ : {given : Option Expr} {tokens rest : Tokens} (t : Token) → t.kind ≡ word (codes "RETURN") → IsGiven given tokens rest
      → IsPlainInstruction (c.Return given) (t ∷ tokens) rest
  -- EXIT [e]
  exit : {given : Option Expr} {tokens rest : Tokens} (t : Token) → t.kind ≡ word (codes "EXIT") → IsGiven given tokens rest
      → IsPlainInstruction (c.Exit given) (t ∷ tokens) rest
  -- SIGNAL label. ON and OFF go before a label
  signal : {rest : Tokens} (t u v : Token) (label : List ℕ) → t.kind ≡ word (codes "SIGNAL") → is_word (codes "ON") u.kind ≡ false
      → is_word (codes "OFF") u.kind ≡ false → symbol_of u.kind ≡ Some label → is_clause_end v.kind ≡ true
      → IsPlainInstruction (c.Signal label) (t ∷ (u ∷ (v ∷ rest))) rest
  -- SIGNAL ON c [NAME label]
  signal_on : {condition : Condition} {label : List ℕ} {tokens behind rest : Tokens} (t u : Token) → t.kind ≡ word (codes "SIGNAL")
      → u.kind ≡ word (codes "ON") → IsCondition condition tokens behind → IsTrapLabel condition label behind rest
      → IsPlainInstruction (c.SignalOn (record { condition = condition; label = label })) (t ∷ (u ∷ tokens)) rest
  -- SIGNAL OFF c
  signal_off : {condition : Condition} {tokens behind rest : Tokens} (t u : Token) → t.kind ≡ word (codes "SIGNAL")
      → u.kind ≡ word (codes "OFF") → IsCondition condition tokens behind → behind_end behind ≡ Some rest
      → IsPlainInstruction (c.SignalOff condition) (t ∷ (u ∷ tokens)) rest
  -- DROP names
  drop_names : {names : List Name} {tokens rest : Tokens} (t : Token) → t.kind ≡ word (codes "DROP") → AreNames names tokens rest → names ≢ []
      → IsPlainInstruction (c.Drop names) (t ∷ tokens) rest
  -- USE ARG v [= e], ..
  use_arg : {parameters : List Parameter} {tokens rest : Tokens} (t u : Token) → t.kind ≡ word (codes "USE") → u.kind ≡ word (codes "ARG")
      → AreParameters parameters tokens rest → IsPlainInstruction (c.UseArg false parameters) (t ∷ (u ∷ tokens)) rest
  -- USE STRICT ARG v [= e], ..
  use_strict : {parameters : List Parameter} {tokens rest : Tokens} (t u v : Token) → t.kind ≡ word (codes "USE")
      → u.kind ≡ word (codes "STRICT") → v.kind ≡ word (codes "ARG") → AreParameters parameters tokens rest
      → IsPlainInstruction (c.UseArg true parameters) (t ∷ (u ∷ (v ∷ tokens))) rest
  -- PUSH [e]
  push : {given : Option Expr} {tokens rest : Tokens} (t : Token) → t.kind ≡ word (codes "PUSH") → IsGiven given tokens rest
      → IsPlainInstruction (c.Push given) (t ∷ tokens) rest
  -- QUEUE [e]
  queue : {given : Option Expr} {tokens rest : Tokens} (t : Token) → t.kind ≡ word (codes "QUEUE") → IsGiven given tokens rest
      → IsPlainInstruction (c.Queue given) (t ∷ tokens) rest
  -- NUMERIC DIGITS [e]
  digits : {given : Option Expr} {tokens rest : Tokens} (t u : Token) → t.kind ≡ word (codes "NUMERIC") → u.kind ≡ word (codes "DIGITS")
      → IsGiven given tokens rest → IsPlainInstruction (c.Digits given) (t ∷ (u ∷ tokens)) rest
  -- GUARD ON [WHEN e]
  guard_on : {test : Option Expr} {tokens rest : Tokens} (t u : Token) → t.kind ≡ word (codes "GUARD") → u.kind ≡ word (codes "ON")
      → IsGuardTest test tokens rest → IsPlainInstruction (c.GuardOn test) (t ∷ (u ∷ tokens)) rest
  -- GUARD OFF [WHEN e]
  guard_off : {test : Option Expr} {tokens rest : Tokens} (t u : Token) → t.kind ≡ word (codes "GUARD") → u.kind ≡ word (codes "OFF")
      → IsGuardTest test tokens rest → IsPlainInstruction (c.GuardOff test) (t ∷ (u ∷ tokens)) rest
  -- REPLY [e]
  reply : {given : Option Expr} {tokens rest : Tokens} (t : Token) → t.kind ≡ word (codes "REPLY") → IsGiven given tokens rest
      → IsPlainInstruction (c.Reply given) (t ∷ tokens) rest
  -- RAISE SYNTAX n [DESCRIPTION e]
  raise_syntax : {number : Expr} {text : Option Expr} {tokens behind others rest : Tokens} (t u : Token) → t.kind ≡ word (codes "RAISE")
      → u.kind ≡ word (codes "SYNTAX") → IsErrorNumber number tokens behind → IsRaiseOption (codes "DESCRIPTION") text behind others → behind_end others ≡ Some rest
      → IsPlainInstruction (c.RaiseSyntax number text) (t ∷ (u ∷ tokens)) rest
  -- RAISE USER c [DESCRIPTION e] [RETURN e]
  raise_user : {text value : Option Expr} {tokens behind others rest : Tokens} (t u v : Token) (name : List ℕ) → t.kind ≡ word (codes "RAISE")
      → u.kind ≡ word (codes "USER") → symbol_of v.kind ≡ Some name → IsRaiseOption (codes "DESCRIPTION") text tokens behind → IsRaiseOption (codes "RETURN") value behind others
      → behind_end others ≡ Some rest → IsPlainInstruction (c.RaiseUser name text value) (t ∷ (u ∷ (v ∷ tokens))) rest
  -- TRACE A, R, N and O
  trace : {setting : TraceSetting} {tokens rest : Tokens} (t u : Token) → t.kind ≡ word (codes "TRACE") → setting_of u.kind ≡ Some setting
      → behind_end tokens ≡ Some rest → IsPlainInstruction (c.Trace setting) (t ∷ (u ∷ tokens)) rest
