-- FORWARD, and the tokens that it is written with.
use Rattle.std.specs.Prelude.{◌≡◌, ℕ, true, false, List, [], ◌∷◌, Option, Some, None, codes}
use Rattle.rx_tree.specs.declared.token.Token.{Token}
use Rattle.rx_tree.specs.declared.token.TokenKind.TheVariants as k
use Rattle.rx_tree.specs.declared.name.Name.{Name}
use Rattle.rx_tree.specs.declared.value.Value.TheVariants.{Str}
use Rattle.rx_tree.specs.declared.expr.Expr.{Expr}
use Rattle.rx_tree.specs.declared.expr.Expr.TheVariants as e
use Rattle.rx_clause_tree.specs.declared.instruction.Forward.{Forward}
use Rattle.rx_clause_tree.specs.declared.instruction.Forwarded.TheVariants as f
use Rattle.rx_tree.specs.Operators.{Tokens}
use Rattle.rx_tree.specs.Expressions.{AreArgs}
use Rattle.rx_clause_tree.specs.Instructions.{IsGroup}
use Rattle.rx_clause_tree.specs.ClauseWords.{word, variable_of, is_clause_end}

-- an operand of an option: a string, a variable, or an expression in parentheses
pub data IsOperand : Expr → Tokens → Tokens → Type 0 where
  string_operand : {rest : Tokens} (t : Token) (text : List ℕ) → t.kind ≡ k.Quoted text → IsOperand (e.Const (Str text)) (t ∷ rest) rest
  variable_operand : {name : Name} {rest : Tokens} (t : Token) → variable_of t.kind ≡ Some name → IsOperand (e.Name name) (t ∷ rest) rest
  group_operand : {expr : Expr} {tokens rest : Tokens} → IsGroup expr tokens rest → IsOperand expr tokens rest

abbrev pub no_options : Forward
no_options = record { to = None; class = None; message = None; args = f.Own; goes_on = false }

-- The options behind those that were read already, each once and in any order, and the end of the clause. ARGUMENTS and
-- ARRAY don't stand both.
pub data AreOptions : Forward → Forward → Tokens → Tokens → Type 0 where
  no_option : {read : Forward} {rest : Tokens} (t : Token) → is_clause_end t.kind ≡ true → AreOptions read read (t ∷ rest) rest
  -- TO t
  to : {read whole : Forward} {expr : Expr} {tokens behind rest : Tokens} (t : Token) → t.kind ≡ word (codes "TO") → read.to ≡ None
      → IsOperand expr tokens behind → AreOptions (record read { to = Some expr }) whole behind rest → AreOptions read whole (t ∷ tokens) rest
  -- CLASS t
  class : {read whole : Forward} {expr : Expr} {tokens behind rest : Tokens} (t : Token) → t.kind ≡ word (codes "CLASS") → read.class ≡ None
      → IsOperand expr tokens behind → AreOptions (record read { class = Some expr }) whole behind rest → AreOptions read whole (t ∷ tokens) rest
  -- MESSAGE t
  message : {read whole : Forward} {expr : Expr} {tokens behind rest : Tokens} (t : Token) → t.kind ≡ word (codes "MESSAGE")
      → read.message ≡ None → IsOperand expr tokens behind → AreOptions (record read { message = Some expr }) whole behind rest
      → AreOptions read whole (t ∷ tokens) rest
  -- ARGUMENTS t
  arguments : {read whole : Forward} {expr : Expr} {tokens behind rest : Tokens} (t : Token) → t.kind ≡ word (codes "ARGUMENTS")
      → read.args ≡ f.Own → IsOperand expr tokens behind → AreOptions (record read { args = f.Arguments expr }) whole behind rest
      → AreOptions read whole (t ∷ tokens) rest
  -- ARRAY (args)
  array : {read whole : Forward} {args : List (Option Expr)} {tokens behind rest : Tokens} (t u : Token) → t.kind ≡ word (codes "ARRAY")
      → u.kind ≡ k.LeftParen → read.args ≡ f.Own → AreArgs k.RightParen args tokens behind
      → AreOptions (record read { args = f.Array args }) whole behind rest → AreOptions read whole (t ∷ (u ∷ tokens)) rest
  -- CONTINUE
  continue : {read whole : Forward} {tokens rest : Tokens} (t : Token) → t.kind ≡ word (codes "CONTINUE") → read.goes_on ≡ false
      → AreOptions (record read { goes_on = true }) whole tokens rest → AreOptions read whole (t ∷ tokens) rest

-- FORWARD and its options
pub data IsForward : Forward → Tokens → Tokens → Type 0 where
  forward : {whole : Forward} {tokens rest : Tokens} (t : Token) → t.kind ≡ word (codes "FORWARD") → AreOptions no_options whole tokens rest
      → IsForward whole (t ∷ tokens) rest
