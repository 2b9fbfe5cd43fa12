-- PARSE, ARG and PULL with their templates, and the tokens that they are written with.
use Rattle.std.specs.Prelude.{◌≡◌, ℕ, Bool, true, false, List, [], ◌∷◌, Option, Some, None, codes}
use Rattle.rx_tree.specs.declared.name.Name.{Name}
use Rattle.rx_tree.specs.declared.token.Token.{Token}
use Rattle.rx_tree.specs.declared.token.Oper.TheVariants as o
use Rattle.rx_tree.specs.declared.token.TokenKind.{TokenKind}
use Rattle.rx_tree.specs.declared.token.TokenKind.TheVariants as k
use Rattle.rx_tree.specs.declared.expr.Expr.{Expr}
use Rattle.rx_clause_tree.specs.declared.template.Distance.{Distance}
use Rattle.rx_clause_tree.specs.declared.template.Distance.TheVariants as d
use Rattle.rx_clause_tree.specs.declared.template.TemplatePart.{TemplatePart}
use Rattle.rx_clause_tree.specs.declared.template.TemplatePart.TheVariants as p
use Rattle.rx_clause_tree.specs.declared.template.Template.{Template}
use Rattle.rx_clause_tree.specs.declared.template.ParseFrom.{ParseFrom}
use Rattle.rx_clause_tree.specs.declared.template.ParseFrom.TheVariants as f
use Rattle.rx_clause_tree.specs.declared.template.Parse.{Parse}
use Rattle.rx_tree.specs.declared.stops.Stops.TheVariants as s
use Rattle.rx_tree.specs.Operators.{Tokens}
use Rattle.rx_tree.specs.Expressions.{Fits}
use Rattle.rx_clause_tree.specs.ClauseWords.{word, variable_of, is_clause_end, is_equal}

-- ---- parts of templates

-- a variable in parentheses
pub data IsInParentheses : Name → Tokens → Tokens → Type 0 where
  in_parentheses : {name : Name} {rest : Tokens} (t u v : Token) → t.kind ≡ k.LeftParen → variable_of u.kind ≡ Some name → v.kind ≡ k.RightParen
      → IsInParentheses name (t ∷ (u ∷ (v ∷ rest))) rest

-- a number: a constant. Whether it is a whole number shows when it is used
pub data IsNumber : List ℕ → Tokens → Tokens → Type 0 where
  number : {rest : Tokens} (t : Token) (text : List ℕ) → t.kind ≡ k.Constant text → IsNumber text (t ∷ rest) rest

-- how far: a number, or a variable in parentheses
pub data IsDistance : Distance → Tokens → Tokens → Type 0 where
  by_number : {text : List ℕ} {tokens rest : Tokens} → IsNumber text tokens rest → IsDistance (d.Number text) tokens rest
  by_value : {name : Name} {tokens rest : Tokens} → IsInParentheses name tokens rest → IsDistance (d.Value name) tokens rest

pub data IsTemplatePart : TemplatePart → Tokens → Tokens → Type 0 where
  -- a variable
  target : {name : Name} {rest : Tokens} (t : Token) → variable_of t.kind ≡ Some name → IsTemplatePart (p.Target name) (t ∷ rest) rest
  -- a period
  period : {rest : Tokens} (t : Token) → t.kind ≡ k.Period → IsTemplatePart p.Period (t ∷ rest) rest
  -- a string
  literal : {rest : Tokens} (t : Token) (text : List ℕ) → t.kind ≡ k.Quoted text → IsTemplatePart (p.Literal text) (t ∷ rest) rest
  -- `(v)`
  pattern_of : {name : Name} {tokens rest : Tokens} → IsInParentheses name tokens rest → IsTemplatePart (p.Pattern name) tokens rest
  -- `n`
  at_number : {text : List ℕ} {tokens rest : Tokens} → IsNumber text tokens rest → IsTemplatePart (p.At (d.Number text)) tokens rest
  -- `=n` and `=(v)`
  at_distance : {distance : Distance} {tokens rest : Tokens} (t : Token) → is_equal t.kind ≡ true → IsDistance distance tokens rest
      → IsTemplatePart (p.At distance) (t ∷ tokens) rest
  -- `+n` and `+(v)`
  forward_by : {distance : Distance} {tokens rest : Tokens} (t : Token) → t.kind ≡ k.Operator o.Plus → IsDistance distance tokens rest
      → IsTemplatePart (p.Forward distance) (t ∷ tokens) rest
  -- `-n` and `-(v)`
  backward_by : {distance : Distance} {tokens rest : Tokens} (t : Token) → t.kind ≡ k.Operator o.Minus → IsDistance distance tokens rest
      → IsTemplatePart (p.Backward distance) (t ∷ tokens) rest

-- what a template ends at
abbrev pub ends_template : TokenKind → Bool
ends_template k.Comma = true
ends_template k.ClauseEnd = true
ends_template _ = false

-- parts side by side, up to a comma or the end of the clause, which isn't taken
pub data AreTemplateParts : List TemplatePart → Tokens → Tokens → Type 0 where
  no_template_part : {rest : Tokens} (t : Token) → ends_template t.kind ≡ true → AreTemplateParts [] (t ∷ rest) (t ∷ rest)
  template_part : {one : TemplatePart} {parts : List TemplatePart} {tokens behind rest : Tokens} → IsTemplatePart one tokens behind
      → AreTemplateParts parts behind rest → AreTemplateParts (one ∷ parts) tokens rest

-- templates with commas between them, and the end of the clause
pub data AreTemplates : List Template → Tokens → Tokens → Type 0 where
  last_template : {parts : List TemplatePart} {tokens rest : Tokens} (t : Token) → AreTemplateParts parts tokens (t ∷ rest)
      → is_clause_end t.kind ≡ true → AreTemplates (record { parts = parts } ∷ []) tokens rest
  next_template : {parts : List TemplatePart} {templates : List Template} {tokens behind rest : Tokens} (t : Token)
      → AreTemplateParts parts tokens (t ∷ behind) → t.kind ≡ k.Comma → AreTemplates templates behind rest
      → AreTemplates (record { parts = parts } ∷ templates) tokens rest

-- ---- where the texts come from

-- ARG, PULL, LINEIN, VAR v, and VALUE e WITH
pub data IsParseFrom : ParseFrom → Tokens → Tokens → Type 0 where
  from_arg : {rest : Tokens} (t : Token) → t.kind ≡ word (codes "ARG") → IsParseFrom f.Arg (t ∷ rest) rest
  from_pull : {rest : Tokens} (t : Token) → t.kind ≡ word (codes "PULL") → IsParseFrom f.Pull (t ∷ rest) rest
  from_linein : {rest : Tokens} (t : Token) → t.kind ≡ word (codes "LINEIN") → IsParseFrom f.LineIn (t ∷ rest) rest
  from_variable : {name : Name} {rest : Tokens} (t u : Token) → t.kind ≡ word (codes "VAR") → variable_of u.kind ≡ Some name
      → IsParseFrom (f.Var name) (t ∷ (u ∷ rest)) rest
  from_value : {expr : Expr} {tokens rest : Tokens} (t u : Token) → t.kind ≡ word (codes "VALUE") → Fits s.With tokens expr (u ∷ rest)
      → u.kind ≡ word (codes "WITH") → IsParseFrom (f.Value expr) (t ∷ tokens) rest

-- Arguments have a template each, and another text has one.
abbrev pub has_templates : ParseFrom → List Template → Bool
has_templates f.Arg templates = true
has_templates _ (template ∷ []) = true
has_templates _ _ = false

pub data IsParse : Parse → Tokens → Tokens → Type 0 where
  -- PARSE origin template
  parse : {from : ParseFrom} {templates : List Template} {tokens behind rest : Tokens} (t : Token) → t.kind ≡ word (codes "PARSE")
      → IsParseFrom from tokens behind → AreTemplates templates behind rest → has_templates from templates ≡ true
      → IsParse (record { upper = false; from = from; templates = templates }) (t ∷ tokens) rest
  -- PARSE UPPER origin template
  parse_upper : {from : ParseFrom} {templates : List Template} {tokens behind rest : Tokens} (t u : Token) → t.kind ≡ word (codes "PARSE")
      → u.kind ≡ word (codes "UPPER") → IsParseFrom from tokens behind → AreTemplates templates behind rest → has_templates from templates ≡ true
      → IsParse (record { upper = true; from = from; templates = templates }) (t ∷ (u ∷ tokens)) rest
  -- ARG templates
  arg : {templates : List Template} {tokens rest : Tokens} (t : Token) → t.kind ≡ word (codes "ARG") → AreTemplates templates tokens rest
      → IsParse (record { upper = true; from = f.Arg; templates = templates }) (t ∷ tokens) rest
  -- PULL template
  pull : {template : Template} {tokens rest : Tokens} (t : Token) → t.kind ≡ word (codes "PULL") → AreTemplates (template ∷ []) tokens rest
      → IsParse (record { upper = true; from = f.Pull; templates = template ∷ [] }) (t ∷ tokens) rest
