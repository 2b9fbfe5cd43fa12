-- Which tokens directives are written with. Each fact says that the tokens begin with those of a directive, or of a part of one,
-- and which rest stands behind it.
use Rattle.std.specs.Prelude.{◌≡◌, ◌≢◌, ℕ, Bool, true, false, ◌||◌, if◌then◌else◌, List, [], ◌∷◌, Option, Some, None, is_some, codes}
use Rattle.rx_tree.specs.declared.name.Name.{Name}
use Rattle.rx_tree.specs.declared.value.Value.TheVariants.{Str}
use Rattle.rx_tree.specs.declared.token.Oper.{Oper}
use Rattle.rx_tree.specs.declared.token.Token.{Token}
use Rattle.rx_tree.specs.declared.token.TokenKind.{TokenKind}
use Rattle.rx_tree.specs.declared.token.TokenKind.TheVariants as k
use Rattle.rx_tree.specs.declared.expr.Expr.{Expr}
use Rattle.rx_tree.specs.declared.expr.Expr.TheVariants as e
use Rattle.rx_tree.specs.Operators.{Tokens}
use Rattle.rx_tree.specs.Terms.{name_of}
use Rattle.rx_clause_tree.specs.declared.clause.Body.{Body}
use Rattle.rx_clause_tree.specs.ClauseWords.{word, is_word, is_clause_end, behind_end}
use Rattle.rx_clause_tree.specs.Bodies.{IsBody}
use Rattle.rx_directives.specs.declared.words.OptionWord.{OptionWord}
use Rattle.rx_directives.specs.declared.directive.Options.{Options}
use Rattle.rx_directives.specs.declared.directive.Superclass.{Superclass}
use Rattle.rx_directives.specs.declared.directive.ClassHead.{ClassHead}
use Rattle.rx_directives.specs.declared.directive.AttributeName.{AttributeName}
use Rattle.rx_directives.specs.declared.directive.DirectiveKind.{DirectiveKind}
use Rattle.rx_directives.specs.declared.directive.DirectiveKind.TheVariants as d
use Rattle.rx_directives.specs.declared.directive.Directive.{Directive}
use Rattle.rx_directives.specs.DirectiveWords.{title_of, attribute_of, sign_at, digits_of, value_of, option_of, no_options, with_option}

-- ---- options of methods and attributes

-- The options behind those that were read already, each once and in any order, and the end of the clause.
pub data AreOptions : Options → Options → Tokens → Tokens → Type 0 where
  no_option : {read : Options} {rest : Tokens} (t : Token) → is_clause_end t.kind ≡ true → AreOptions read read (t ∷ rest) rest
  option : {read now whole : Options} {said : OptionWord} {tokens rest : Tokens} (t : Token) → option_of t.kind ≡ Some said
      → with_option said read ≡ Some now → AreOptions now whole tokens rest → AreOptions read whole (t ∷ tokens) rest

-- ---- options of classes

-- PUBLIC, or the end of the clause
abbrev pub ends_mixins : TokenKind → Bool
ends_mixins kind = is_word (codes "PUBLIC") kind || is_clause_end kind

-- the names of INHERIT, in front of PUBLIC or the end of the clause
pub data AreMixins : List (List ℕ) → Tokens → Tokens → Type 0 where
  no_mixin : {rest : Tokens} (t : Token) → ends_mixins t.kind ≡ true → AreMixins [] (t ∷ rest) (t ∷ rest)
  mixin : {name : List ℕ} {names : List (List ℕ)} {tokens rest : Tokens} (t : Token) → ends_mixins t.kind ≡ false
      → title_of t.kind ≡ Some name → AreMixins names tokens rest → AreMixins (name ∷ names) (t ∷ tokens) rest

abbrev pub superclass : List ℕ → Bool → Superclass
superclass name is_mixin = record { name = name; mixin = is_mixin }

-- What is said of a class behind what was read already, each once and in any order, and the end of the clause. INHERIT is the
-- last, or has PUBLIC alone behind it.
pub data AreClassOptions : ClassHead → ClassHead → Tokens → Tokens → Type 0 where
  no_class_option : {read : ClassHead} {rest : Tokens} (t : Token) → is_clause_end t.kind ≡ true → AreClassOptions read read (t ∷ rest) rest
  -- SUBCLASS c
  subclass : {read whole : ClassHead} {name : List ℕ} {tokens rest : Tokens} (t u : Token) → t.kind ≡ word (codes "SUBCLASS")
      → read.superclass ≡ None → read.inherits ≡ [] → title_of u.kind ≡ Some name
      → AreClassOptions (record read { superclass = Some (superclass name false) }) whole tokens rest → AreClassOptions read whole (t ∷ (u ∷ tokens)) rest
  -- MIXINCLASS c
  mixinclass : {read whole : ClassHead} {name : List ℕ} {tokens rest : Tokens} (t u : Token) → t.kind ≡ word (codes "MIXINCLASS")
      → read.superclass ≡ None → read.inherits ≡ [] → title_of u.kind ≡ Some name
      → AreClassOptions (record read { superclass = Some (superclass name true) }) whole tokens rest → AreClassOptions read whole (t ∷ (u ∷ tokens)) rest
  -- INHERIT c ..
  inherit : {read whole : ClassHead} {names : List (List ℕ)} {tokens behind rest : Tokens} (t : Token) → t.kind ≡ word (codes "INHERIT")
      → read.inherits ≡ [] → AreMixins names tokens behind → names ≢ []
      → AreClassOptions (record read { inherits = names }) whole behind rest → AreClassOptions read whole (t ∷ tokens) rest
  -- PUBLIC
  public : {read whole : ClassHead} {tokens rest : Tokens} (t : Token) → t.kind ≡ word (codes "PUBLIC") → read.public ≡ false
      → AreClassOptions (record read { public = true }) whole tokens rest → AreClassOptions read whole (t ∷ tokens) rest

-- a class of which nothing was said
abbrev pub new_head : List ℕ → ClassHead
new_head name = record { name = name; superclass = None; inherits = []; public = false }

-- ---- constants and routines

-- the value of a constant
pub data IsValue : Expr → Tokens → Tokens → Type 0 where
  -- a string, or a constant
  plain : {text : List ℕ} {rest : Tokens} (t : Token) → value_of t.kind ≡ Some text → IsValue (e.Const (Str text)) (t ∷ rest) rest
  -- a sign, and a constant of digits alone
  signed : {sign : Oper} {digits : List ℕ} {rest : Tokens} (t u : Token) → sign_at t.kind ≡ Some sign → digits_of u.kind ≡ Some digits
      → IsValue (e.Prefix (sign ∷ []) (e.Const (Str digits))) (t ∷ (u ∷ rest)) rest

-- what stands behind `[PUBLIC]` and the end of the clause
abbrev pub behind_public : Tokens → Option Tokens
behind_public [] = None
behind_public (t ∷ rest) = if is_word (codes "PUBLIC") t.kind then behind_end rest else behind_end (t ∷ rest)

-- ---- directives

abbrev pub attribute_name : List ℕ → Name → AttributeName
attribute_name name variable = record { name = name; variable = variable }

-- An attribute's directive that says neither GET nor SET makes both methods, and no clause stands behind it.
pub data MayHave : Options → Body → Type 0 where
  said : {options : Options} {body : Body} → is_some options.access ≡ true → MayHave options body
  empty : {options : Options} {body : Body} → body.clauses ≡ [] → MayHave options body

pub data IsKind : DirectiveKind → Tokens → Tokens → Type 0 where
  -- ::CLASS name [SUBCLASS c | MIXINCLASS c] [INHERIT c ..] [PUBLIC]
  class : {head : ClassHead} {name : List ℕ} {tokens rest : Tokens} (t u : Token) → t.kind ≡ word (codes "CLASS") → title_of u.kind ≡ Some name
      → AreClassOptions (new_head name) head tokens rest → IsKind (d.Class head) (t ∷ (u ∷ tokens)) rest
  -- ::METHOD name [CLASS] [PRIVATE|PUBLIC] [GUARDED|UNGUARDED]; clauses
  method : {name : List ℕ} {options : Options} {body : Body} {tokens behind rest : Tokens} (t u : Token) → t.kind ≡ word (codes "METHOD")
      → title_of u.kind ≡ Some name → AreOptions no_options options tokens behind → options.access ≡ None → IsBody body behind rest
      → IsKind (d.Method name options body) (t ∷ (u ∷ tokens)) rest
  -- ::ATTRIBUTE name [GET|SET] [CLASS] [PRIVATE|PUBLIC] [GUARDED|UNGUARDED]; [clauses]
  attribute : {name : List ℕ} {variable : Name} {options : Options} {body : Body} {tokens behind rest : Tokens} (t u : Token)
      → t.kind ≡ word (codes "ATTRIBUTE") → title_of u.kind ≡ Some name → attribute_of u.kind ≡ Some variable
      → AreOptions no_options options tokens behind → IsBody body behind rest → MayHave options body
      → IsKind (d.Attribute (attribute_name name variable) options body) (t ∷ (u ∷ tokens)) rest
  -- ::CONSTANT name value
  constant : {name : List ℕ} {value : Expr} {tokens behind rest : Tokens} (t u : Token) → t.kind ≡ word (codes "CONSTANT")
      → title_of u.kind ≡ Some name → IsValue value tokens behind → behind_end behind ≡ Some rest
      → IsKind (d.Constant name value) (t ∷ (u ∷ tokens)) rest
  -- ::ROUTINE name [PUBLIC]; clauses
  routine : {name : List ℕ} {body : Body} {tokens behind rest : Tokens} (t u : Token) → t.kind ≡ word (codes "ROUTINE") → name_of u.kind ≡ Some name
      → behind_public tokens ≡ Some behind → IsBody body behind rest → IsKind (d.Routine name body) (t ∷ (u ∷ tokens)) rest

abbrev pub directive : ℕ → DirectiveKind → Directive
directive line kind = record { line = line; kind = kind }

-- Directives up to the end of the tokens, each behind its two colons.
pub data AreDirectives : List Directive → Tokens → Type 0 where
  no_directive : AreDirectives [] []
  one_directive : {kind : DirectiveKind} {directives : List Directive} {tokens rest : Tokens} (s : Token) → s.kind ≡ k.TwoColons
      → IsKind kind tokens rest → AreDirectives directives rest → AreDirectives (directive s.line kind ∷ directives) (s ∷ tokens)
