-- Which terms and names single tokens are.
use Rattle.std.specs.Prelude.{ℕ, Bool, true, false, List, [], ◌∷◌, ◌++◌, Option, Some, None}
use Rattle.rx_tree.specs.declared.name.Part.{Part}
use Rattle.rx_tree.specs.declared.name.Part.TheVariants.{Fixed, Of}
use Rattle.rx_tree.specs.declared.name.Name.TheVariants as n
use Rattle.rx_tree.specs.declared.value.Value.TheVariants.{Str}
use Rattle.rx_tree.specs.declared.token.TokenKind.{TokenKind}
use Rattle.rx_tree.specs.declared.token.TokenKind.TheVariants as k
use Rattle.rx_tree.specs.declared.expr.Expr.{Expr}
use Rattle.rx_tree.specs.declared.expr.Expr.TheVariants as e
use Rattle.rx_tree.specs.Operators.{Tokens}

-- the term that a token is by itself
abbrev pub term_of : TokenKind → Option Expr
term_of (k.Simple name) = Some (e.Name (n.Simple name))
term_of (k.Stem stem) = Some (e.Name (n.Stem stem))
term_of (k.Compound stem tail) = Some (e.Name (n.Compound stem tail))
term_of (k.Constant text) = Some (e.Const (Str text))
term_of (k.Environment name) = Some (e.Environment name)
term_of (k.Quoted text) = Some (e.Const (Str text))
term_of _ = None

abbrev pub part_bytes : Part → List ℕ
part_bytes (Fixed text) = text
part_bytes (Of name) = name

-- a tail as it is written, with a period between two parts
abbrev pub dotted : List Part → List ℕ
dotted [] = []
dotted (part ∷ []) = part_bytes part
dotted (part ∷ (next ∷ parts)) = part_bytes part ++ (46 ∷ dotted (next ∷ parts))

-- the name of a message or a function that a symbol or a string is
abbrev pub name_of : TokenKind → Option (List ℕ)
name_of (k.Simple name) = Some name
name_of (k.Stem stem) = Some stem
name_of (k.Compound stem tail) = Some (stem ++ dotted tail)
name_of (k.Constant text) = Some text
name_of (k.Environment name) = Some name
name_of (k.Quoted text) = Some text
name_of _ = None

abbrev pub is_string : TokenKind → Bool
is_string (k.Quoted text) = true
is_string _ = false

-- the symbol behind `:` whose value is the class that a message's search begins at
abbrev pub class_of : TokenKind → Option (List ℕ)
class_of (k.Simple name) = Some name
class_of (k.Environment name) = Some name
class_of _ = None

-- what stands behind a parenthesis that directly follows, with no blank before it
abbrev pub direct_call : TokenKind → Bool → Tokens → Option Tokens
direct_call k.LeftParen false behind = Some behind
direct_call _ _ behind = None

abbrev pub call_at : Tokens → Option Tokens
call_at [] = None
call_at (t ∷ behind) = direct_call t.kind t.blank behind

abbrev pub is_colon : TokenKind → Bool
is_colon k.Colon = true
is_colon _ = false

abbrev pub colon_follows : Tokens → Bool
colon_follows [] = false
colon_follows (t ∷ behind) = is_colon t.kind
