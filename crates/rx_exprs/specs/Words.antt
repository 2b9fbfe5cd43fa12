-- Words, by which the parser reads terms and the names of functions.
use Rattle.std.specs.Prelude.{ℕ, Bool, true, false, if◌then◌else◌, List, [], ◌∷◌, ◌++◌, Option, Some, None, Ok, Err}
use Rattle.rx_tree.specs.declared.name.Name.TheVariants as n
use Rattle.rx_tree.specs.declared.value.Value.TheVariants.{Str}
use Rattle.rx_tree.specs.declared.token.TokenKind.{TokenKind}
use Rattle.rx_tree.specs.declared.token.TokenKind.TheVariants as k
use Rattle.rx_tree.specs.declared.expr.Expr.{Expr}
use Rattle.rx_tree.specs.declared.expr.Expr.TheVariants as e
use Rattle.rx_tree.specs.declared.stops.Stops.{Stops}
use Rattle.rx_tree.specs.StopWords.{is_stop}
use Rattle.rx_tree.specs.Operators.{Tokens}
use Rattle.rx_tree.specs.Terms.{dotted}
use Rattle.rx_exprs.specs.declared.words.Word.{Word}
use Rattle.rx_exprs.specs.declared.words.Word.TheVariants as w
use Rattle.rx_exprs.specs.Reader.{Outcome, refusal}

abbrev pub word_of : TokenKind → Option Word
word_of (k.Simple name) = Some (w.Name (n.Simple name))
word_of (k.Stem stem) = Some (w.Name (n.Stem stem))
word_of (k.Compound stem tail) = Some (w.Name (n.Compound stem tail))
word_of (k.Constant text) = Some (w.Constant text)
word_of (k.Environment name) = Some (w.Environment name)
word_of (k.Quoted text) = Some (w.Quoted text)
word_of _ = None

abbrev pub worded : Option Word → Tokens → Tokens → Outcome Word
worded None here behind = Err (refusal 35 here)
worded (Some word) here behind = Ok (word, behind)

abbrev pub word_at : Stops → Tokens → Outcome Word
word_at stops [] = Err (refusal 35 [])
word_at stops (t ∷ behind) = if is_stop stops t.kind then Err (refusal 35 (t ∷ behind)) else worded (word_of t.kind) (t ∷ behind) behind

-- the term that a word is
abbrev pub word_term : Word → Expr
word_term (w.Name name) = e.Name name
word_term (w.Constant text) = e.Const (Str text)
word_term (w.Environment name) = e.Environment name
word_term (w.Quoted text) = e.Const (Str text)

-- the name of a function, as its word is written
abbrev pub word_name : Word → List ℕ
word_name (w.Name (n.Simple name)) = name
word_name (w.Name (n.Stem stem)) = stem
word_name (w.Name (n.Compound stem tail)) = stem ++ dotted tail
word_name (w.Constant text) = text
word_name (w.Environment name) = name
word_name (w.Quoted text) = text

abbrev pub word_is_string : Word → Bool
word_is_string (w.Quoted text) = true
word_is_string _ = false

abbrev pub word_function : Word → List (Option Expr) → Expr
word_function word args = e.Function (word_name word) (word_is_string word) args
