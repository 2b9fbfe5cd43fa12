-- What single tokens are where a directive is read.
use Rattle.std.specs.Prelude.{ℕ, Bool, true, false, ◌&&◌, if◌then◌else◌, List, [], ◌∷◌, Option, Some, None, option_map, codes}
use Rattle.std.specs.List.{list_all}
use Rattle.std.specs.Str.{bytes_eq, str_to_ascii_uppercase}
use Rattle.rx_tree.specs.declared.name.Name.{Name}
use Rattle.rx_tree.specs.declared.token.Oper.{Oper}
use Rattle.rx_tree.specs.declared.token.Oper.TheVariants as o
use Rattle.rx_tree.specs.declared.token.TokenKind.{TokenKind}
use Rattle.rx_tree.specs.declared.token.TokenKind.TheVariants as k
use Rattle.rx_tree.specs.Letters.{begins, is_digit, is_symbol_byte}
use Rattle.rx_tree.specs.Symbols.{symbol_of}
use Rattle.rx_tree.specs.Terms.{name_of}
use Rattle.rx_clause_tree.specs.ClauseWords.{variable_of}
use Rattle.rx_directives.specs.declared.directive.Options.{Options}
use Rattle.rx_directives.specs.declared.directive.Visibility.{Visibility}
use Rattle.rx_directives.specs.declared.directive.Visibility.TheVariants.{Public, Private}
use Rattle.rx_directives.specs.declared.directive.Guarding.{Guarding}
use Rattle.rx_directives.specs.declared.directive.Guarding.TheVariants.{Guarded, Unguarded}
use Rattle.rx_directives.specs.declared.directive.Access.{Access}
use Rattle.rx_directives.specs.declared.directive.Access.TheVariants.{Get, Set}
use Rattle.rx_directives.specs.declared.words.OptionWord.{OptionWord}
use Rattle.rx_directives.specs.declared.words.OptionWord.TheVariants as w

-- ---- names

-- The name of a class or a method is a symbol's or a string's text, in upper case.
abbrev pub title_of : TokenKind → Option (List ℕ)
title_of kind = option_map str_to_ascii_uppercase (name_of kind)

-- the variable that a string spells: each of its bytes stands in the symbol of one
abbrev pub spelled_variable : List ℕ → Option Name
spelled_variable text =
    if begins is_symbol_byte text && list_all is_symbol_byte text then variable_of (symbol_of (str_to_ascii_uppercase text)) else None

-- The variable of an attribute is that of a symbol, or the one that a string spells.
abbrev pub attribute_of : TokenKind → Option Name
attribute_of (k.Quoted text) = spelled_variable text
attribute_of kind = variable_of kind

-- ---- the values of constants

abbrev pub sign_at : TokenKind → Option Oper
sign_at (k.Operator o.Plus) = Some o.Plus
sign_at (k.Operator o.Minus) = Some o.Minus
sign_at _ = None

-- a constant of digits alone
abbrev pub digits_of : TokenKind → Option (List ℕ)
digits_of (k.Constant text) = if list_all is_digit text then Some text else None
digits_of _ = None

-- a string, or a constant
abbrev pub value_of : TokenKind → Option (List ℕ)
value_of (k.Quoted text) = Some text
value_of (k.Constant text) = Some text
value_of _ = None

-- ---- options

abbrev pub option_words : List (List ℕ × OptionWord)
option_words =
    (codes "CLASS", w.Class) ∷ ((codes "PUBLIC", w.Public) ∷ ((codes "PRIVATE", w.Private) ∷ ((codes "GUARDED", w.Guarded)
    ∷ ((codes "UNGUARDED", w.Unguarded) ∷ ((codes "GET", w.Get) ∷ ((codes "SET", w.Set) ∷ []))))))

-- what stands beside a name in a table
abbrev pub beside : List ℕ → List (List ℕ × OptionWord) → Option OptionWord
beside name [] = None
beside name (entry ∷ table) = if bytes_eq entry.0 name then Some entry.1 else beside name table

-- the word of an option that a token is
abbrev pub option_of : TokenKind → Option OptionWord
option_of (k.Simple name) = beside name option_words
option_of _ = None

abbrev pub no_options : Options
no_options = record { class_side = false; visibility = None; guarding = None; access = None }

-- None where the word, or its opposite, was said before

abbrev pub with_class : Options → Option Options
with_class read = if read.class_side then None else Some (record read { class_side = true })

abbrev pub unless_said : {A : Type 0} → Option A → Options → Option Options
unless_said None now = Some now
unless_said (Some said) now = None

abbrev pub with_visibility : Visibility → Options → Option Options
with_visibility visibility read = unless_said read.visibility (record read { visibility = Some visibility })

abbrev pub with_guarding : Guarding → Options → Option Options
with_guarding guarding read = unless_said read.guarding (record read { guarding = Some guarding })

abbrev pub with_access : Access → Options → Option Options
with_access access read = unless_said read.access (record read { access = Some access })

-- what is said with a word more: each at most once, and not with its opposite
abbrev pub with_option : OptionWord → Options → Option Options
with_option w.Class read = with_class read
with_option w.Public read = with_visibility Public read
with_option w.Private read = with_visibility Private read
with_option w.Guarded read = with_guarding Guarded read
with_option w.Unguarded read = with_guarding Unguarded read
with_option w.Get read = with_access Get read
with_option w.Set read = with_access Set read
