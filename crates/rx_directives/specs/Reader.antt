-- The reader of directives, which refuses with the number of an error.
use Rattle.std.specs.Prelude.{ℕ, zero, suc, ◌+◌, Bool, true, false, ◌&&◌, not, if◌then◌else◌, List, [], ◌∷◌, length, Option, Some, None, is_some, Ok, Err, codes}
use Rattle.rx_tree.specs.declared.name.Name.{Name}
use Rattle.rx_tree.specs.declared.value.Value.TheVariants.{Str}
use Rattle.rx_tree.specs.declared.token.Oper.{Oper}
use Rattle.rx_tree.specs.declared.token.Token.{Token}
use Rattle.rx_tree.specs.declared.token.TokenKind.{TokenKind}
use Rattle.rx_tree.specs.declared.expr.Expr.{Expr}
use Rattle.rx_tree.specs.declared.expr.Expr.TheVariants as e
use Rattle.rx_tree.specs.Operators.{Tokens}
use Rattle.rx_tree.specs.Terms.{name_of}
use Rattle.rx_exprs.specs.Reader.{Outcome, and_then, on_some, lack, refusal, no_turns}
use Rattle.rx_clause_tree.specs.declared.clause.Body.{Body}
use Rattle.rx_clause_tree.specs.declared.clause.Clause.{Clause}
use Rattle.rx_clause_tree.specs.ClauseWords.{is_clause_end, behind_end}
use Rattle.rx_clause_tree.specs.Bodies.{is_two_colons}
use Rattle.rx_clauses.specs.Parts.{behind_symbol, taken, to_end}
use Rattle.rx_clauses.specs.Reader.{body}
use Rattle.rx_directives.specs.declared.words.OptionWord.{OptionWord}
use Rattle.rx_directives.specs.declared.directive.Options.{Options}
use Rattle.rx_directives.specs.declared.directive.Superclass.{Superclass}
use Rattle.rx_directives.specs.declared.directive.ClassHead.{ClassHead}
use Rattle.rx_directives.specs.declared.directive.AttributeName.{AttributeName}
use Rattle.rx_directives.specs.declared.directive.DirectiveKind.{DirectiveKind}
use Rattle.rx_directives.specs.declared.directive.DirectiveKind.TheVariants as d
use Rattle.rx_directives.specs.declared.directive.Directive.{Directive}
use Rattle.rx_directives.specs.DirectiveWords.{title_of, attribute_of, sign_at, digits_of, value_of, option_of, no_options, with_option}
use Rattle.rx_directives.specs.Directives.{ends_mixins, superclass, new_head, attribute_name, directive}

-- ---- single tokens

-- the name of a class or a method
abbrev pub title : Tokens → Outcome (List ℕ)
title [] = Err (lack 19 [])
title (t ∷ behind) = taken (title_of t.kind) 19 (t ∷ behind) behind

-- the name of a routine
abbrev pub routine_name : Tokens → Outcome (List ℕ)
routine_name [] = Err (lack 19 [])
routine_name (t ∷ behind) = taken (name_of t.kind) 19 (t ∷ behind) behind

abbrev pub named : Option (List ℕ) → Option Name → Tokens → Tokens → Outcome AttributeName
named (Some name) (Some variable) here behind = Ok (attribute_name name variable, behind)
named _ _ here behind = Err (lack 19 here)

-- the name of an attribute
abbrev pub attribute_at : Tokens → Outcome AttributeName
attribute_at [] = Err (lack 19 [])
attribute_at (t ∷ behind) = named (title_of t.kind) (attribute_of t.kind) (t ∷ behind) behind

-- ---- options of methods and attributes

abbrev pub adding : Option OptionWord → Options → Option Options
adding None read = None
adding (Some said) read = with_option said read

-- one option more
abbrev pub option : Options → Tokens → Outcome Options
option read [] = Err (lack 25 [])
option read (t ∷ behind) = taken (adding (option_of t.kind) read) 25 (t ∷ behind) behind

-- the options behind those that were read already, and the end of the clause
abbrev pub options : Options → Tokens → Outcome Options
options read [] = Err (lack 25 [])
options read (t ∷ behind) =
    if is_clause_end t.kind then Ok (read, behind)
    else on_some (adding (option_of t.kind) read) (Err (lack 25 (t ∷ behind))) (λ now. options now behind)

-- ---- options of classes

abbrev pub next_mixin : Option (List ℕ) → Tokens → Outcome (List (List ℕ)) → Outcome (List (List ℕ))
next_mixin None here others = Err (lack 19 here)
next_mixin (Some name) here others = and_then others (λ names rest. Ok (name ∷ names, rest))

-- whether the names of INHERIT end here
abbrev pub sees_mixins_end : Tokens → Bool
sees_mixins_end [] = false
sees_mixins_end (t ∷ behind) = ends_mixins t.kind

-- the names of INHERIT
abbrev pub mixins : Tokens → Outcome (List (List ℕ))
mixins [] = Err (lack 19 [])
mixins (t ∷ behind) = if ends_mixins t.kind then Ok ([], t ∷ behind) else next_mixin (title_of t.kind) (t ∷ behind) (mixins behind)

abbrev pub no_names : {A : Type 0} → List A → Bool
no_names [] = true
no_names (name ∷ names) = false

-- one name at least
abbrev pub some_mixins : Tokens → Outcome (List (List ℕ))
some_mixins tokens = and_then (mixins tokens) (λ names rest. if no_names names then Err (lack 19 rest) else Ok (names, rest))

-- a superclass behind its word, where none was said before and INHERIT wasn't
abbrev pub superclass_of : ClassHead → Bool → Tokens → Tokens → Outcome ClassHead
superclass_of read mixin here behind =
    if is_some read.superclass then Err (lack 25 here)
    else (if no_names read.inherits then and_then (title behind) (λ name rest. Ok (record read { superclass = Some (superclass name mixin) }, rest))
    else Err (lack 25 here))

abbrev pub inherit_of : ClassHead → Tokens → Tokens → Outcome ClassHead
inherit_of read here behind =
    if no_names read.inherits then and_then (some_mixins behind) (λ names rest. Ok (record read { inherits = names }, rest)) else Err (lack 25 here)

abbrev pub public_of : ClassHead → Tokens → Tokens → Outcome ClassHead
public_of read here behind = if read.public then Err (lack 25 here) else Ok (record read { public = true }, behind)

-- one thing more that is said of a class
abbrev pub class_option : ClassHead → Tokens → Outcome ClassHead
class_option read here =
    on_some (behind_symbol (codes "SUBCLASS") here)
    (on_some (behind_symbol (codes "MIXINCLASS") here)
    (on_some (behind_symbol (codes "INHERIT") here)
    (on_some (behind_symbol (codes "PUBLIC") here) (Err (lack 25 here))
    (λ behind. public_of read here behind))
    (λ behind. inherit_of read here behind))
    (λ behind. superclass_of read true here behind))
    (λ behind. superclass_of read false here behind)

-- what is said behind what was read already, and the end of the clause
abbrev pub class_options : ℕ → ClassHead → Tokens → Outcome ClassHead
class_options zero read tokens = no_turns
class_options (suc more) read tokens =
    on_some (behind_end tokens) (and_then (class_option read tokens) (λ now behind. class_options more now behind)) (λ rest. Ok (read, rest))

unfoldable pub class_options_form : ClassHead → Tokens → Outcome ClassHead
class_options_form read tokens = class_options (length tokens + 1) read tokens

-- ---- directives

abbrev pub class : Tokens → Outcome DirectiveKind
class tokens =
    and_then (title tokens) (λ name behind. and_then (class_options_form (new_head name) behind) (λ head rest. Ok (d.Class head, rest)))

-- GET and SET are said of attributes alone
abbrev pub method_options : Tokens → Outcome Options
method_options tokens =
    and_then (options no_options tokens) (λ options rest. if is_some options.access then Err (lack 25 tokens) else Ok (options, rest))

abbrev pub method : Tokens → Outcome DirectiveKind
method tokens =
    and_then (title tokens) (λ name behind.
    and_then (method_options behind) (λ options others.
    and_then (body others) (λ clauses rest. Ok (d.Method name options clauses, rest))))

-- clauses behind an attribute's directive that says neither GET nor SET are refused
abbrev pub attribute_body : Options → Tokens → Outcome Body
attribute_body options tokens =
    and_then (body tokens) (λ found rest. if is_some options.access then Ok (found, rest) else (if no_names found.clauses then Ok (found, rest) else Err (lack 99 tokens)))

abbrev pub attribute : Tokens → Outcome DirectiveKind
attribute tokens =
    and_then (attribute_at tokens) (λ name behind.
    and_then (options no_options behind) (λ options others.
    and_then (attribute_body options others) (λ clauses rest. Ok (d.Attribute name options clauses, rest))))

abbrev pub digits_at : Oper → Tokens → Outcome Expr
digits_at sign [] = Err (lack 19 [])
digits_at sign (t ∷ behind) = on_some (digits_of t.kind) (Err (lack 19 (t ∷ behind))) (λ digits. Ok (e.Prefix (sign ∷ []) (e.Const (Str digits)), behind))

abbrev pub plain_or_signed : Option Oper → Option (List ℕ) → Tokens → Tokens → Outcome Expr
plain_or_signed (Some sign) plain here behind = digits_at sign behind
plain_or_signed None (Some text) here behind = Ok (e.Const (Str text), behind)
plain_or_signed None None here behind = Err (lack 19 here)

abbrev pub value : Tokens → Outcome Expr
value [] = Err (lack 19 [])
value (t ∷ behind) = plain_or_signed (sign_at t.kind) (value_of t.kind) (t ∷ behind) behind

abbrev pub constant : Tokens → Outcome DirectiveKind
constant tokens =
    and_then (title tokens) (λ name behind. and_then (value behind) (λ value others. to_end (d.Constant name value) others))

-- the end of the clause
abbrev pub option_end : Tokens → Outcome (Unit {0})
option_end tokens = on_some (behind_end tokens) (Err (lack 25 tokens)) (λ rest. Ok (tt, rest))

-- `[PUBLIC]` and the end of the clause
abbrev pub public_end : Tokens → Outcome (Unit {0})
public_end tokens = on_some (behind_symbol (codes "PUBLIC") tokens) (option_end tokens) (λ rest. option_end rest)

abbrev pub routine : Tokens → Outcome DirectiveKind
routine tokens =
    and_then (routine_name tokens) (λ name behind.
    and_then (public_end behind) (λ _ others.
    and_then (body others) (λ clauses rest. Ok (d.Routine name clauses, rest))))

-- a directive behind its two colons
unfoldable pub kind : Tokens → Outcome DirectiveKind
kind tokens =
    on_some (behind_symbol (codes "CLASS") tokens)
    (on_some (behind_symbol (codes "METHOD") tokens)
    (on_some (behind_symbol (codes "ATTRIBUTE") tokens)
    (on_some (behind_symbol (codes "CONSTANT") tokens)
    (on_some (behind_symbol (codes "ROUTINE") tokens) (Err (lack 99 tokens))
    (λ behind. routine behind))
    (λ behind. constant behind))
    (λ behind. attribute behind))
    (λ behind. method behind))
    (λ behind. class behind)

-- A clause that stands where a directive should is refused.
abbrev pub one_directive : Tokens → Outcome Directive
one_directive [] = Err (lack 99 [])
one_directive (s ∷ tokens) =
    if is_two_colons s.kind then and_then (kind tokens) (λ found rest. Ok (directive s.line found, rest)) else Err (lack 99 (s ∷ tokens))

abbrev pub none_left : Tokens → Bool
none_left [] = true
none_left (t ∷ tokens) = false

-- directives up to the end of the tokens
abbrev pub directives : ℕ → Tokens → Outcome (List Directive)
directives zero tokens = no_turns
directives (suc more) tokens =
    if none_left tokens then Ok ([], tokens)
    else and_then (one_directive tokens) (λ first others. and_then (directives more others) (λ list rest. Ok (first ∷ list, rest)))

unfoldable pub directives_form : Tokens → Outcome (List Directive)
directives_form tokens = directives (length tokens + 1) tokens
