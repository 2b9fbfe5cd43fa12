-- Directives: what is written is read, and what is read is written.
use Rattle.std.proofs.Common.{◌≡◌, ◌≢◌, ℕ, zero, suc, ◌+◌, ◌<◌, ◌≤◌, Bool, true, false, if◌then◌else◌, List, [], ◌∷◌, ◌++◌, length, Option, Some, None, is_some, Ok, Err, refl, sym, ◌∙◌, ap, subst, arith}
use Rattle.std.specs.Prelude.{codes}
use Rattle.std.proofs.lemmas.List.{length-append}
use Rattle.rx_tree.specs.declared.name.Name.{Name}
use Rattle.rx_tree.specs.declared.value.Value.TheVariants.{Str}
use Rattle.rx_tree.specs.declared.token.Oper.{Oper}
use Rattle.rx_tree.specs.declared.token.Token.{Token}
use Rattle.rx_tree.specs.declared.token.TokenKind.{TokenKind}
use Rattle.rx_tree.specs.declared.token.TokenKind.TheVariants as k
use Rattle.rx_tree.specs.declared.expr.Expr.{Expr}
use Rattle.rx_tree.specs.declared.expr.Expr.TheVariants as e
use Rattle.rx_tree.specs.Operators.{Tokens}
use Rattle.rx_tree.specs.Terms.{name_of}
use Rattle.rx_exprs.specs.Reader.{Outcome, and_then, on_some, lack}
use Rattle.rx_exprs.proofs.Steps.{step}
use Rattle.rx_exprs.proofs.Tables.{some-is}
use Rattle.rx_clause_tree.specs.declared.clause.Body.{Body}
use Rattle.rx_clause_tree.specs.declared.clause.Clause.{Clause}
use Rattle.rx_clause_tree.specs.ClauseWords.{word, is_word, is_clause_end, behind_end}
use Rattle.rx_clause_tree.specs.Bodies.{IsBody, is_two_colons}
use Rattle.rx_clauses.specs.Parts.{taken, behind_symbol}
use Rattle.rx_clauses.specs.Reader.{body}
use Rattle.rx_clauses.proofs.Sure.{Sure, sure-then, sure-some, sure-if, sure-as, as-read, so-read, refused, found, outcome}
use Rattle.rx_clauses.proofs.Words.{end-shorter, symbol-shorter}
use Rattle.rx_clauses.proofs.PartsLaw.{Tabled, taken-sure, at-end, to-end-sure}
use Rattle.rx_clauses.proofs.PlainLaw.{at-word, at-token}
use Rattle.rx_clauses.proofs.BodiesLaw.{body-read, body-written}
use Rattle.rx_clauses.proofs.Fronts.{body-front}
use Rattle.rx_directives.specs.declared.words.OptionWord.{OptionWord}
use Rattle.rx_directives.specs.declared.directive.Options.{Options}
use Rattle.rx_directives.specs.declared.directive.ClassHead.{ClassHead}
use Rattle.rx_directives.specs.declared.directive.AttributeName.{AttributeName}
use Rattle.rx_directives.specs.declared.directive.DirectiveKind.{DirectiveKind}
use Rattle.rx_directives.specs.declared.directive.DirectiveKind.TheVariants as d
use Rattle.rx_directives.specs.declared.directive.Directive.{Directive}
use Rattle.rx_directives.specs.DirectiveWords.{title_of, attribute_of, sign_at, digits_of, value_of, option_of, no_options, with_option}
use Rattle.rx_directives.specs.Directives as i
use Rattle.rx_directives.specs.Directives.{AreOptions, ends_mixins, AreMixins, superclass, AreClassOptions, new_head, IsValue, behind_public, attribute_name, MayHave, IsKind, directive, AreDirectives}
use Rattle.rx_directives.specs.Reader as r

-- ---- names

pub title-sure : (tokens : Tokens) → Sure (λ one rest. Tabled title_of one tokens rest) (r.title tokens)
title-sure [] = refused _
title-sure (t ∷ behind) = taken-sure title_of 19 t behind

pub routine-name-sure : (tokens : Tokens) → Sure (λ one rest. Tabled name_of one tokens rest) (r.routine_name tokens)
routine-name-sure [] = refused _
routine-name-sure (t ∷ behind) = taken-sure name_of 19 t behind

-- the tokens begin with one that names an attribute
record Named (one : AttributeName) (tokens rest : Tokens) : Type 0 where
  pub token : Token
  pub is : tokens ≡ token ∷ rest
  pub name : List ℕ
  pub variable : Name
  pub title : title_of token.kind ≡ Some name
  pub names : attribute_of token.kind ≡ Some variable
  pub one_is : one ≡ attribute_name name variable

attribute-sure : (tokens : Tokens) → Sure (λ one rest. Named one tokens rest) (r.attribute_at tokens)
attribute-sure [] = refused _
attribute-sure (t ∷ behind) = go (title_of t.kind) (attribute_of t.kind) refl refl
  where
    go : (name : Option (List ℕ)) (variable : Option Name) → title_of t.kind ≡ name → attribute_of t.kind ≡ variable
        → Sure (λ one rest. Named one (t ∷ behind) rest) (r.named name variable (t ∷ behind) behind)
    go (Some name) (Some variable) p q =
        found (attribute_name name variable) behind (record { token = t; is = refl; name = name; variable = variable; title = p; names = q; one_is = refl })
    go (Some name) None p q = refused _
    go None variable p q = refused _

-- ---- options of methods and attributes

no-end : (kind : TokenKind) (said : OptionWord) → option_of kind ≡ Some said → is_clause_end kind ≡ false
no-end k.ClauseEnd said is = cc
no-end _ said is = refl

pub options-read : {read whole : Options} {tokens rest : Tokens} → AreOptions read whole tokens rest → r.options read tokens ≡ Ok (whole, rest)
options-read (i.no_option t is) = rw is
options-read (i.option {said = said} t is adds others) = rw (no-end t.kind said is, is, adds, options-read others)

pub options-sure : (read : Options) (tokens : Tokens) → Sure (λ whole rest. AreOptions read whole tokens rest) (r.options read tokens)
options-sure read [] = refused _
options-sure read (t ∷ behind) =
    sure-if _ _ _ (λ is. found read behind (i.no_option t is)) (λ other. go (option_of t.kind) refl (λ now. options-sure now behind))
  where
    go : (said : Option OptionWord) → option_of t.kind ≡ said
        → ((now : Options) → Sure (λ whole rest. AreOptions now whole behind rest) (r.options now behind))
        → Sure (λ whole rest. AreOptions read whole (t ∷ behind) rest)
        (on_some (r.adding said read) (Err (lack 25 (t ∷ behind))) (λ now. r.options now behind))
    go None is later = refused _
    go (Some said) is later = sure-some _ _ _ (λ none. refused _) (λ now adds. sure-as _ (λ whole rest others. i.option t is adds others) (later now))

pub options-shorter : {read whole : Options} {tokens rest : Tokens} → AreOptions read whole tokens rest → length rest < length tokens
options-shorter (i.no_option t is) = omega arith
options-shorter (i.option t is adds others) = let h = options-shorter others in omega arith

-- ---- options of classes

pub mixins-read : {names : List (List ℕ)} {tokens rest : Tokens} → AreMixins names tokens rest → r.mixins tokens ≡ Ok (names, rest)
mixins-read (i.no_mixin t is) = rw is
mixins-read (i.mixin t isnt is others) = rw (isnt, is, mixins-read others)

pub mixins-sure : (tokens : Tokens) → Sure (λ names rest. AreMixins names tokens rest) (r.mixins tokens)
mixins-sure [] = refused _
mixins-sure (t ∷ behind) =
    sure-if _ _ _ (λ is. found [] (t ∷ behind) (i.no_mixin t is)) (λ isnt. go isnt (title_of t.kind) refl (mixins-sure behind))
  where
    go : ends_mixins t.kind ≡ false → (name : Option (List ℕ)) → title_of t.kind ≡ name → Sure (λ names rest. AreMixins names behind rest) (r.mixins behind)
        → Sure (λ names rest. AreMixins names (t ∷ behind) rest) (r.next_mixin name (t ∷ behind) (r.mixins behind))
    go isnt None is later = refused _
    go isnt (Some name) is later = sure-then _ _ later (λ names rest others. found (name ∷ names) rest (i.mixin t isnt is others))

pub mixins-fewer : {names : List (List ℕ)} {tokens rest : Tokens} → AreMixins names tokens rest → length rest ≤ length tokens
mixins-fewer (i.no_mixin t is) = omega arith
mixins-fewer (i.mixin t isnt is others) = let h = mixins-fewer others in omega arith

no-none : {A : Type 0} (list : List A) → list ≢ [] → r.no_names list ≡ false
no-none [] some = absurd (some refl)
no-none (x ∷ list) some = refl

none-is : {A : Type 0} (list : List A) → r.no_names list ≡ true → list ≡ []
none-is [] is = refl
none-is (x ∷ list) is = cc

some-is-not : {A : Type 0} (list : List A) → r.no_names list ≡ false → list ≢ []
some-is-not [] is = cc
some-is-not (x ∷ list) is = λ same. cc

no-some : {A : Type 0} (x : Option A) → is_some x ≡ false → x ≡ None
no-some None is = refl
no-some (Some a) is = cc

title-read : (t : Token) (rest : Tokens) (name : List ℕ) → title_of t.kind ≡ Some name → r.title (t ∷ rest) ≡ Ok (name, rest)
title-read t rest name is = ap (λ (found : Option (List ℕ)). taken found 19 (t ∷ rest) rest) is

superclass-read : (read : ClassHead) (is_mixin : Bool) (here behind : Tokens) (name : List ℕ) (rest : Tokens) → read.superclass ≡ None → read.inherits ≡ []
    → r.title behind ≡ Ok (name, rest)
    → r.superclass_of read is_mixin here behind ≡ Ok (record read { superclass = Some (superclass name is_mixin) }, rest)
superclass-read read is_mixin here behind name rest none first named = go (is_some read.superclass) (r.no_names read.inherits) (ap is_some none) (ap r.no_names first)
  where
    go : (said free : Bool) → said ≡ false → free ≡ true
        → (if said then Err (lack 25 here)
        else (if free then and_then (r.title behind) (λ name rest. Ok (record read { superclass = Some (superclass name is_mixin) }, rest)) else Err (lack 25 here)))
        ≡ Ok (record read { superclass = Some (superclass name is_mixin) }, rest)
    go true free p q = cc
    go false true p q = rw named refl
    go false false p q = cc

pub class-read : {read whole : ClassHead} {tokens rest : Tokens} → AreClassOptions read whole tokens rest → (n : ℕ) → length tokens < n
    → r.class_options n read tokens ≡ Ok (whole, rest)
class-read (i.no_class_option {read = read} {rest = rest} t end) n enough =
    step (λ n. r.class_options n read (t ∷ rest) ≡ Ok (read, rest)) n (omega arith) (λ m also. rw end)
class-read (i.subclass {read = read} {whole = whole} {tokens = tokens} {rest = rest} t u is none first name others) n enough =
    step (λ n. r.class_options n read (t ∷ (u ∷ tokens)) ≡ Ok (whole, rest)) n (omega arith) (λ m also.
    rw (is, superclass-read read false (t ∷ (u ∷ tokens)) (u ∷ tokens) _ tokens none first (title-read u tokens _ name), class-read others m (omega arith)))
class-read (i.mixinclass {read = read} {whole = whole} {tokens = tokens} {rest = rest} t u is none first name others) n enough =
    step (λ n. r.class_options n read (t ∷ (u ∷ tokens)) ≡ Ok (whole, rest)) n (omega arith) (λ m also.
    rw (is, superclass-read read true (t ∷ (u ∷ tokens)) (u ∷ tokens) _ tokens none first (title-read u tokens _ name), class-read others m (omega arith)))
class-read (i.inherit {read = read} {whole = whole} {names = names} {tokens = tokens} {rest = rest} t is first are some others) n enough =
    step (λ n. r.class_options n read (t ∷ tokens) ≡ Ok (whole, rest)) n (omega arith) (λ m also.
    let h = mixins-fewer are in rw (is, first, mixins-read are, no-none names some, class-read others m (omega arith)))
class-read (i.public {read = read} {whole = whole} {tokens = tokens} {rest = rest} t is new others) n enough =
    step (λ n. r.class_options n read (t ∷ tokens) ≡ Ok (whole, rest)) n (omega arith) (λ m also.
    rw (is, new, class-read others m (omega arith)))

pub class-form-read : {read whole : ClassHead} {tokens rest : Tokens} → AreClassOptions read whole tokens rest → r.class_options_form read tokens ≡ Ok (whole, rest)
unfolding r.class_options_form
class-form-read {tokens = tokens} are = class-read are (length tokens + 1) (omega arith)

-- what an option adds stands in front of every further list
abbrev Goes : ClassHead → Tokens → ClassHead → Tokens → Type 0
Goes read tokens now behind =
    (length behind < length tokens)
    × ((whole : ClassHead) (rest : Tokens) → AreClassOptions now whole behind rest → AreClassOptions read whole tokens rest)

superclass-sure : (read : ClassHead) (mixin : Bool) (here behind : Tokens)
    → (read.superclass ≡ None → read.inherits ≡ [] → (name : List ℕ) (rest : Tokens) → Tabled title_of name behind rest
    → Goes read here (record read { superclass = Some (superclass name mixin) }) rest)
    → Sure (λ now rest. Goes read here now rest) (r.superclass_of read mixin here behind)
superclass-sure read mixin here behind go =
    sure-if _ _ _ (λ twice. refused _) (λ new.
    sure-if _ _ _ (λ first.
    sure-then _ _ (title-sure behind) (λ name rest named. found _ rest (go (no-some read.superclass new) (none-is read.inherits first) name rest named)))
    (λ later. refused _))

record SomeMixins (names : List (List ℕ)) (tokens rest : Tokens) : Type 0 where
  pub are : AreMixins names tokens rest
  pub some : names ≢ []

some-mixins-sure : (tokens : Tokens) → Sure (λ names rest. SomeMixins names tokens rest) (r.some_mixins tokens)
some-mixins-sure tokens =
    sure-then _ _ (mixins-sure tokens) (λ names rest are.
    sure-if _ _ _ (λ none. refused _) (λ some. found names rest (record { are = are; some = some-is-not names some })))

inherit-sure : (read : ClassHead) (here behind : Tokens)
    → (read.inherits ≡ [] → (names : List (List ℕ)) (rest : Tokens) → SomeMixins names behind rest → Goes read here (record read { inherits = names }) rest)
    → Sure (λ now rest. Goes read here now rest) (r.inherit_of read here behind)
inherit-sure read here behind go =
    sure-if _ _ _ (λ first. sure-then _ _ (some-mixins-sure behind) (λ names rest some. found _ rest (go (none-is read.inherits first) names rest some)))
    (λ later. refused _)

public-sure : (read : ClassHead) (here behind : Tokens) → (read.public ≡ false → Goes read here (record read { public = true }) behind)
    → Sure (λ now rest. Goes read here now rest) (r.public_of read here behind)
public-sure read here behind go = sure-if _ _ _ (λ twice. refused _) (λ new. found _ behind (go new))

tabled-less : {A : Type 0} {table : TokenKind → Option A} {one : A} {tokens rest : Tokens} → Tabled table one tokens rest → length rest < length tokens
tabled-less f = let e = ap length f.is in omega arith

pub option-sure : (read : ClassHead) (tokens : Tokens) → Sure (λ now behind. Goes read tokens now behind) (r.class_option read tokens)
option-sure read tokens =
    sure-some _ _ _ (λ no_subclass.
    sure-some _ _ _ (λ no_mixinclass.
    sure-some _ _ _ (λ no_inherit.
    sure-some _ _ _ (λ no_public. refused _)
    (λ behind is. public-sure read tokens behind (λ new. (
      symbol-shorter (codes "PUBLIC") tokens behind is,
      λ whole last others.
          at-word (λ ts. AreClassOptions read whole ts last) (codes "PUBLIC") tokens behind is (λ t w. i.public t w new others),
    ))))
    (λ behind is. inherit-sure read tokens behind (λ first names rest some.
    let g = symbol-shorter (codes "INHERIT") tokens behind is in let h = mixins-fewer some.are in (
      omega arith,
      λ whole last others.
          at-word (λ ts. AreClassOptions read whole ts last) (codes "INHERIT") tokens behind is (λ t w. i.inherit t w first some.are some.some others),
    ))))
    (λ behind is. superclass-sure read true tokens behind (λ none first name rest named.
    let g = symbol-shorter (codes "MIXINCLASS") tokens behind is in let h = tabled-less named in (
      omega arith,
      λ whole last others.
          at-word (λ ts. AreClassOptions read whole ts last) (codes "MIXINCLASS") tokens behind is (λ t w.
          at-token (λ ts. AreClassOptions read whole (t ∷ ts) last) named (λ u n. i.mixinclass t u w none first n others)),
    ))))
    (λ behind is. superclass-sure read false tokens behind (λ none first name rest named.
    let g = symbol-shorter (codes "SUBCLASS") tokens behind is in let h = tabled-less named in (
      omega arith,
      λ whole last others.
          at-word (λ ts. AreClassOptions read whole ts last) (codes "SUBCLASS") tokens behind is (λ t w.
          at-token (λ ts. AreClassOptions read whole (t ∷ ts) last) named (λ u n. i.subclass t u w none first n others)),
    )))

pub class-sure : (n : ℕ) (read : ClassHead) (tokens : Tokens) → Sure (λ whole rest. AreClassOptions read whole tokens rest) (r.class_options n read tokens)
class-sure zero read tokens = refused _
class-sure (suc m) read tokens =
    sure-some _ _ _
    (λ none. sure-then _ _ (option-sure read tokens) (λ now behind goes. sure-as _ (λ whole rest others. goes.1 whole rest others) (class-sure m now behind)))
    (λ rest is. found read rest (at-end (λ whole ts last. AreClassOptions read whole ts last) read tokens rest is (λ t end. i.no_class_option t end)))

pub class-form-sure : (read : ClassHead) (tokens : Tokens) → Sure (λ whole rest. AreClassOptions read whole tokens rest) (r.class_options_form read tokens)
unfolding r.class_options_form
class-form-sure read tokens = class-sure (length tokens + 1) read tokens

pub class-shorter : {read whole : ClassHead} {tokens rest : Tokens} → AreClassOptions read whole tokens rest → length rest < length tokens
class-shorter (i.no_class_option t end) = omega arith
class-shorter (i.subclass t u is none first name others) = let h = class-shorter others in omega arith
class-shorter (i.mixinclass t u is none first name others) = let h = class-shorter others in omega arith
class-shorter (i.inherit t is first are some others) = let h = class-shorter others in let g = mixins-fewer are in omega arith
class-shorter (i.public t is new others) = let h = class-shorter others in omega arith

-- ---- constants and routines

value-read : {value : Expr} {tokens rest : Tokens} → IsValue value tokens rest → r.value tokens ≡ Ok (value, rest)
value-read (i.plain {text = text} {rest = rest} t is) = go t.kind is
  where
    go : (kind : TokenKind) → value_of kind ≡ Some text → r.plain_or_signed (sign_at kind) (value_of kind) (t ∷ rest) rest ≡ Ok (e.Const (Str text), rest)
    go (k.Quoted one) p = ap (λ (x : List ℕ). outcome (e.Const (Str x)) rest) (some-is p)
    go (k.Constant one) p = ap (λ (x : List ℕ). outcome (e.Const (Str x)) rest) (some-is p)
    go _ p = cc
value-read (i.signed t u sign digits) = rw (sign, digits)

digits-sure : (sign : Oper) (t : Token) → sign_at t.kind ≡ Some sign → (tokens : Tokens)
    → Sure (λ value rest. IsValue value (t ∷ tokens) rest) (r.digits_at sign tokens)
digits-sure sign t is [] = refused _
digits-sure sign t is (u ∷ behind) = sure-some _ _ _ (λ none. refused _) (λ digits p. found _ behind (i.signed t u is p))

value-sure : (tokens : Tokens) → Sure (λ value rest. IsValue value tokens rest) (r.value tokens)
value-sure [] = refused _
value-sure (t ∷ behind) = go (sign_at t.kind) (value_of t.kind) refl refl
  where
    go : (sign : Option Oper) (plain : Option (List ℕ)) → sign_at t.kind ≡ sign → value_of t.kind ≡ plain
        → Sure (λ value rest. IsValue value (t ∷ behind) rest) (r.plain_or_signed sign plain (t ∷ behind) behind)
    go (Some sign) plain p q = digits-sure sign t p behind
    go None (Some text) p q = found _ behind (i.plain t q)
    go None None p q = refused _

-- ---- directives

body-sure : (tokens : Tokens) → Sure (λ one rest. IsBody one tokens rest) (body tokens)
body-sure tokens = as-read (body tokens) (λ one rest is. body-written tokens one rest is)

body-fewer : (one : Body) (tokens rest : Tokens) → IsBody one tokens rest → length rest ≤ length tokens
body-fewer one tokens rest is =
    let front = body-front one tokens rest is in
    let same : length tokens ≡ length front.0 + length rest = ap length front.1 ∙ length-append front.0 rest in omega arith

attribute-body-read : {options : Options} {one : Body} {tokens rest : Tokens} → IsBody one tokens rest → MayHave options one
    → r.attribute_body options tokens ≡ Ok (one, rest)
attribute-body-read {one = one} {tokens = tokens} {rest = rest} is (i.said said) = rw (body-read tokens one rest is, said)
attribute-body-read {options = options} {one = one} {tokens = tokens} {rest = rest} is (i.empty none) =
    go (is_some options.access) (body-read tokens one rest is)
  where
    go : (said : Bool) → body tokens ≡ Ok (one, rest)
        → and_then (body tokens) (λ found rest. if said then Ok (found, rest) else (if r.no_names found.clauses then Ok (found, rest) else Err (lack 99 tokens))) ≡ Ok (one, rest)
    go true p = rw p
    go false p = rw (p, none)

attribute-body-sure : (options : Options) (tokens : Tokens) → Sure (λ one rest. IsBody one tokens rest × MayHave options one) (r.attribute_body options tokens)
attribute-body-sure options tokens =
    sure-then _ _ (body-sure tokens) (λ one rest is.
    sure-if _ _ _ (λ said. found one rest (is, i.said said)) (λ unsaid.
    sure-if _ _ _ (λ none. found one rest (is, i.empty (none-is one.clauses none))) (λ some. refused _)))

method-options-sure : (tokens : Tokens) → Sure (λ options rest. AreOptions no_options options tokens rest × (options.access ≡ None)) (r.method_options tokens)
method-options-sure tokens =
    sure-then _ _ (options-sure no_options tokens) (λ options rest are.
    sure-if _ _ _ (λ said. refused _) (λ unsaid. found options rest (are, no-some options.access unsaid)))

option-end-sure : (tokens : Tokens) → Sure (λ _ rest. behind_end tokens ≡ Some rest) (r.option_end tokens)
option-end-sure tokens = sure-some _ _ _ (λ none. refused _) (λ rest is. found tt rest is)

public-end-sure : (tokens : Tokens) → Sure (λ _ rest. behind_public tokens ≡ Some rest) (r.public_end tokens)
public-end-sure [] = refused _
public-end-sure (t ∷ tokens) = go (is_word (codes "PUBLIC") t.kind)
  where
    go : (test : Bool) → Sure (λ _ rest. (if test then behind_end tokens else behind_end (t ∷ tokens)) ≡ Some rest)
        (on_some (if test then Some tokens else None) (r.option_end (t ∷ tokens)) (λ rest. r.option_end rest))
    go true = option-end-sure tokens
    go false = option-end-sure (t ∷ tokens)

public-end-read : (tokens rest : Tokens) → behind_public tokens ≡ Some rest → r.public_end tokens ≡ Ok (tt, rest)
public-end-read [] rest is = cc
public-end-read (t ∷ tokens) rest is = go (is_word (codes "PUBLIC") t.kind) is
  where
    go : (test : Bool) → (if test then behind_end tokens else behind_end (t ∷ tokens)) ≡ Some rest
        → on_some (if test then Some tokens else None) (r.option_end (t ∷ tokens)) (λ rest. r.option_end rest) ≡ Ok (tt, rest)
    go true p = rw p
    go false p = rw p

pub kind-read : {one : DirectiveKind} {tokens rest : Tokens} → IsKind one tokens rest → r.kind tokens ≡ Ok (one, rest)
unfolding r.kind
kind-read (i.class t u is title are) = rw (is, title, class-form-read are)
kind-read (i.method {body = one} {behind = behind} {rest = rest} t u is title are none clauses) =
    rw (is, title, options-read are, none, body-read behind one rest clauses)
kind-read (i.attribute t u is title variable are clauses may) = rw (is, title, variable, options-read are, attribute-body-read clauses may)
kind-read (i.constant t u is title value end) = rw (is, title, value-read value, end)
kind-read (i.routine {body = one} {tokens = tokens} {behind = behind} {rest = rest} t u is name public clauses) =
    rw (is, name, public-end-read tokens behind public, body-read behind one rest clauses)

pub kind-sure : (tokens : Tokens) → Sure (λ one rest. IsKind one tokens rest) (r.kind tokens)
unfolding r.kind
kind-sure tokens =
    sure-some _ _ _ (λ no_class.
    sure-some _ _ _ (λ no_method.
    sure-some _ _ _ (λ no_attribute.
    sure-some _ _ _ (λ no_constant.
    sure-some _ _ _ (λ no_routine. refused _)
    (λ behind is. sure-then _ _ (routine-name-sure behind) (λ name more named.
    sure-then _ _ (public-end-sure more) (λ _ others public.
    sure-then _ _ (body-sure others) (λ clauses rest are. found (d.Routine name clauses) rest (
    at-word (λ ts. IsKind (d.Routine name clauses) ts rest) (codes "ROUTINE") tokens behind is (λ t w.
    at-token (λ ts. IsKind (d.Routine name clauses) (t ∷ ts) rest) named (λ u n. i.routine t u w n public are))))))))
    (λ behind is. sure-then _ _ (title-sure behind) (λ name more named.
    sure-then _ _ (value-sure more) (λ value others written.
    sure-as _ (λ one rest end. subst (λ (one : DirectiveKind). IsKind one tokens rest) (sym end.0) (
    at-word (λ ts. IsKind (d.Constant name value) ts rest) (codes "CONSTANT") tokens behind is (λ t w.
    at-token (λ ts. IsKind (d.Constant name value) (t ∷ ts) rest) named (λ u n. i.constant t u w n written end.1))))
    (to-end-sure (d.Constant name value) others)))))
    (λ behind is. sure-then _ _ (attribute-sure behind) (λ name more named.
    sure-then _ _ (options-sure no_options more) (λ options others said.
    sure-then _ _ (attribute-body-sure options others) (λ clauses rest are. found (d.Attribute name options clauses) rest (
    at-word (λ ts. IsKind (d.Attribute name options clauses) ts rest) (codes "ATTRIBUTE") tokens behind is (λ t w.
    subst (λ (ts : Tokens). IsKind (d.Attribute name options clauses) (t ∷ ts) rest) (sym named.is) (
    subst (λ (one : AttributeName). IsKind (d.Attribute one options clauses) (t ∷ (named.token ∷ more)) rest) (sym named.one_is) (
    i.attribute t named.token w named.title named.names said are.0 are.1)))))))))
    (λ behind is. sure-then _ _ (title-sure behind) (λ name more named.
    sure-then _ _ (method-options-sure more) (λ options others said.
    sure-then _ _ (body-sure others) (λ clauses rest are. found (d.Method name options clauses) rest (
    at-word (λ ts. IsKind (d.Method name options clauses) ts rest) (codes "METHOD") tokens behind is (λ t w.
    at-token (λ ts. IsKind (d.Method name options clauses) (t ∷ ts) rest) named (λ u n. i.method t u w n said.0 said.1 are))))))))
    (λ behind is. sure-then _ _ (title-sure behind) (λ name more named.
    sure-then _ _ (class-form-sure (new_head name) more) (λ head rest are. found (d.Class head) rest (
    at-word (λ ts. IsKind (d.Class head) ts rest) (codes "CLASS") tokens behind is (λ t w.
    at-token (λ ts. IsKind (d.Class head) (t ∷ ts) rest) named (λ u n. i.class t u w n are))))))

value-shorter : {value : Expr} {tokens rest : Tokens} → IsValue value tokens rest → length rest < length tokens
value-shorter (i.plain t is) = omega arith
value-shorter (i.signed t u sign digits) = omega arith

public-shorter : (tokens rest : Tokens) → behind_public tokens ≡ Some rest → length rest < length tokens
public-shorter [] rest is = cc
public-shorter (t ∷ tokens) rest is = go (is_word (codes "PUBLIC") t.kind) is
  where
    go : (test : Bool) → (if test then behind_end tokens else behind_end (t ∷ tokens)) ≡ Some rest → length rest < length (t ∷ tokens)
    go true p = let h = end-shorter tokens rest p in omega arith
    go false p = end-shorter (t ∷ tokens) rest p

pub kind-shorter : {one : DirectiveKind} {tokens rest : Tokens} → IsKind one tokens rest → length rest < length tokens
kind-shorter (i.class t u is title are) = let h = class-shorter are in omega arith
kind-shorter (i.method {body = one} {behind = behind} {rest = rest} t u is title are none clauses) =
    let h = options-shorter are in let g = body-fewer one behind rest clauses in omega arith
kind-shorter (i.attribute {body = one} {behind = behind} {rest = rest} t u is title variable are clauses may) =
    let h = options-shorter are in let g = body-fewer one behind rest clauses in omega arith
kind-shorter (i.constant {behind = behind} {rest = rest} t u is title value end) = let h = value-shorter value in let g = end-shorter behind rest end in omega arith
kind-shorter (i.routine {body = one} {tokens = tokens} {behind = behind} {rest = rest} t u is name public clauses) =
    let h = public-shorter tokens behind public in let g = body-fewer one behind rest clauses in omega arith

two-colons : (kind : TokenKind) → is_two_colons kind ≡ true → kind ≡ k.TwoColons
two-colons k.TwoColons is = refl
two-colons _ is = cc

-- the tokens begin with those of a directive
pub record IsOne (one : Directive) (tokens rest : Tokens) : Type 0 where
  pub token : Token
  pub kind : DirectiveKind
  pub inside : Tokens
  pub is : tokens ≡ token ∷ inside
  pub colons : token.kind ≡ k.TwoColons
  pub one_is : one ≡ directive token.line kind
  pub written : IsKind kind inside rest

pub one-sure : (tokens : Tokens) → Sure (λ one rest. IsOne one tokens rest) (r.one_directive tokens)
one-sure [] = refused _
one-sure (s ∷ tokens) =
    sure-if _ _ _ (λ colons. sure-then _ _ (kind-sure tokens) (λ kind rest written.
    found (directive s.line kind) rest (
    record { token = s; kind = kind; inside = tokens; is = refl; colons = two-colons s.kind colons; one_is = refl; written = written }))) (λ other. refused _)

pub one-less : {one : Directive} {tokens rest : Tokens} → IsOne one tokens rest → length rest < length tokens
one-less one = let h = kind-shorter one.written in let e = ap length one.is in omega arith

pub directives-read : {list : List Directive} {tokens : Tokens} → AreDirectives list tokens → (n : ℕ) → length tokens < n → r.directives n tokens ≡ Ok (list, [])
directives-read i.no_directive n enough = step (λ n. r.directives n [] ≡ Ok ([], [])) n (omega arith) (λ m also. refl)
directives-read (i.one_directive {kind = kind} {directives = list} {tokens = tokens} s colons one others) n enough =
    step (λ n. r.directives n (s ∷ tokens) ≡ Ok (directive s.line kind ∷ list, [])) n (omega arith) (λ m also.
    let h = kind-shorter one in rw (colons, kind-read one, directives-read others m (omega arith)))

pub directives-sure : (n : ℕ) (tokens : Tokens) → Sure (λ list rest. AreDirectives list tokens) (r.directives n tokens)
directives-sure zero tokens = refused _
directives-sure (suc m) [] = found [] [] i.no_directive
directives-sure (suc m) (t ∷ tokens) =
    sure-then _ _ (one-sure (t ∷ tokens)) (λ one others is.
    sure-then _ _ (directives-sure m others) (λ list rest are.
    found (one ∷ list) rest (
    subst (λ (ts : Tokens). AreDirectives (one ∷ list) ts) (sym is.is) (
    subst (λ (first : Directive). AreDirectives (first ∷ list) (is.token ∷ is.inside)) (sym is.one_is) (i.one_directive is.token is.colons is.written are)))))

pub form-read : {list : List Directive} {tokens : Tokens} → AreDirectives list tokens → r.directives_form tokens ≡ Ok (list, [])
unfolding r.directives_form
form-read {tokens = tokens} are = directives-read are (length tokens + 1) (omega arith)

pub form-sure : (tokens : Tokens) → Sure (λ list rest. AreDirectives list tokens) (r.directives_form tokens)
unfolding r.directives_form
form-sure tokens = directives-sure (length tokens + 1) tokens
