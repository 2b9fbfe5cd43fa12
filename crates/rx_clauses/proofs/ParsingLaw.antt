-- PARSE, ARG and PULL: what is written is read, and what is read is written.
use Rattle.std.proofs.Common.{◌≡◌, ℕ, zero, suc, ◌+◌, ◌<◌, ◌≤◌, Bool, true, false, List, [], ◌∷◌, length, Some, Ok, refl, sym, ap, subst, arith}
use Rattle.std.specs.Prelude.{codes}
use Rattle.rx_tree.specs.declared.name.Name.{Name}
use Rattle.rx_tree.specs.declared.token.Oper.{Oper}
use Rattle.rx_tree.specs.declared.token.Oper.TheVariants as o
use Rattle.rx_tree.specs.declared.token.Token.{Token}
use Rattle.rx_tree.specs.declared.token.TokenKind.{TokenKind}
use Rattle.rx_tree.specs.declared.token.TokenKind.TheVariants as k
use Rattle.rx_tree.specs.declared.stops.Stops.TheVariants as s
use Rattle.rx_tree.specs.Operators.{Tokens}
use Rattle.rx_tree.specs.Expressions.{Fits}
use Rattle.rx_exprs.proofs.Steps.{step}
use Rattle.rx_exprs.proofs.Tables.{some-is}
use Rattle.rx_clause_tree.specs.declared.template.Distance.{Distance}
use Rattle.rx_clause_tree.specs.declared.template.Distance.TheVariants as d
use Rattle.rx_clause_tree.specs.declared.template.TemplatePart.{TemplatePart}
use Rattle.rx_clause_tree.specs.declared.template.TemplatePart.TheVariants as p
use Rattle.rx_clause_tree.specs.declared.template.Template.{Template}
use Rattle.rx_clause_tree.specs.declared.template.ParseFrom.{ParseFrom}
use Rattle.rx_clause_tree.specs.declared.template.ParseFrom.TheVariants as f
use Rattle.rx_clause_tree.specs.declared.template.Parse.{Parse}
use Rattle.rx_clause_tree.specs.ClauseWords.{variable_of, is_clause_end, is_equal}
use Rattle.rx_clause_tree.specs.Templates as i
use Rattle.rx_clause_tree.specs.Templates.{IsInParentheses, IsNumber, IsDistance, IsTemplatePart, ends_template, AreTemplateParts, AreTemplates, IsParseFrom, has_templates, IsParse}
use Rattle.rx_clauses.specs.Parts.{is_comma}
use Rattle.rx_clauses.specs.Parsing as r
use Rattle.rx_clauses.proofs.Sure.{Sure, sure-then, sure-some, sure-if, sure-as, refused, found}
use Rattle.rx_clauses.proofs.Words.{end-is, right-is, symbol-found}
use Rattle.rx_clauses.proofs.Opens.{expression-read, expression-sure, fits-shorter}
use Rattle.rx_clauses.proofs.PartsLaw.{Tabled, variable-sure, behind-sure}
use Rattle.rx_clauses.proofs.PlainLaw.{at-word, at-token}

-- ---- parts of templates

-- a variable and a closing parenthesis
pub record Closed (name : Name) (tokens rest : Tokens) : Type 0 where
  pub first : Token
  pub second : Token
  pub is : tokens ≡ first ∷ (second ∷ rest)
  pub named : variable_of first.kind ≡ Some name
  pub right : second.kind ≡ k.RightParen

closed-sure : (tokens : Tokens) → Sure (λ name rest. Closed name tokens rest) (r.in_parentheses tokens)
closed-sure tokens = sure-then _ _ (variable-sure tokens) (λ name behind named. go name behind named)
  where
    go : (name : Name) (behind : Tokens) → Tabled variable_of name tokens behind → Sure (λ name rest. Closed name tokens rest) (r.closing name behind)
    go name [] named = refused _
    go name (v ∷ rest) named =
        sure-if _ _ _ (λ right. found name rest (record { first = named.token; second = v; is = named.is; named = named.fact; right = right-is v.kind right })) (λ other. refused _)

in-brackets : (t : Token) (behind rest : Tokens) (name : Name) → t.kind ≡ k.LeftParen → Closed name behind rest → IsInParentheses name (t ∷ behind) rest
in-brackets t behind rest name left is =
    subst (λ (ts : Tokens). IsInParentheses name (t ∷ ts) rest) (sym is.is) (i.in_parentheses t is.first is.second left is.named is.right)

distance-read : {one : Distance} {tokens rest : Tokens} → IsDistance one tokens rest → r.distance tokens ≡ Ok (one, rest)
distance-read (i.by_number (i.number t text is)) = rw is
distance-read (i.by_value (i.in_parentheses t u v left named right)) = rw (left, named, right)

distance-shorter : {one : Distance} {tokens rest : Tokens} → IsDistance one tokens rest → length rest < length tokens
distance-shorter (i.by_number (i.number t text is)) = omega arith
distance-shorter (i.by_value (i.in_parentheses t u v left named right)) = omega arith

distance-sure : (tokens : Tokens) → Sure (λ one rest. IsDistance one tokens rest) (r.distance tokens)
distance-sure [] = refused _
distance-sure (t ∷ behind) = go t.kind refl
  where
    go : (kind : TokenKind) → t.kind ≡ kind → Sure (λ one rest. IsDistance one (t ∷ behind) rest) (r.distance_of kind (t ∷ behind) behind)
    go (k.Constant text) is = found (d.Number text) behind (i.by_number (i.number t text is))
    go k.LeftParen is = sure-then _ _ (closed-sure behind) (λ name rest closed. found (d.Value name) rest (i.by_value (in-brackets t behind rest name is closed)))
    go _ is = refused _

-- the token of a part's word
part-variable : (kind : TokenKind) (name : Name) (here behind : Tokens) → variable_of kind ≡ Some name → r.part_of kind here behind ≡ Ok (p.Target name, behind)
part-variable (k.Simple one) name here behind is = ap (λ n. Ok (p.Target n, behind)) (some-is is)
part-variable (k.Stem one) name here behind is = ap (λ n. Ok (p.Target n, behind)) (some-is is)
part-variable (k.Compound one tail) name here behind is = ap (λ n. Ok (p.Target n, behind)) (some-is is)
part-variable _ name here behind is = cc

equal-kind : (kind : TokenKind) → is_equal kind ≡ true → kind ≡ k.Operator o.Equal
equal-kind (k.Operator o.Equal) is = refl
equal-kind (k.Operator _) is = cc
equal-kind _ is = cc

part-read : {one : TemplatePart} {tokens rest : Tokens} → IsTemplatePart one tokens rest → r.part tokens ≡ Ok (one, rest)
part-read (i.target {name = name} {rest = rest} t named) = part-variable t.kind name (t ∷ rest) rest named
part-read (i.period t is) = rw is
part-read (i.literal t text is) = rw is
part-read (i.pattern_of (i.in_parentheses t u v left named right)) = rw (left, named, right)
part-read (i.at_number (i.number t text is)) = rw is
part-read (i.at_distance t equal far) = rw (equal-kind t.kind equal, distance-read far)
part-read (i.forward_by t is far) = rw (is, distance-read far)
part-read (i.backward_by t is far) = rw (is, distance-read far)

pub part-shorter : {one : TemplatePart} {tokens rest : Tokens} → IsTemplatePart one tokens rest → length rest < length tokens
part-shorter (i.target t named) = omega arith
part-shorter (i.period t is) = omega arith
part-shorter (i.literal t text is) = omega arith
part-shorter (i.pattern_of (i.in_parentheses t u v left named right)) = omega arith
part-shorter (i.at_number (i.number t text is)) = omega arith
part-shorter (i.at_distance t equal far) = let h = distance-shorter far in omega arith
part-shorter (i.forward_by t is far) = let h = distance-shorter far in omega arith
part-shorter (i.backward_by t is far) = let h = distance-shorter far in omega arith

-- no part begins with what ends a template
no-end-variable : (kind : TokenKind) (name : Name) → variable_of kind ≡ Some name → ends_template kind ≡ false
no-end-variable k.Comma name is = cc
no-end-variable k.ClauseEnd name is = cc
no-end-variable _ name is = refl

part-no-end : {one : TemplatePart} {tokens rest : Tokens} → IsTemplatePart one tokens rest → r.ends tokens ≡ false
part-no-end (i.target {name = name} t named) = no-end-variable t.kind name named
part-no-end (i.period t is) = ap ends_template is
part-no-end (i.literal t text is) = ap ends_template is
part-no-end (i.pattern_of (i.in_parentheses t u v left named right)) = ap ends_template left
part-no-end (i.at_number (i.number t text is)) = ap ends_template is
part-no-end (i.at_distance t equal far) = ap ends_template (equal-kind t.kind equal)
part-no-end (i.forward_by t is far) = ap ends_template is
part-no-end (i.backward_by t is far) = ap ends_template is

operator-sure : (t : Token) (oper : Oper) (behind : Tokens) → t.kind ≡ k.Operator oper
    → Sure (λ one rest. IsTemplatePart one (t ∷ behind) rest) (r.by_operator oper (t ∷ behind) behind)
operator-sure t o.Equal behind is = sure-then _ _ (distance-sure behind) (λ far rest so. found (p.At far) rest (i.at_distance t (ap is_equal is) so))
operator-sure t o.Plus behind is = sure-then _ _ (distance-sure behind) (λ far rest so. found (p.Forward far) rest (i.forward_by t is so))
operator-sure t o.Minus behind is = sure-then _ _ (distance-sure behind) (λ far rest so. found (p.Backward far) rest (i.backward_by t is so))
operator-sure t _ behind is = refused _

pub part-sure : (tokens : Tokens) → Sure (λ one rest. IsTemplatePart one tokens rest) (r.part tokens)
part-sure [] = refused _
part-sure (t ∷ behind) = go t.kind refl
  where
    go : (kind : TokenKind) → t.kind ≡ kind → Sure (λ one rest. IsTemplatePart one (t ∷ behind) rest) (r.part_of kind (t ∷ behind) behind)
    go (k.Simple name) is = found _ behind (i.target t (ap variable_of is))
    go (k.Stem stem) is = found _ behind (i.target t (ap variable_of is))
    go (k.Compound stem tail) is = found _ behind (i.target t (ap variable_of is))
    go k.Period is = found p.Period behind (i.period t is)
    go (k.Quoted text) is = found (p.Literal text) behind (i.literal t text is)
    go (k.Constant text) is = found (p.At (d.Number text)) behind (i.at_number (i.number t text is))
    go k.LeftParen is = sure-then _ _ (closed-sure behind) (λ name rest closed. found (p.Pattern name) rest (i.pattern_of (in-brackets t behind rest name is closed)))
    go (k.Operator oper) is = operator-sure t oper behind is
    go _ is = refused _

-- ---- templates

parts-read : {list : List TemplatePart} {tokens rest : Tokens} → AreTemplateParts list tokens rest → (n : ℕ) → length tokens < n → r.parts n tokens ≡ Ok (list, rest)
parts-read (i.no_template_part {rest = rest} t ends) n enough =
    step (λ n. r.parts n (t ∷ rest) ≡ Ok ([], t ∷ rest)) n (omega arith) (λ m also. rw ends)
parts-read (i.template_part {one = one} {parts = list} {tokens = tokens} {rest = rest} is others) n enough =
    step (λ n. r.parts n tokens ≡ Ok (one ∷ list, rest)) n (omega arith) (λ m also.
    let h = part-shorter is in rw (part-no-end is, part-read is, parts-read others m (omega arith)))

pub parts-shorter : {list : List TemplatePart} {tokens rest : Tokens} → AreTemplateParts list tokens rest → length rest ≤ length tokens
parts-shorter (i.no_template_part t ends) = omega arith
parts-shorter (i.template_part is others) = let h = part-shorter is in let j = parts-shorter others in omega arith

pub parts-sure : (n : ℕ) (tokens : Tokens) → Sure (λ list rest. AreTemplateParts list tokens rest) (r.parts n tokens)
parts-sure zero tokens = refused _
parts-sure (suc m) tokens =
    sure-if _ _ _ (λ ends. found [] tokens (no-parts tokens ends)) (λ other.
    sure-then _ _ (part-sure tokens) (λ one behind is.
    sure-then _ _ (parts-sure m behind) (λ others rest more. found (one ∷ others) rest (i.template_part is more))))
  where
    no-parts : (tokens : Tokens) → r.ends tokens ≡ true → AreTemplateParts [] tokens tokens
    no-parts [] ends = cc
    no-parts (t ∷ rest) ends = i.no_template_part t ends

end-no-comma : (t : Token) → is_clause_end t.kind ≡ true → is_comma t.kind ≡ false
end-no-comma t is = ap is_comma (end-is t.kind is)

pub templates-read : {list : List Template} {tokens rest : Tokens} → AreTemplates list tokens rest → (n : ℕ) → length tokens < n → r.templates n tokens ≡ Ok (list, rest)
templates-read (i.last_template {parts = parts} {tokens = tokens} {rest = rest} t are end) n enough =
    step (λ n. r.templates n tokens ≡ Ok (record { parts = parts } ∷ [], rest)) n (omega arith) (λ m also.
    rw (parts-read are (length tokens + 1) (omega arith), end-no-comma t end, end))
templates-read (i.next_template {parts = parts} {templates = list} {tokens = tokens} {behind = behind} {rest = rest} t are comma others) n enough =
    step (λ n. r.templates n tokens ≡ Ok (record { parts = parts } ∷ list, rest)) n (omega arith) (λ m also.
    let h = parts-shorter are in
    rw (parts-read are (length tokens + 1) (omega arith), comma, templates-read others m (omega arith)))

pub templates-shorter : {list : List Template} {tokens rest : Tokens} → AreTemplates list tokens rest → length rest < length tokens
templates-shorter (i.last_template t are end) = let h = parts-shorter are in omega arith
templates-shorter (i.next_template t are comma others) = let h = parts-shorter are in let j = templates-shorter others in omega arith

pub templates-sure : (n : ℕ) (tokens : Tokens) → Sure (λ list rest. AreTemplates list tokens rest) (r.templates n tokens)
templates-sure zero tokens = refused _
templates-sure (suc m) tokens =
    sure-then {Is = λ one rest. (parts : List TemplatePart) × (one ≡ r.template_of parts) × AreTemplateParts parts tokens rest} _ _
    (sure-then _ _ (parts-sure (length tokens + 1) tokens) (λ parts behind are. found (r.template_of parts) behind (parts, refl, are)))
    (λ one behind is. rw is.1 (
    behind-sure 38 (λ ts. r.templates m ts) (r.template_of is.0) behind
    (λ t rest same comma. sure-as _ (λ list others more. i.next_template t (subst (λ (ts : Tokens). AreTemplateParts is.0 tokens ts) same is.2) comma more) (templates-sure m rest))
    (λ t rest same end. i.last_template t (subst (λ (ts : Tokens). AreTemplateParts is.0 tokens ts) same is.2) end)))

-- ---- where the texts come from

pub from-read : {one : ParseFrom} {tokens rest : Tokens} → IsParseFrom one tokens rest → r.parse_from tokens ≡ Ok (one, rest)
from-read (i.from_arg t is) = rw is
from-read (i.from_pull t is) = rw is
from-read (i.from_linein t is) = rw is
from-read (i.from_variable t u is named) = rw (is, named)
from-read (i.from_value t u is fits with_) = rw (is, expression-read fits, with_)

pub from-shorter : {one : ParseFrom} {tokens rest : Tokens} → IsParseFrom one tokens rest → length rest < length tokens
from-shorter (i.from_arg t is) = omega arith
from-shorter (i.from_pull t is) = omega arith
from-shorter (i.from_linein t is) = omega arith
from-shorter (i.from_variable t u is named) = omega arith
from-shorter (i.from_value t u is fits with_) = let h = fits-shorter fits in omega arith

from-sure : (tokens : Tokens) → Sure (λ one rest. IsParseFrom one tokens rest) (r.parse_from tokens)
from-sure tokens =
    sure-some _ _ _ (λ no_arg.
    sure-some _ _ _ (λ no_pull.
    sure-some _ _ _ (λ no_linein.
    sure-some _ _ _ (λ no_var.
    sure-some _ _ _ (λ no_value. refused _)
    (λ behind is. sure-then _ _ (expression-sure s.With behind) (λ expr others fits.
    sure-some _ _ _ (λ none. refused _) (λ rest ends.
    let u = symbol-found (codes "WITH") others rest ends in
    found (f.Value expr) rest (at-word (λ ts. IsParseFrom (f.Value expr) ts rest) (codes "VALUE") tokens behind is (λ t w.
    i.from_value t u.token w (subst (λ (ts : Tokens). Fits s.With behind expr ts) u.is fits) u.fact))))))
    (λ behind is. sure-then _ _ (variable-sure behind) (λ name rest named.
    found (f.Var name) rest (at-word (λ ts. IsParseFrom (f.Var name) ts rest) (codes "VAR") tokens behind is (λ t w.
    at-token (λ ts. IsParseFrom (f.Var name) (t ∷ ts) rest) named (λ u n. i.from_variable t u w n))))))
    (λ rest is. found f.LineIn rest (at-word (λ ts. IsParseFrom f.LineIn ts rest) (codes "LINEIN") tokens rest is (λ t w. i.from_linein t w))))
    (λ rest is. found f.Pull rest (at-word (λ ts. IsParseFrom f.Pull ts rest) (codes "PULL") tokens rest is (λ t w. i.from_pull t w))))
    (λ rest is. found f.Arg rest (at-word (λ ts. IsParseFrom f.Arg ts rest) (codes "ARG") tokens rest is (λ t w. i.from_arg t w)))

-- ---- the whole

-- what stands behind PARSE and UPPER, or behind ARG and PULL
pub record IsText (upper : Bool) (one : Parse) (tokens rest : Tokens) : Type 0 where
  pub from : ParseFrom
  pub templates : List Template
  pub behind : Tokens
  pub is : one ≡ record { upper = upper; from = from; templates = templates }
  pub is_from : IsParseFrom from tokens behind
  pub are : AreTemplates templates behind rest
  pub has : has_templates from templates ≡ true

pub by-read : (upper : Bool) (from : ParseFrom) {list : List Template} {tokens rest : Tokens} → AreTemplates list tokens rest → has_templates from list ≡ true
    → r.parse_by upper from tokens ≡ Ok (record { upper = upper; from = from; templates = list }, rest)
by-read upper from {tokens = tokens} are has = rw (templates-read are (length tokens + 1) (omega arith), has)

pub by-sure : (upper : Bool) (from : ParseFrom) (tokens : Tokens)
    → Sure (λ one rest. (list : List Template) × (one ≡ record { upper = upper; from = from; templates = list }) × AreTemplates list tokens rest × (has_templates from list ≡ true))
    (r.parse_by upper from tokens)
by-sure upper from tokens =
    sure-then _ _ (templates-sure (length tokens + 1) tokens) (λ list rest are.
    sure-if _ _ _ (λ has. found _ rest (list, refl, are, has)) (λ other. refused _))

pub text-sure : (upper : Bool) (tokens : Tokens) → Sure (λ one rest. IsText upper one tokens rest) (r.parse_text upper tokens)
text-sure upper tokens =
    sure-then _ _ (from-sure tokens) (λ from behind is.
    sure-as _ (λ one rest all. record { from = from; templates = all.0; behind = behind; is = all.1; is_from = is; are = all.2; has = all.3 }) (by-sure upper from behind))
