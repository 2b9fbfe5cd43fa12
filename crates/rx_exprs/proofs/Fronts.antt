-- The tokens that an expression is written with stand in front of the rest.
use Rattle.std.proofs.Common.{◌≡◌, ℕ, Bool, true, false, if◌then◌else◌, List, [], ◌∷◌, ◌++◌, Option, Some, None, refl, sym, ◌∙◌, ap, subst, append_assoc}
use Rattle.rx_tree.specs.declared.token.Oper.TheVariants as o
use Rattle.rx_tree.specs.declared.token.Oper.{Oper}
use Rattle.rx_tree.specs.declared.token.Token.{Token}
use Rattle.rx_tree.specs.declared.token.TokenKind.{TokenKind}
use Rattle.rx_tree.specs.declared.token.TokenKind.TheVariants as k
use Rattle.rx_tree.specs.declared.expr.Expr.{Expr}
use Rattle.rx_tree.specs.declared.expr.SendPart.{SendPart}
use Rattle.rx_tree.specs.declared.stops.Stops.{Stops}
use Rattle.rx_tree.specs.StopWords.{is_stop}
use Rattle.rx_tree.specs.Operators.{Tokens, join, joint_of_oper, joint_of, operator_at}
use Rattle.rx_tree.specs.Terms.{direct_call, call_at}
use Rattle.rx_tree.specs.Expressions.{AreSigns, no_sign, sign, IsAbove, no_above, above, IsSpelt, word, group, function, sends, prefix, chain, AreTerms, no_term, term, AreParts, no_part, message, bracket, IsCall, no_call, call, AreArgs, no_args, some_args, AreListed, last_arg, next_arg, IsArg, omitted, given}
use Rattle.rx_exprs.proofs.Tables.{some-is}

abbrev pub Front : Tokens → Tokens → Type 0
Front tokens rest = (front : Tokens) × (tokens ≡ front ++ rest)

here : (tokens : Tokens) → Front tokens tokens
here tokens = ([], refl)

one : (t : Token) (tokens rest : Tokens) → Front tokens rest → Front (t ∷ tokens) rest
one t tokens rest f = (t ∷ f.0, ap (λ ts. t ∷ ts) f.1)

both : (a b c : Tokens) → Front a b → Front b c → Front a c
both a b c f g = (f.0 ++ g.0, f.1 ∙ ap (λ ts. f.0 ++ ts) g.1 ∙ sym (append_assoc f.0 g.0 c))

call-front : (tokens behind : Tokens) → call_at tokens ≡ Some behind → Front tokens behind
call-front [] behind is = cc
call-front (t ∷ others) behind is = go t.kind t.blank is
  where
    go : (kind : TokenKind) (blank : Bool) → direct_call kind blank others ≡ Some behind → Front (t ∷ others) behind
    go k.LeftParen false e = (t ∷ [], ap (λ ts. t ∷ ts) (some-is e))
    go k.LeftParen true e = cc
    go _ false e = cc
    go _ true e = cc

found-front : (x found : Oper × Tokens) (tokens : Tokens) → Some x ≡ Some found → Front tokens x.1 → Front tokens found.1
found-front x found tokens is f = subst (λ (y : Oper × Tokens). Front tokens y.1) (some-is is) f

oper-front : (oper : Oper) (blank : Bool) (t : Token) (behind : Tokens) (found : Oper × Tokens) → joint_of_oper oper blank (t ∷ behind) behind ≡ Some found → Front (t ∷ behind) found.1
oper-front o.Not blank t behind found is = found-front (join blank, t ∷ behind) found (t ∷ behind) is (here (t ∷ behind))
oper-front o.Send blank t behind found is = cc
oper-front o.SendBack blank t behind found is = cc
oper-front o.Blank blank t behind found is = cc
oper-front o.Abuttal blank t behind found is = cc
oper-front _ blank t behind found is = found-front (_, behind) found (t ∷ behind) is (one t behind behind (here behind))

join-front : (blank : Bool) (tokens : Tokens) (found : Oper × Tokens) → Some (join blank, tokens) ≡ Some found → Front tokens found.1
join-front blank tokens found is = found-front (join blank, tokens) found tokens is (here tokens)

token-front : (kind : TokenKind) (blank : Bool) (t : Token) (behind : Tokens) (found : Oper × Tokens) → joint_of kind blank (t ∷ behind) behind ≡ Some found → Front (t ∷ behind) found.1
token-front (k.Operator oper) blank t behind found is = oper-front oper blank t behind found is
token-front (k.Simple name) blank t behind found is = join-front blank (t ∷ behind) found is
token-front (k.Stem stem) blank t behind found is = join-front blank (t ∷ behind) found is
token-front (k.Compound stem tail) blank t behind found is = join-front blank (t ∷ behind) found is
token-front (k.Constant text) blank t behind found is = join-front blank (t ∷ behind) found is
token-front (k.Environment name) blank t behind found is = join-front blank (t ∷ behind) found is
token-front (k.Quoted text) blank t behind found is = join-front blank (t ∷ behind) found is
token-front k.LeftParen blank t behind found is = join-front blank (t ∷ behind) found is
token-front _ blank t behind found is = cc

unless-none : {A : Type 0} (test : Bool) (x : Option A) (y : A) → (if test then None else x) ≡ Some y → x ≡ Some y
unless-none true x y is = cc
unless-none false x y is = is

operator-front : (stops : Stops) (tokens : Tokens) (found : Oper × Tokens) → operator_at stops tokens ≡ Some found → Front tokens found.1
unfolding operator_at
operator-front stops [] found is = cc
operator-front stops (t ∷ behind) found is =
    token-front t.kind t.blank t behind found (unless-none (is_stop stops t.kind) (joint_of t.kind t.blank (t ∷ behind) behind) found is)

signs-front : {opers : List Oper} {tokens rest : Tokens} → AreSigns opers tokens rest → Front tokens rest
signs-front (no_sign {rest = rest}) = here rest
signs-front (sign {behind = behind} {rest = rest} t is later) = one t behind rest (signs-front later)

above-front : {class : Option (List ℕ)} {tokens rest : Tokens} → IsAbove class tokens rest → Front tokens rest
above-front (no_above {rest = rest} is) = here rest
above-front (above {rest = rest} t u class is named) = one t (u ∷ rest) rest (one u rest rest (here rest))

mutual
  pub front : {stops : Stops} {expr : Expr} {tokens rest : Tokens} → IsSpelt stops expr tokens rest → Front tokens rest
  front (word {rest = rest} t p q r) = one t rest rest (here rest)
  front (group {tokens = tokens} {rest = rest} t u p inner q) = one t tokens rest (both tokens (u ∷ rest) rest (front inner) (one u rest rest (here rest)))
  front (function {tokens = tokens} {behind = behind} {rest = rest} t name p q r list) =
      one t behind rest (both behind tokens rest (call-front behind tokens r) (args-front list))
  front (sends {tokens = tokens} {behind = behind} {rest = rest} first tight parts some) = both tokens behind rest (front first) (parts-front parts)
  front (prefix {tokens = tokens} {behind = behind} {rest = rest} signed some inner tight) =
      both tokens behind rest (signs-front signed) (front inner)
  front (chain {tokens = tokens} {behind = behind} {rest = rest} first terms is) = both tokens behind rest (front first) (terms-front terms)

  terms-front : {stops : Stops} {terms : List (Oper × Expr)} {tokens rest : Tokens} → AreTerms stops terms tokens rest → Front tokens rest
  terms-front (no_term {rest = rest}) = here rest
  terms-front (term {stops = stops} {oper = oper} {tokens = tokens} {behind = behind} {others = others} {rest = rest} at operand terms) =
      both tokens behind rest (operator-front stops tokens (oper, behind) at) (both behind others rest (front operand) (terms-front terms))

  parts-front : {parts : List SendPart} {tokens rest : Tokens} → AreParts parts tokens rest → Front tokens rest
  parts-front (no_part {rest = rest}) = here rest
  parts-front (message {tokens = tokens} {behind = behind} {others = others} {rest = rest} t u name p q class list parts) =
      one t (u ∷ tokens) rest (one u tokens rest
      (both tokens behind rest (above-front class) (both behind others rest (called-front list) (parts-front parts))))
  parts-front (bracket {tokens = tokens} {others = others} {rest = rest} t p list parts) = one t tokens rest (both tokens others rest (args-front list) (parts-front parts))

  called-front : {args : List (Option Expr)} {tokens rest : Tokens} → IsCall args tokens rest → Front tokens rest
  called-front (no_call {rest = rest} is) = here rest
  called-front (call {behind = behind} {tokens = tokens} {rest = rest} is list) = both behind tokens rest (call-front behind tokens is) (args-front list)

  args-front : {close : TokenKind} {args : List (Option Expr)} {tokens rest : Tokens} → AreArgs close args tokens rest → Front tokens rest
  args-front (no_args {rest = rest} t p) = one t rest rest (here rest)
  args-front (some_args list some) = list-front list

  list-front : {close : TokenKind} {args : List (Option Expr)} {tokens rest : Tokens} → AreListed close args tokens rest → Front tokens rest
  list-front (last_arg {tokens = tokens} {rest = rest} t arg p) = both tokens (t ∷ rest) rest (arg-front arg) (one t rest rest (here rest))
  list-front (next_arg {tokens = tokens} {behind = behind} {rest = rest} t arg p list) =
      both tokens (t ∷ behind) rest (arg-front arg) (one t behind rest (list-front list))

  arg-front : {arg : Option Expr} {tokens rest : Tokens} → IsArg arg tokens rest → Front tokens rest
  arg-front (omitted {rest = rest}) = here rest
  arg-front (given inner) = front inner
