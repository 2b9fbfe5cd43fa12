-- What stands in a tree has room in the tokens that it is written with.
use Rattle.std.proofs.Common.{◌≡◌, ℕ, ◌+◌, ◌<◌, ◌≤◌, Bool, true, false, if◌then◌else◌, List, [], ◌∷◌, Option, Some, None, ap, subst, arith}
use Rattle.rx_tree.specs.declared.name.Name.TheVariants as nm
use Rattle.rx_tree.specs.declared.value.Value.TheVariants.{Str}
use Rattle.rx_tree.specs.declared.token.Oper.{Oper}
use Rattle.rx_tree.specs.declared.token.Oper.TheVariants as o
use Rattle.rx_tree.specs.declared.token.TokenKind.{TokenKind}
use Rattle.rx_tree.specs.declared.token.TokenKind.TheVariants as k
use Rattle.rx_tree.specs.declared.expr.Expr.{Expr}
use Rattle.rx_tree.specs.declared.expr.SendPart.{SendPart}
use Rattle.rx_tree.specs.declared.stops.Stops.{Stops}
use Rattle.rx_tree.specs.StopWords.{is_stop}
use Rattle.rx_tree.specs.Operators.{Tokens, join, joint_of_oper, joint_of, operator_at}
use Rattle.rx_tree.specs.Terms.{term_of, is_string, direct_call, call_at}
use Rattle.rx_tree.specs.Expressions as p
use Rattle.rx_tree.specs.Expressions.{AreSigns, IsAbove, IsSpelt, AreTerms, AreParts, IsCall, AreArgs, AreListed, IsArg, Fits}
use Rattle.rx_exprs.proofs.Tables.{some-is}
use Rattle.rx_packages.specs.Sizes.{in_expr, in_given, in_args}
use Rattle.rx_packages.proofs.SizeLemmas.{name_size, const_size, environment_size, prefix_size, group_size, in_terms, chain_size, function_size, in_parts, sends_size, part_size}
use Rattle.rx_packages.proofs.Widths.{room, wide}

-- ---- tables

call-room : (tokens behind : Tokens) → call_at tokens ≡ Some behind → room behind < room tokens
call-room [] behind is = cc
call-room (t ∷ others) behind is = go t.kind t.blank is
  where
    go : (kind : TokenKind) (blank : Bool) → direct_call kind blank others ≡ Some behind → room behind < room (t ∷ others)
    go k.LeftParen false e = let same = ap room (some-is e) in let w = wide t others in omega arith
    go k.LeftParen true e = cc
    go _ false e = cc
    go _ true e = cc

found-room : (x found : Oper × Tokens) (tokens : Tokens) → Some x ≡ Some found → room x.1 ≤ room tokens → room found.1 ≤ room tokens
found-room x found tokens is h = subst (λ (y : Oper × Tokens). room y.1 ≤ room tokens) (some-is is) h

join-room : (blank : Bool) (here : Tokens) (found : Oper × Tokens) → Some (join blank, here) ≡ Some found → room found.1 ≤ room here
join-room blank here found is = found-room (join blank, here) found here is (omega arith)

oper-room : (oper : Oper) (blank : Bool) (here behind : Tokens) (found : Oper × Tokens) → room behind ≤ room here
    → joint_of_oper oper blank here behind ≡ Some found → room found.1 ≤ room here
oper-room o.Not blank here behind found h is = join-room blank here found is
oper-room o.Send blank here behind found h is = cc
oper-room o.SendBack blank here behind found h is = cc
oper-room o.Blank blank here behind found h is = cc
oper-room o.Abuttal blank here behind found h is = cc
oper-room _ blank here behind found h is = found-room (_, behind) found here is h

token-room : (kind : TokenKind) (blank : Bool) (here behind : Tokens) (found : Oper × Tokens) → room behind ≤ room here
    → joint_of kind blank here behind ≡ Some found → room found.1 ≤ room here
token-room (k.Operator oper) blank here behind found h is = oper-room oper blank here behind found h is
token-room (k.Simple name) blank here behind found h is = join-room blank here found is
token-room (k.Stem stem) blank here behind found h is = join-room blank here found is
token-room (k.Compound stem tail) blank here behind found h is = join-room blank here found is
token-room (k.Constant text) blank here behind found h is = join-room blank here found is
token-room (k.Environment name) blank here behind found h is = join-room blank here found is
token-room (k.Quoted text) blank here behind found h is = join-room blank here found is
token-room k.LeftParen blank here behind found h is = join-room blank here found is
token-room _ blank here behind found h is = cc

operator-room : (stops : Stops) (tokens : Tokens) (found : Oper × Tokens) → operator_at stops tokens ≡ Some found → room found.1 ≤ room tokens
unfolding operator_at
operator-room stops [] found is = cc
operator-room stops (t ∷ behind) found is = go (is_stop stops t.kind) is
  where
    go : (test : Bool) → (if test then None else joint_of t.kind t.blank (t ∷ behind) behind) ≡ Some found → room found.1 ≤ room (t ∷ behind)
    go true e = cc
    go false e = token-room t.kind t.blank (t ∷ behind) behind found (let w = wide t behind in omega arith) e

-- ---- expressions

-- A token by itself names one variable at most.
term-size : (kind : TokenKind) (expr : Expr) → term_of kind ≡ Some expr → in_expr expr ≤ 1
term-size (k.Simple name) expr is = let same = ap in_expr (some-is is) in let one = name_size (nm.Simple name) in omega arith
term-size (k.Stem stem) expr is = let same = ap in_expr (some-is is) in let one = name_size (nm.Stem stem) in omega arith
term-size (k.Compound stem tail) expr is = let same = ap in_expr (some-is is) in let one = name_size (nm.Compound stem tail) in omega arith
term-size (k.Constant text) expr is = let same = ap in_expr (some-is is) in let none = const_size (Str text) in omega arith
term-size (k.Environment name) expr is = let same = ap in_expr (some-is is) in let none = environment_size name in omega arith
term-size (k.Quoted text) expr is = let same = ap in_expr (some-is is) in let none = const_size (Str text) in omega arith
term-size _ expr is = cc

signs-room : {opers : List Oper} {tokens rest : Tokens} → AreSigns opers tokens rest → room rest ≤ room tokens
signs-room p.no_sign = omega arith
signs-room (p.sign {behind = behind} t is later) = let h = signs-room later in let w = wide t behind in omega arith

above-room : {class : Option (List ℕ)} {tokens rest : Tokens} → IsAbove class tokens rest → room rest ≤ room tokens
above-room (p.no_above is) = omega arith
above-room (p.above {rest = rest} t u class is named) = let v = wide u rest in let w = wide t (u ∷ rest) in omega arith

mutual
  pub spelt-room : {stops : Stops} {expr : Expr} {tokens rest : Tokens} → IsSpelt stops expr tokens rest → in_expr expr + room rest ≤ room tokens
  spelt-room (p.word {expr = expr} {rest = rest} t is stop call) = let one = term-size t.kind expr is in let w = wide t rest in omega arith
  spelt-room (p.group {expr = expr} {tokens = tokens} {rest = rest} t u left inner right) =
      let h = spelt-room inner in let same = group_size expr in let v = wide u rest in let w = wide t tokens in omega arith
  spelt-room (p.function {args = args} {tokens = tokens} {behind = behind} t name named stop call list) =
      let h = args-room list in let same = function_size name (is_string t.kind) args in let c = call-room behind tokens call in
      let w = wide t behind in omega arith
  spelt-room (p.sends {receiver = receiver} {parts = parts} first loose list some) =
      let h = spelt-room first in let g = parts-room list in let same = sends_size receiver parts in omega arith
  spelt-room (p.prefix {term = term} {opers = opers} signs some inner loose) =
      let h = spelt-room inner in let g = signs-room signs in let same = prefix_size opers term in omega arith
  spelt-room (p.chain {first = first} {terms = terms} inner list is) =
      let h = spelt-room inner in let g = terms-room list in let same = chain_size first terms in omega arith

  terms-room : {stops : Stops} {terms : List (Oper × Expr)} {tokens rest : Tokens} → AreTerms stops terms tokens rest
      → in_terms terms + room rest ≤ room tokens
  terms-room p.no_term = omega arith
  terms-room (p.term {stops = stops} {oper = oper} {tokens = tokens} {behind = behind} at operand others) =
      let f = operator-room stops tokens (oper, behind) at in let h = spelt-room operand in let g = terms-room others in omega arith

  parts-room : {parts : List SendPart} {tokens rest : Tokens} → AreParts parts tokens rest → in_parts parts + room rest ≤ room tokens
  parts-room p.no_part = omega arith
  parts-room (p.message {back = back} {class = class} {args = args} {tokens = tokens} t u name is named class_is list others) =
      let same = part_size name class args back false in let a = above-room class_is in let h = called-room list in let g = parts-room others in
      let v = wide u tokens in let w = wide t (u ∷ tokens) in omega arith
  parts-room (p.bracket {args = args} {tokens = tokens} t is list others) =
      let same = part_size [] None args false true in let h = args-room list in let g = parts-room others in let w = wide t tokens in omega arith

  called-room : {args : List (Option Expr)} {tokens rest : Tokens} → IsCall args tokens rest → in_args args + room rest ≤ room tokens
  called-room (p.no_call none) = omega arith
  called-room (p.call {behind = behind} {tokens = tokens} call list) = let c = call-room behind tokens call in let h = args-room list in omega arith

  pub args-room : {close : TokenKind} {args : List (Option Expr)} {tokens rest : Tokens} → AreArgs close args tokens rest
      → in_args args + room rest < room tokens
  args-room (p.no_args {rest = rest} t is) = let w = wide t rest in omega arith
  args-room (p.some_args list some) = listed-room list

  listed-room : {close : TokenKind} {args : List (Option Expr)} {tokens rest : Tokens} → AreListed close args tokens rest
      → in_args args + room rest < room tokens
  listed-room (p.last_arg {rest = rest} t one is) = let h = arg-room one in let w = wide t rest in omega arith
  listed-room (p.next_arg {behind = behind} t one is others) =
      let h = arg-room one in let g = listed-room others in let w = wide t behind in omega arith

  arg-room : {arg : Option Expr} {tokens rest : Tokens} → IsArg arg tokens rest → in_given arg + room rest ≤ room tokens
  arg-room p.omitted = omega arith
  arg-room (p.given inner) = spelt-room inner

pub fits-room : {stops : Stops} {expr : Expr} {tokens rest : Tokens} → Fits stops tokens expr rest → in_expr expr + room rest ≤ room tokens
fits-room fits = spelt-room fits.spelt
