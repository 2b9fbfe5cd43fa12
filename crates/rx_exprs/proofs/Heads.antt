-- How tokens begin that an expression is written with, and how many they are.
use Rattle.std.proofs.Common.{◌≡◌, ◌≢◌, ℕ, ◌<◌, ◌≤◌, Bool, true, false, List, [], ◌∷◌, length, Option, Some, None, refl, ap, arith}
use Rattle.rx_tree.specs.declared.token.Oper.{Oper}
use Rattle.rx_tree.specs.declared.token.Token.{Token}
use Rattle.rx_tree.specs.declared.token.TokenKind.{TokenKind}
use Rattle.rx_tree.specs.declared.token.TokenKind.TheVariants as k
use Rattle.rx_tree.specs.declared.expr.Expr.{Expr}
use Rattle.rx_tree.specs.declared.expr.SendPart.{SendPart}
use Rattle.rx_tree.specs.declared.stops.Stops.{Stops}
use Rattle.rx_tree.specs.Operators.{Tokens, sign_of}
use Rattle.rx_tree.specs.Terms.{direct_call, call_at}
use Rattle.rx_tree.specs.Expressions.{AreSigns, no_sign, sign, IsAbove, no_above}
use Rattle.rx_tree.specs.Expressions as p
use Rattle.rx_exprs.specs.declared.operators.Bracketed.{Bracketed}
use Rattle.rx_exprs.specs.declared.operators.Bracketed.TheVariants.{Round, Square}
use Rattle.rx_exprs.specs.Marks.{end_of}
use Rattle.rx_exprs.proofs.Tables.{no-sign-term, no-sign-name, no-end-term, no-end-name, no-end-sign, found-is}
use Rattle.rx_exprs.proofs.Written.{Written, word, group, function, sends, prefix, chain, above, Joined, no_more, joined, Sent, no_part, message, bracket, Called, no_call, call, Args, no_args, some_args, Listed, last_arg, next_arg, Arg, omitted, given}

pub call-shorter : (tokens behind : Tokens) → call_at tokens ≡ Some behind → length behind < length tokens
call-shorter [] behind is = cc
call-shorter (t ∷ others) behind is = go t.kind t.blank is
  where
    go : (kind : TokenKind) (blank : Bool) → direct_call kind blank others ≡ Some behind → length behind < length (t ∷ others)
    go k.LeftParen false e = let p : others ≡ behind = cc in let q = ap length p in omega arith
    go k.LeftParen true e = cc
    go _ false e = cc
    go _ true e = cc

pub signed-shorter : {opers : List Oper} {tokens rest : Tokens} → AreSigns opers tokens rest → length rest ≤ length tokens
signed-shorter no_sign = omega arith
signed-shorter (sign t is later) = let h = signed-shorter later in omega arith

pub above-shorter : {class : Option (List ℕ)} {tokens rest : Tokens} → IsAbove class tokens rest → length rest ≤ length tokens
above-shorter (no_above is) = omega arith
above-shorter (p.above t u class is named) = omega arith

mutual
  pub shorter : {stops : Stops} {n : ℕ} {expr : Expr} {tokens rest : Tokens} → Written stops n expr tokens rest → length rest < length tokens
  shorter (word t p q r) = omega arith
  shorter (group t u p inner q) = let h = shorter inner in omega arith
  shorter (function {tokens = ts} {behind = b} t name p q r list) = let h = args-shorter list in let c = call-shorter b ts r in omega arith
  shorter (sends receiver parts some) = let h = shorter receiver in let g = sent-shorter parts in omega arith
  shorter (prefix signed some term) = let h = shorter term in let g = signed-shorter signed in omega arith
  shorter (chain first terms some) = let h = shorter first in let g = joined-shorter terms in omega arith
  shorter (above inner) = shorter inner

  pub joined-shorter : {stops : Stops} {n : ℕ} {terms : List (Oper × Expr)} {tokens rest : Tokens} → Joined stops n terms tokens rest → length rest ≤ length tokens
  joined-shorter no_more = omega arith
  joined-shorter (joined {stops = s} {oper = o} {tokens = ts} {behind = b} at same operand terms) =
      let f = found-is s ts (o, b) at in let b = f.behind in let h = shorter operand in let g = joined-shorter terms in omega arith

  pub sent-shorter : {parts : List SendPart} {tokens rest : Tokens} → Sent parts tokens rest → length rest ≤ length tokens
  sent-shorter no_part = omega arith
  sent-shorter (message t u name p q r list parts) =
      let h = above-shorter r in let g = called-shorter list in let i = sent-shorter parts in omega arith
  sent-shorter (bracket t p list parts) = let h = args-shorter list in let g = sent-shorter parts in omega arith

  pub called-shorter : {args : List (Option Expr)} {tokens rest : Tokens} → Called args tokens rest → length rest ≤ length tokens
  called-shorter (no_call p) = omega arith
  called-shorter (call {behind = b} {tokens = ts} r list) = let h = args-shorter list in let c = call-shorter b ts r in omega arith

  pub args-shorter : {bracketed : Bracketed} {args : List (Option Expr)} {tokens rest : Tokens} → Args bracketed args tokens rest → length rest < length tokens
  args-shorter (no_args t p) = omega arith
  args-shorter (some_args list some) = listed-shorter list

  pub listed-shorter : {bracketed : Bracketed} {args : List (Option Expr)} {tokens rest : Tokens} → Listed bracketed args tokens rest → length rest < length tokens
  listed-shorter (last_arg t arg p) = let h = arg-shorter arg in omega arith
  listed-shorter (next_arg t arg p list) = let h = arg-shorter arg in let g = listed-shorter list in omega arith

  pub arg-shorter : {arg : Option Expr} {tokens rest : Tokens} → Arg arg tokens rest → length rest ≤ length tokens
  arg-shorter omitted = omega arith
  arg-shorter (given inner) = let h = shorter inner in omega arith

-- the tokens begin with one that ends no argument
pub record Begins (tokens : Tokens) : Type 0 where
  pub token : Token
  pub behind : Tokens
  pub is : tokens ≡ token ∷ behind
  pub no_end : (bracketed : Bracketed) → end_of bracketed token.kind ≡ None

pub record BeginsTerm (tokens : Tokens) : Type 0 where
  pub token : Token
  pub behind : Tokens
  pub is : tokens ≡ token ∷ behind
  pub sign_none : sign_of token.kind ≡ None

no-end-left : (bracketed : Bracketed) (kind : TokenKind) → kind ≡ k.LeftParen → end_of bracketed kind ≡ None
no-end-left Round kind is = ap (end_of Round) is
no-end-left Square kind is = ap (end_of Square) is

signed-begins : {opers : List Oper} {tokens rest : Tokens} → AreSigns opers tokens rest → opers ≢ [] → Begins tokens
signed-begins no_sign some = absurd (some refl)
signed-begins (sign {oper = oper} {behind = behind} t is later) some =
    record { token = t; behind = behind; is = refl; no_end = λ b. no-end-sign b t.kind oper is }

pub begins : {stops : Stops} {n : ℕ} {expr : Expr} {tokens rest : Tokens} → Written stops n expr tokens rest → Begins tokens
begins (word {expr = e} {rest = r} t p q s) = record { token = t; behind = r; is = refl; no_end = λ b. no-end-term b t.kind e p }
begins (group {tokens = ts} t u p inner q) = record { token = t; behind = ts; is = refl; no_end = λ b. no-end-left b t.kind p }
begins (function {behind = b} t name p q r list) =
    record { token = t; behind = b; is = refl; no_end = λ x. no-end-name x t.kind name p }
begins (sends receiver parts some) = begins receiver
begins (prefix signed some term) = signed-begins signed some
begins (chain first terms some) = begins first
begins (above inner) = begins inner

pub begins-term : {stops : Stops} {n : ℕ} {expr : Expr} {tokens rest : Tokens} → Written stops n expr tokens rest → n < 2 → BeginsTerm tokens
begins-term (word {expr = e} {rest = r} t p q s) h = record { token = t; behind = r; is = refl; sign_none = no-sign-term t.kind e p }
begins-term (group {tokens = ts} t u p inner q) h = record { token = t; behind = ts; is = refl; sign_none = ap sign_of p }
begins-term (function {behind = b} t name p q r list) h =
    record { token = t; behind = b; is = refl; sign_none = no-sign-name t.kind name p }
begins-term (sends receiver parts some) h = begins-term receiver (omega arith)
begins-term (prefix signed some term) h = absurd (omega arith)
begins-term (chain first terms some) h = absurd (omega arith)
begins-term (above inner) h = begins-term inner (omega arith)
