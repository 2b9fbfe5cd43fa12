-- What single steps of the reader show when they succeed.
use Rattle.std.proofs.Common.{◌≡◌, ◌≢◌, ℕ, suc, Bool, true, false, if◌then◌else◌, List, [], ◌∷◌, Option, Some, None, Ok, Err, refl, sym, ◌∙◌, ap, subst}
use Rattle.rx_tree.specs.declared.token.Oper.{Oper}
use Rattle.rx_tree.specs.declared.token.Token.{Token}
use Rattle.rx_tree.specs.declared.token.TokenKind.{TokenKind}
use Rattle.rx_tree.specs.declared.token.TokenKind.TheVariants as k
use Rattle.rx_tree.specs.declared.expr.Expr.{Expr}
use Rattle.rx_tree.specs.declared.expr.SendPart.{SendPart}
use Rattle.rx_tree.specs.declared.stops.Stops.{Stops}
use Rattle.rx_tree.specs.Operators.{Tokens, sign_of}
use Rattle.rx_tree.specs.Terms.{name_of, class_of, is_colon}
use Rattle.rx_tree.specs.Expressions.{AreSigns, no_sign, sign, IsAbove, no_above}
use Rattle.rx_tree.specs.Expressions as p
use Rattle.rx_exprs.specs.declared.operators.Opening.{Opening}
use Rattle.rx_exprs.specs.declared.operators.Bracketed.{Bracketed}
use Rattle.rx_exprs.specs.declared.operators.End.{End}
use Rattle.rx_exprs.specs.declared.operators.End.TheVariants.{Comma, Close}
use Rattle.rx_exprs.specs.Marks.{is_left, is_right, closed_at, opening_of, opened, opened_at, end_of, ended, end_at, if_close, ended_at}
use Rattle.rx_exprs.specs.Reader.{Outcome, and_then, on_some, with_parts, with_signs, with_terms, with_sign, signs, named, name_at, classed, class_at, above_at}
use Rattle.rx_exprs.proofs.Tables.{opening_at, some-is, ok-is}
use Rattle.rx_exprs.proofs.Written.{Written, sends, prefix, chain, above, Joined, no_more, joined, Sent, no_part, message, bracket, Listed, last_arg, next_arg, Arg, omitted, given}
use Rattle.rx_exprs.proofs.Steps.{end-is}

pub record Came {A B : Type 0} (r : Outcome A) (go : A → Tokens → Outcome B) (x : B × Tokens) : Type 0 where
  pub first : A
  pub behind : Tokens
  pub was : r ≡ Ok (first, behind)
  pub went : go first behind ≡ Ok x

pub came : {A B : Type 0} (r : Outcome A) (go : A → Tokens → Outcome B) (x : B × Tokens) → and_then r go ≡ Ok x → Came r go x
came (Err fault) go x is = cc
came (Ok found) go x is = record { first = found.0; behind = found.1; was = refl; went = is }

pub either : {A B P : Type 0} (found : Option A) (other : Outcome B) (go : A → Outcome B) (x : B × Tokens) → on_some found other go ≡ Ok x
    → (found ≡ None → other ≡ Ok x → P) → ((a : A) → found ≡ Some a → go a ≡ Ok x → P) → P
either None other go x is none some = none refl is
either (Some a) other go x is none some = some a refl is

pub branch : {A P : Type 0} (test : Bool) (x y : A) (z : A) → (if test then x else y) ≡ z → (test ≡ true → x ≡ z → P) → (test ≡ false → y ≡ z → P) → P
branch true x y z is holds fails = holds refl is
branch false x y z is holds fails = fails refl is

pub left-is : (kind : TokenKind) → is_left kind ≡ true → kind ≡ k.LeftParen
left-is k.LeftParen is = refl
left-is _ is = cc

right-is : (kind : TokenKind) → is_right kind ≡ true → kind ≡ k.RightParen
right-is k.RightParen is = refl
right-is _ is = cc

colon-is : (kind : TokenKind) → is_colon kind ≡ true → kind ≡ k.Colon
colon-is k.Colon is = refl
colon-is _ is = cc

pub record First (Is : Token → Type 0) (tokens rest : Tokens) : Type 0 where
  pub token : Token
  pub is : tokens ≡ token ∷ rest
  pub fact : Is token

pub closed-is : (tokens rest : Tokens) → closed_at tokens ≡ Some rest → First (λ u. u.kind ≡ k.RightParen) tokens rest
closed-is [] rest is = cc
closed-is (u ∷ behind) rest is =
    branch (is_right u.kind) (Some behind) None (Some rest) is
    (λ yes same. record { token = u; is = ap (λ r. u ∷ r) (some-is same); fact = right-is u.kind yes })
    (λ no same. cc)

pub opened-is : (tokens : Tokens) (found : Opening × Tokens) → opened_at tokens ≡ Some found → First (λ t. opening_of t.kind ≡ Some found.0) tokens found.1
opened-is [] found is = cc
opened-is (t ∷ behind) found is = go (opening_of t.kind) refl is
  where
    go : (opening : Option Opening) → opening_of t.kind ≡ opening → opened opening behind ≡ Some found → First (λ t. opening_of t.kind ≡ Some found.0) (t ∷ behind) found.1
    go None p same = cc
    go (Some opening) p same =
        let q = some-is same in
        record { token = t; is = ap (λ f. t ∷ f.1) q; fact = p ∙ ap (λ f. Some f.0) q }

pub not-opening : (tokens : Tokens) → opened_at tokens ≡ None → opening_at tokens ≡ None
not-opening [] is = refl
not-opening (t ∷ behind) is = go (opening_of t.kind) is
  where
    go : (opening : Option Opening) → opened opening behind ≡ None → opening ≡ None
    go None same = refl
    go (Some opening) same = cc

pub name-is : (tokens : Tokens) (name : List ℕ) (rest : Tokens) → name_at tokens ≡ Ok (name, rest) → First (λ u. name_of u.kind ≡ Some name) tokens rest
name-is [] name rest is = cc
name-is (u ∷ behind) name rest is = go (name_of u.kind) refl is
  where
    go : (found : Option (List ℕ)) → name_of u.kind ≡ found → named found (u ∷ behind) behind ≡ Ok (name, rest) → First (λ u. name_of u.kind ≡ Some name) (u ∷ behind) rest
    go None p same = cc
    go (Some other) p same =
        let q = ok-is same in
        record { token = u; is = ap (λ f. u ∷ f.1) q; fact = p ∙ ap (λ f. Some f.0) q }

abbrev classes : Option (List ℕ) → Tokens → Outcome (Option (List ℕ))
classes class rest = Ok (class, rest)

above-as : (x class : Option (List ℕ)) (y rest tokens : Tokens) → classes x y ≡ classes class rest → IsAbove x tokens y → IsAbove class tokens rest
above-as x class y rest tokens is fact = subst (λ (p : Option (List ℕ) × Tokens). IsAbove p.0 tokens p.1) (ok-is is) fact

class-is : (t : Token) (tokens : Tokens) (class : Option (List ℕ)) (rest : Tokens) → t.kind ≡ k.Colon → class_at tokens ≡ Ok (class, rest)
    → IsAbove class (t ∷ tokens) rest
class-is t [] class rest colon is = cc
class-is t (u ∷ behind) class rest colon is = go (class_of u.kind) refl is
  where
    go : (found : Option (List ℕ)) → class_of u.kind ≡ found → classed found (u ∷ behind) behind ≡ Ok (class, rest) → IsAbove class (t ∷ (u ∷ behind)) rest
    go None p same = cc
    go (Some other) named same = above-as (Some other) class behind rest (t ∷ (u ∷ behind)) same (p.above t u other colon named)

pub above-is : (tokens : Tokens) (class : Option (List ℕ)) (rest : Tokens) → above_at tokens ≡ Ok (class, rest) → IsAbove class tokens rest
above-is [] class rest is = above-as None class [] rest [] is (no_above refl)
above-is (t ∷ behind) class rest is =
    branch (is_colon t.kind) (class_at behind) (Ok (None, t ∷ behind)) (Ok (class, rest)) is
    (λ colon same. class-is t behind class rest (colon-is t.kind colon) same)
    (λ other same. above-as None class (t ∷ behind) rest (t ∷ behind) same (no_above other))

pub end-found : (bracketed : Bracketed) (tokens : Tokens) (found : End × Tokens) → end_at bracketed tokens ≡ Some found → First (λ t. end_of bracketed t.kind ≡ Some found.0) tokens found.1
end-found bracketed [] found is = cc
end-found bracketed (u ∷ behind) found is = go (end_of bracketed u.kind) refl is
  where
    go : (end : Option End) → end_of bracketed u.kind ≡ end → ended end behind ≡ Some found → First (λ u. end_of bracketed u.kind ≡ Some found.0) (u ∷ behind) found.1
    go None p same = cc
    go (Some other) p same =
        let q = some-is same in
        record { token = u; is = ap (λ f. u ∷ f.1) q; fact = p ∙ ap (λ f. Some f.0) q }

pub closed-end : (bracketed : Bracketed) (tokens rest : Tokens) → ended_at bracketed tokens ≡ Some rest → First (λ t. end_of bracketed t.kind ≡ Some Close) tokens rest
closed-end bracketed tokens rest is = end-found bracketed tokens (Close, rest) (go (end_at bracketed tokens) is)
  where
    go : (found : Option (End × Tokens)) → if_close found ≡ Some rest → found ≡ Some (Close, rest)
    go None same = cc
    go (Some (Close, others)) same = ap (λ r. Some (Close, r)) (some-is same)
    go (Some (Comma, others)) same = cc

pub signed-all : (tokens : Tokens) → AreSigns (signs tokens).0 tokens (signs tokens).1
signed-all [] = no_sign
signed-all (t ∷ behind) = go (sign_of t.kind) refl (signed-all behind)
  where
    go : (found : Option Oper) → sign_of t.kind ≡ found → AreSigns (signs behind).0 behind (signs behind).1
        → AreSigns (with_sign found (signs behind) (t ∷ behind)).0 (t ∷ behind) (with_sign found (signs behind) (t ∷ behind)).1
    go None p later = no_sign
    go (Some oper) p later = sign t p later

sent-nil : {list : List SendPart} {tokens rest : Tokens} → Sent list tokens rest → list ≡ [] → tokens ≡ rest
sent-nil no_part is = refl
sent-nil (message t u name p q r list others) is = cc
sent-nil (bracket t p list others) is = cc

joined-nil : {stops : Stops} {n : ℕ} {list : List (Oper × Expr)} {tokens rest : Tokens} → Joined stops n list tokens rest → list ≡ [] → tokens ≡ rest
joined-nil no_more is = refl
joined-nil (joined at same operand others) is = cc

signs-nil : {opers : List Oper} {tokens rest : Tokens} → AreSigns opers tokens rest → opers ≡ [] → tokens ≡ rest
signs-nil no_sign is = refl
signs-nil (sign t p later) is = cc

pub sends-made : {stops : Stops} {tokens behind rest : Tokens} (receiver : Expr) (list : List SendPart) → Written stops 0 receiver tokens behind
    → Sent list behind rest → Written stops 1 (with_parts receiver list) tokens rest
sends-made {stops = stops} {tokens = tokens} receiver [] first messages =
    subst (λ r. Written stops 1 receiver tokens r) (sent-nil messages refl) (above first)
sends-made receiver (x ∷ xs) first messages = sends first messages (λ is. cc)

pub prefix-made : {stops : Stops} {tokens behind rest : Tokens} (opers : List Oper) (term : Expr) → AreSigns opers tokens behind
    → Written stops 1 term behind rest → Written stops 2 (with_signs opers term) tokens rest
prefix-made {stops = stops} {rest = rest} [] term signed inner =
    subst (λ t. Written stops 2 term t rest) (sym (signs-nil signed refl)) (above inner)
prefix-made (x ∷ xs) term signed inner = prefix signed (λ is. cc) inner

pub chain-made : {stops : Stops} {n : ℕ} {tokens behind rest : Tokens} (first : Expr) (list : List (Oper × Expr))
    → Written stops (suc (suc n)) first tokens behind → Joined stops n list behind rest → Written stops (suc (suc (suc n))) (with_terms first list) tokens rest
chain-made {stops = stops} {n = n} {tokens = tokens} first [] operand others =
    subst (λ r. Written stops (suc (suc (suc n))) first tokens r) (joined-nil others refl) (above operand)
chain-made first (x ∷ xs) operand others = chain operand others (λ is. cc)

omitted-is : {arg : Option Expr} {tokens rest : Tokens} → Arg arg tokens rest → arg ≡ None → tokens ≡ rest
omitted-is omitted is = refl
omitted-is (given inner) is = cc

listed-some : {bracketed : Bracketed} {list : List (Option Expr)} {tokens rest : Tokens} → Listed bracketed list tokens rest → list ≢ []
listed-some (last_arg t arg p) is = cc
listed-some (next_arg t arg p others) is = cc

-- one omitted argument alone is read as none
pub alone-closed : {bracketed : Bracketed} {list : List (Option Expr)} {tokens rest : Tokens} → Listed bracketed list tokens rest → ended_at bracketed tokens ≡ None
    → list ≢ None ∷ []
alone-closed (last_arg {bracketed = b} {arg = arg} {tokens = tokens} {rest = rest} t inner p) none is =
    let x : arg ≡ None = cc in
    let y : tokens ≡ t ∷ rest = omitted-is inner x in
    let z : ended_at b tokens ≡ Some rest = ap (ended_at b) y ∙ ap if_close (end-is b t rest Close p) in
    cc
alone-closed (next_arg {args = list} t inner p others) none is =
    let x : list ≡ [] = cc in listed-some others x
