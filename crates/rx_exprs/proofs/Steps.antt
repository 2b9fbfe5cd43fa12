-- Single steps of the reader.
use Rattle.std.proofs.Common.{◌≡◌, ◌≢◌, ℕ, zero, suc, ◌+◌, ◌<◌, true, false, List, [], ◌∷◌, Option, Some, None, Ok, refl, ap, arith}
use Rattle.rx_tree.specs.declared.token.Oper.{Oper}
use Rattle.rx_tree.specs.declared.token.Token.{Token}
use Rattle.rx_tree.specs.declared.token.TokenKind.{TokenKind}
use Rattle.rx_tree.specs.declared.token.TokenKind.TheVariants as k
use Rattle.rx_tree.specs.declared.expr.Expr.{Expr}
use Rattle.rx_tree.specs.declared.expr.Expr.TheVariants as e
use Rattle.rx_tree.specs.declared.expr.SendPart.{SendPart}
use Rattle.rx_tree.specs.declared.stops.Stops.{Stops}
use Rattle.rx_tree.specs.declared.stops.Stops.TheVariants as s
use Rattle.rx_tree.specs.StopWords.{is_stop}
use Rattle.rx_tree.specs.Operators.{Tokens}
use Rattle.rx_tree.specs.Terms.{term_of, name_of, is_string, call_at, is_colon, colon_follows}
use Rattle.rx_tree.specs.Expressions.{AreSigns, no_sign, sign, IsAbove, no_above}
use Rattle.rx_tree.specs.Expressions as p
use Rattle.rx_exprs.specs.declared.operators.Bracketed.{Bracketed}
use Rattle.rx_exprs.specs.declared.operators.Bracketed.TheVariants.{Round}
use Rattle.rx_exprs.specs.declared.operators.End.{End}
use Rattle.rx_exprs.specs.declared.operators.End.TheVariants.{Comma}
use Rattle.rx_exprs.specs.Marks.{is_left, opened, opened_at, end_of, end_at, if_close, ended_at}
use Rattle.rx_exprs.specs.Reader.{with_parts, with_signs, with_terms, signs, above_at, loosest, read, primary, terms, parts, args}
use Rattle.rx_exprs.proofs.Tables.{opening_at, next_level, no-opening-at, no-operator, next-operator}
use Rattle.rx_exprs.proofs.Written.{Joined, no_more, joined, Listed, last_arg, next_arg, Arg, omitted, given}
use Rattle.rx_exprs.proofs.Heads.{BeginsTerm, Begins, begins}

-- a number that isn't 0 is one more than another
pub step : (P : ℕ → Type 0) (f : ℕ) → 0 < f → ((m : ℕ) → m + 1 ≡ f → P (suc m)) → P f
step P zero h go = absurd (omega arith)
step P (suc m) h go = go m (omega arith)

not-left-term : (kind : TokenKind) (expr : Expr) → term_of kind ≡ Some expr → is_left kind ≡ false
not-left-term k.LeftParen expr is = cc
not-left-term _ expr is = refl

not-left-name : (kind : TokenKind) (name : List ℕ) → name_of kind ≡ Some name → is_left kind ≡ false
not-left-name k.LeftParen name is = cc
not-left-name _ name is = refl

pub word-step : (m : ℕ) (stops : Stops) (t : Token) (rest : Tokens) (expr : Expr) → term_of t.kind ≡ Some expr → is_stop stops t.kind ≡ false
    → call_at rest ≡ None → primary (suc m) stops (t ∷ rest) ≡ Ok (expr, rest)
word-step m stops t rest expr p q r = let l = not-left-term t.kind expr p in rw (l, q, r, p)

pub group-step : (m : ℕ) (stops : Stops) (t u : Token) (behind rest : Tokens) (expr : Expr) → t.kind ≡ k.LeftParen → u.kind ≡ k.RightParen
    → read m s.Nothing loosest behind ≡ Ok (expr, u ∷ rest) → primary (suc m) stops (t ∷ behind) ≡ Ok (e.Group expr, rest)
group-step m stops t u behind rest expr p q r = rw (p, r, q)

pub function-step : (m : ℕ) (stops : Stops) (t : Token) (behind tokens rest : Tokens) (name : List ℕ) (list : List (Option Expr))
    → name_of t.kind ≡ Some name → is_stop stops t.kind ≡ false → call_at behind ≡ Some tokens → args m Round tokens ≡ Ok (list, rest)
    → primary (suc m) stops (t ∷ behind) ≡ Ok (e.Function name (is_string t.kind) list, rest)
function-step m stops t behind tokens rest name list p q r h =
    let l = not-left-name t.kind name p in rw (l, q, r, p, h)

pub above-step : {class : Option (List ℕ)} {tokens rest : Tokens} → IsAbove class tokens rest → above_at tokens ≡ Ok (class, rest)
above-step (no_above {rest = rest} is) = go rest is
  where
    go : (rest : Tokens) → colon_follows rest ≡ false → above_at rest ≡ Ok (None, rest)
    go [] is = refl
    go (t ∷ behind) is = rw is
above-step (p.above t u class is named) = let colon : is_colon t.kind ≡ true = ap is_colon is in rw (colon, named)

pub with-parts : (receiver : Expr) (list : List SendPart) → list ≢ [] → with_parts receiver list ≡ e.Sends receiver list
with-parts receiver [] some = absurd (some refl)
with-parts receiver (x ∷ xs) some = refl

pub with-signs : (opers : List Oper) (term : Expr) → opers ≢ [] → with_signs opers term ≡ e.Prefix opers term
with-signs [] term some = absurd (some refl)
with-signs (x ∷ xs) term some = refl

pub with-terms : (first : Expr) (list : List (Oper × Expr)) → list ≢ [] → with_terms first list ≡ e.Chain first list
with-terms first [] some = absurd (some refl)
with-terms first (x ∷ xs) some = refl

no-signs : (tokens : Tokens) → BeginsTerm tokens → signs tokens ≡ ([], tokens)
no-signs tokens b = rw (b.is, b.sign_none)

pub signs-are : {opers : List Oper} {tokens behind : Tokens} → AreSigns opers tokens behind → BeginsTerm behind → signs tokens ≡ (opers, behind)
signs-are (no_sign {rest = rest}) b = no-signs rest b
signs-are (sign t is later) b = rw (is, signs-are later b)

not-opened : (tokens : Tokens) → opening_at tokens ≡ None → opened_at tokens ≡ None
not-opened [] is = refl
not-opened (t ∷ behind) is = ap (λ o. opened o behind) is

pub parts-end : (m : ℕ) (found : List SendPart) (rest : Tokens) → opening_at rest ≡ None → parts (suc m) found rest ≡ Ok (found, rest)
parts-end m found rest is = rw (not-opened rest is)

pub terms-end : (m : ℕ) (stops : Stops) (n : ℕ) (found : List (Oper × Expr)) (rest : Tokens) → suc (suc (suc n)) < next_level stops rest
    → terms (suc m) stops n found rest ≡ Ok (found, rest)
terms-end m stops n found rest h = rw (no-operator stops (suc (suc (suc n))) rest h)

-- an expression of a level is one of the next
pub lift : (n m : ℕ) (stops : Stops) (tokens rest : Tokens) (expr : Expr) → read m stops n tokens ≡ Ok (expr, rest)
    → suc n < next_level stops rest → (n ≡ 1 → BeginsTerm tokens) → 0 < m → read (suc m) stops (suc n) tokens ≡ Ok (expr, rest)
lift n zero stops tokens rest expr is h b some = absurd (omega arith)
lift zero (suc m) stops tokens rest expr is h b some = rw (is, parts-end m [] rest (no-opening-at stops rest h))
lift (suc zero) (suc m) stops tokens rest expr is h b some = rw (no-signs tokens (b refl), is)
lift (suc (suc n)) (suc m) stops tokens rest expr is h b some = rw (is, terms-end m stops n [] rest h)

pub joined-next : {stops : Stops} {n : ℕ} {list : List (Oper × Expr)} {tokens rest : Tokens} → Joined stops n list tokens rest
    → suc (suc (suc n)) < next_level stops rest → suc (suc n) < next_level stops tokens
joined-next no_more h = omega arith
joined-next (joined {stops = stops} {oper = oper} {tokens = tokens} {behind = behind} at same operand others) h =
    let x = next-operator stops tokens (oper, behind) at in omega arith

pub no-end : (bracketed : Bracketed) (tokens : Tokens) → Begins tokens → end_at bracketed tokens ≡ None
no-end bracketed tokens b = rw (b.is, b.no_end bracketed)

pub end-is : (bracketed : Bracketed) (t : Token) (rest : Tokens) (end : End) → end_of bracketed t.kind ≡ Some end → end_at bracketed (t ∷ rest) ≡ Some (end, rest)
end-is bracketed t rest end is = rw is

not-closed-arg : {arg : Option Expr} {tokens rest : Tokens} → Arg arg tokens rest → (bracketed : Bracketed) → (arg ≡ None → ended_at bracketed rest ≡ None)
    → ended_at bracketed tokens ≡ None
not-closed-arg omitted bracketed h = h refl
not-closed-arg (given {tokens = tokens} inner) bracketed h = ap if_close (no-end bracketed tokens (begins inner))

only-none : (arg : Option Expr) → arg ∷ [] ≢ None ∷ [] → arg ≡ None → ⊥
only-none arg h is = h (ap (λ a. a ∷ []) is)

pub not-closed : {bracketed : Bracketed} {list : List (Option Expr)} {tokens rest : Tokens} → Listed bracketed list tokens rest → list ≢ None ∷ []
    → ended_at bracketed tokens ≡ None
not-closed (last_arg {bracketed = b} {arg = a} t arg p) h = not-closed-arg arg b (λ is. absurd (only-none a h is))
not-closed (next_arg {bracketed = b} {behind = behind} t arg p list) h = not-closed-arg arg b (λ is. ap if_close (end-is b t behind Comma p))
