-- What the tables of single tokens say, and at which level tokens go on with what stands before them.
use Rattle.std.proofs.Common.{◌≡◌, ◌≢◌, ℕ, suc, ◌<◌, ◌≤◌, Bool, true, false, if◌then◌else◌, ◌==◌, ◌||◌, List, [], ◌∷◌, length, Option, Some, None, Ok, refl, ap, subst, arith}
use Rattle.std.specs.Prelude.{is_some}
use Rattle.rx_tree.specs.declared.token.Oper.{Oper}
use Rattle.rx_tree.specs.declared.token.Oper.TheVariants as o
use Rattle.rx_tree.specs.declared.token.Token.{Token}
use Rattle.rx_tree.specs.declared.token.TokenKind.{TokenKind}
use Rattle.rx_tree.specs.declared.token.TokenKind.TheVariants as k
use Rattle.rx_tree.specs.declared.expr.Expr.{Expr}
use Rattle.rx_tree.specs.declared.stops.Stops.{Stops}
use Rattle.rx_tree.specs.StopWords.{is_stop}
use Rattle.rx_tree.specs.Operators.{Tokens, level, sign_of, join, joint_of_oper, joint_of, operator_at, begins_message, message_follows, goes_on}
use Rattle.rx_tree.specs.Terms.{term_of, name_of}
use Rattle.rx_tree.specs.Expressions.{tilde}
use Rattle.rx_exprs.specs.declared.operators.Opening.{Opening}
use Rattle.rx_exprs.specs.declared.operators.Opening.TheVariants.{Tilde, Bracket}
use Rattle.rx_exprs.specs.declared.operators.Bracketed.{Bracketed}
use Rattle.rx_exprs.specs.declared.operators.Bracketed.TheVariants.{Round, Square}
use Rattle.rx_exprs.specs.declared.operators.End.{End}
use Rattle.rx_exprs.specs.declared.operators.End.TheVariants.{Comma, Close}
use Rattle.rx_exprs.specs.Marks.{opening_of, closing, end_of}
use Rattle.rx_exprs.specs.Reader.{Outcome, if_level, operator_of, loosest}

pub some-is : {A : Type 0} {x y : A} → Some x ≡ Some y → x ≡ y
some-is is = cc

pub ok-is : {A : Type 0} {x y : A × Tokens} → (let a : Outcome A = Ok x in let b : Outcome A = Ok y in a ≡ b) → x ≡ y
ok-is is = cc

pub no-sign-term : (kind : TokenKind) (expr : Expr) → term_of kind ≡ Some expr → sign_of kind ≡ None
no-sign-term (k.Operator oper) expr is = cc
no-sign-term _ expr is = refl

pub no-sign-name : (kind : TokenKind) (name : List ℕ) → name_of kind ≡ Some name → sign_of kind ≡ None
no-sign-name (k.Operator oper) name is = cc
no-sign-name _ name is = refl

pub no-end-term : (bracketed : Bracketed) (kind : TokenKind) (expr : Expr) → term_of kind ≡ Some expr → end_of bracketed kind ≡ None
no-end-term Round k.Comma expr is = cc
no-end-term Square k.Comma expr is = cc
no-end-term Round k.RightParen expr is = cc
no-end-term Square k.RightBracket expr is = cc
no-end-term Round _ expr is = refl
no-end-term Square _ expr is = refl

pub no-end-name : (bracketed : Bracketed) (kind : TokenKind) (name : List ℕ) → name_of kind ≡ Some name → end_of bracketed kind ≡ None
no-end-name Round k.Comma name is = cc
no-end-name Square k.Comma name is = cc
no-end-name Round k.RightParen name is = cc
no-end-name Square k.RightBracket name is = cc
no-end-name Round _ name is = refl
no-end-name Square _ name is = refl

pub no-end-sign : (bracketed : Bracketed) (kind : TokenKind) (oper : Oper) → sign_of kind ≡ Some oper → end_of bracketed kind ≡ None
no-end-sign Round (k.Operator other) oper is = refl
no-end-sign Square (k.Operator other) oper is = refl
no-end-sign Round _ oper is = cc
no-end-sign Square _ oper is = cc

-- ---- openings and ends, by their tokens

pub opening-tilde : (kind : TokenKind) (back : Bool) → kind ≡ k.Operator (tilde back) → opening_of kind ≡ Some (Tilde back)
opening-tilde kind true is = ap opening_of is
opening-tilde kind false is = ap opening_of is

pub tilde-opening : (kind : TokenKind) (back : Bool) → opening_of kind ≡ Some (Tilde back) → kind ≡ k.Operator (tilde back)
tilde-opening (k.Operator o.Send) back is = let e : false ≡ back = cc in ap (λ b. k.Operator (tilde b)) e
tilde-opening (k.Operator o.SendBack) back is = let e : true ≡ back = cc in ap (λ b. k.Operator (tilde b)) e
tilde-opening (k.Operator _) back is = cc
tilde-opening k.LeftBracket back is = cc
tilde-opening _ back is = cc

pub bracket-opening : (kind : TokenKind) → opening_of kind ≡ Some Bracket → kind ≡ k.LeftBracket
bracket-opening (k.Operator o.Send) is = cc
bracket-opening (k.Operator o.SendBack) is = cc
bracket-opening (k.Operator _) is = cc
bracket-opening k.LeftBracket is = refl
bracket-opening _ is = cc

pub end-close : (bracketed : Bracketed) (kind : TokenKind) → kind ≡ closing bracketed → end_of bracketed kind ≡ Some Close
end-close Round kind is = ap (end_of Round) is
end-close Square kind is = ap (end_of Square) is

pub close-end : (bracketed : Bracketed) (kind : TokenKind) → end_of bracketed kind ≡ Some Close → kind ≡ closing bracketed
close-end Round k.RightParen is = refl
close-end Square k.RightBracket is = refl
close-end Round k.Comma is = cc
close-end Square k.Comma is = cc
close-end Round _ is = cc
close-end Square _ is = cc

pub end-comma : (bracketed : Bracketed) (kind : TokenKind) → kind ≡ k.Comma → end_of bracketed kind ≡ Some Comma
end-comma Round kind is = ap (end_of Round) is
end-comma Square kind is = ap (end_of Square) is

pub comma-end : (bracketed : Bracketed) (kind : TokenKind) → end_of bracketed kind ≡ Some Comma → kind ≡ k.Comma
comma-end Round k.Comma is = refl
comma-end Square k.Comma is = refl
comma-end Round k.RightParen is = cc
comma-end Square k.RightBracket is = cc
comma-end Round _ is = cc
comma-end Square _ is = cc

-- ---- operators

pub record IsOperator (found : Oper × Tokens) (here : Tokens) : Type 0 where
  pub above : 2 < level found.0
  pub below : level found.0 < 10
  pub behind : length found.1 ≤ length here

operator-is : (oper : Oper) (there here : Tokens) (found : Oper × Tokens) → Some (oper, there) ≡ Some found
    → 2 < level oper → level oper < 10 → length there ≤ length here → IsOperator found here
operator-is oper there here found is above below behind =
    subst (λ (f : Oper × Tokens). IsOperator f here) (some-is is) (record { above = above; below = below; behind = behind })

join-is : (blank : Bool) (here : Tokens) (found : Oper × Tokens) → Some (join blank, here) ≡ Some found → IsOperator found here
join-is true here found is = operator-is o.Blank here here found is (omega arith) (omega arith) (omega arith)
join-is false here found is = operator-is o.Abuttal here here found is (omega arith) (omega arith) (omega arith)

oper-is : (oper : Oper) (blank : Bool) (here behind : Tokens) (found : Oper × Tokens) → length behind ≤ length here
    → joint_of_oper oper blank here behind ≡ Some found → IsOperator found here
oper-is o.Not blank here behind found h is = join-is blank here found is
oper-is o.Send blank here behind found h is = cc
oper-is o.SendBack blank here behind found h is = cc
oper-is o.Blank blank here behind found h is = cc
oper-is o.Abuttal blank here behind found h is = cc
oper-is _ blank here behind found h is = operator-is _ behind here found is (omega arith) (omega arith) h

token-is : (kind : TokenKind) (blank : Bool) (here behind : Tokens) (found : Oper × Tokens) → length behind ≤ length here
    → joint_of kind blank here behind ≡ Some found → IsOperator found here
token-is (k.Operator oper) blank here behind found h is = oper-is oper blank here behind found h is
token-is (k.Simple name) blank here behind found h is = join-is blank here found is
token-is (k.Stem stem) blank here behind found h is = join-is blank here found is
token-is (k.Compound stem tail) blank here behind found h is = join-is blank here found is
token-is (k.Constant text) blank here behind found h is = join-is blank here found is
token-is (k.Environment name) blank here behind found h is = join-is blank here found is
token-is (k.Quoted text) blank here behind found h is = join-is blank here found is
token-is k.LeftParen blank here behind found h is = join-is blank here found is
token-is _ blank here behind found h is = cc

unless-none : {A : Type 0} (test : Bool) (x : Option A) (y : A) → (if test then None else x) ≡ Some y → x ≡ Some y
unless-none true x y is = cc
unless-none false x y is = is

pub found-is : (stops : Stops) (tokens : Tokens) (found : Oper × Tokens) → operator_at stops tokens ≡ Some found → IsOperator found tokens
unfolding operator_at
found-is stops [] found is = cc
found-is stops (t ∷ behind) found is =
    token-is t.kind t.blank (t ∷ behind) behind found (omega arith)
    (unless-none (is_stop stops t.kind) (joint_of t.kind t.blank (t ∷ behind) behind) found is)

-- ---- what goes on

abbrev pub opening_at : Tokens → Option Opening
opening_at [] = None
opening_at (t ∷ behind) = opening_of t.kind

abbrev pub level_by : Option Opening → Option (Oper × Tokens) → ℕ
level_by (Some opening) found = 1
level_by None (Some found) = level found.0
level_by None None = 10

-- the level at which what stands here goes on with an expression that stands before it
unfoldable pub next_level : Stops → Tokens → ℕ
next_level stops tokens = level_by (opening_at tokens) (operator_at stops tokens)

-- no operator begins a message
no-opening : (kind : TokenKind) (blank : Bool) (here behind : Tokens) (found : Oper × Tokens) → joint_of kind blank here behind ≡ Some found
    → opening_of kind ≡ None
no-opening (k.Operator o.Send) blank here behind found is = cc
no-opening (k.Operator o.SendBack) blank here behind found is = cc
no-opening k.LeftBracket blank here behind found is = cc
no-opening _ blank here behind found is = refl

opening-none : (stops : Stops) (tokens : Tokens) (found : Oper × Tokens) → operator_at stops tokens ≡ Some found → opening_at tokens ≡ None
unfolding operator_at
opening-none stops [] found is = refl
opening-none stops (t ∷ behind) found is =
    no-opening t.kind t.blank (t ∷ behind) behind found
    (unless-none (is_stop stops t.kind) (joint_of t.kind t.blank (t ∷ behind) behind) found is)

pub next-operator : (stops : Stops) (tokens : Tokens) (found : Oper × Tokens) → operator_at stops tokens ≡ Some found
    → next_level stops tokens ≡ level found.0
unfolding next_level
next-operator stops tokens found is = rw (opening-none stops tokens found is, is)

pub data Next (stops : Stops) (tokens : Tokens) : Type 0 where
  opens : (opening : Opening) → opening_at tokens ≡ Some opening → next_level stops tokens ≡ 1 → Next stops tokens
  operates : (found : Oper × Tokens) → opening_at tokens ≡ None → operator_at stops tokens ≡ Some found → IsOperator found tokens
      → next_level stops tokens ≡ level found.0 → Next stops tokens
  ends_here : opening_at tokens ≡ None → operator_at stops tokens ≡ None → next_level stops tokens ≡ 10 → Next stops tokens

-- the three ways in which what stands here can go on
pub next-is : (stops : Stops) (tokens : Tokens) → Next stops tokens
unfolding next_level
next-is stops tokens = go (opening_at tokens) (operator_at stops tokens) refl refl
  where
    go : (opening : Option Opening) (found : Option (Oper × Tokens)) → opening_at tokens ≡ opening → operator_at stops tokens ≡ found → Next stops tokens
    go (Some opening) found p q = opens opening p (rw (p))
    go None (Some found) p q = operates found p q (found-is stops tokens found q) (rw (p, q))
    go None None p q = ends_here p q (rw (p, q))

pub some-next : (stops : Stops) (tokens : Tokens) → 0 < next_level stops tokens
some-next stops tokens = go (next-is stops tokens)
  where
    go : Next stops tokens → 0 < next_level stops tokens
    go (opens opening p q) = omega arith
    go (operates found p q h r) = omega arith
    go (ends_here p q r) = omega arith

pub no-opening-at : (stops : Stops) (tokens : Tokens) → 1 < next_level stops tokens → opening_at tokens ≡ None
no-opening-at stops tokens h = go (next-is stops tokens)
  where
    go : Next stops tokens → opening_at tokens ≡ None
    go (opens opening p q) = absurd (omega arith)
    go (operates found p q h r) = p
    go (ends_here p q r) = p

-- at level 2 there is no operator behind an operand
pub not-two : (stops : Stops) (tokens : Tokens) → 1 < next_level stops tokens → 2 < next_level stops tokens
not-two stops tokens h = go (next-is stops tokens)
  where
    go : Next stops tokens → 2 < next_level stops tokens
    go (opens opening p q) = absurd (omega arith)
    go (operates found p q h r) = omega arith
    go (ends_here p q r) = omega arith

pub not-one : (stops : Stops) (tokens : Tokens) → opening_at tokens ≡ None → 1 < next_level stops tokens
not-one stops tokens h = go (next-is stops tokens)
  where
    go : Next stops tokens → 1 < next_level stops tokens
    go (opens opening p q) = let e : Some opening ≡ None = cc in cc
    go (operates found p q h r) = omega arith
    go (ends_here p q r) = omega arith

if-level-other : (n : ℕ) (found : Option (Oper × Tokens)) → ((f : Oper × Tokens) → found ≡ Some f → (level f.0 == n) ≡ false) → if_level n found ≡ None
if-level-other n None h = refl
if-level-other n (Some f) h = rw (h f refl)

pub no-operator : (stops : Stops) (n : ℕ) (tokens : Tokens) → n < next_level stops tokens → operator_of stops n tokens ≡ None
unfolding operator_of
no-operator stops n tokens h =
    if-level-other n (operator_at stops tokens) (λ f is. let e = next-operator stops tokens f is in grind arith)

pub operator-here : (stops : Stops) (n : ℕ) (tokens : Tokens) (found : Oper × Tokens) → operator_at stops tokens ≡ Some found → level found.0 ≡ n
    → operator_of stops n tokens ≡ Some found
unfolding operator_of
operator-here stops n tokens found is same = let t : (level found.0 == n) ≡ true = grind arith in rw (is, t)

pub here-operator : (stops : Stops) (n : ℕ) (tokens : Tokens) (found : Oper × Tokens) → operator_of stops n tokens ≡ Some found
    → (operator_at stops tokens ≡ Some found) × (level found.0 ≡ n)
unfolding operator_of
here-operator stops n tokens found is = go (operator_at stops tokens) is
  where
    pick : (f : Oper × Tokens) (b : Bool) → (level f.0 == n) ≡ b → (if b then Some f else None) ≡ Some found → (Some f ≡ Some found) × (level found.0 ≡ n)
    pick f true t same = let e : f ≡ found = some-is same in (same, let g : level f.0 ≡ n = grind arith in cc)
    pick f false t same = cc

    go : (at : Option (Oper × Tokens)) → if_level n at ≡ Some found → (at ≡ Some found) × (level found.0 ≡ n)
    go None same = cc
    go (Some f) same = pick f (level f.0 == n) refl same

-- where no operator of level n stands, one of the next level may
pub passes : (stops : Stops) (n : ℕ) (tokens : Tokens) → n < 7 → suc (suc n) < next_level stops tokens → operator_of stops (suc (suc (suc n))) tokens ≡ None
    → suc (suc (suc n)) < next_level stops tokens
passes stops n tokens small h none = go (next-is stops tokens)
  where
    other : (found : Oper × Tokens) → operator_at stops tokens ≡ Some found → level found.0 ≢ suc (suc (suc n))
    other found is same = let e = operator-here stops (suc (suc (suc n))) tokens found is same in let x : None ≡ Some found = cc in cc

    go : Next stops tokens → suc (suc (suc n)) < next_level stops tokens
    go (opens opening p q) = absurd (omega arith)
    go (operates found p q i r) = let x = other found q in omega arith
    go (ends_here p q r) = omega arith

-- ---- where nothing goes on

opening-begins : (kind : TokenKind) → opening_of kind ≡ None → begins_message kind ≡ false
opening-begins (k.Operator o.Send) is = cc
opening-begins (k.Operator o.SendBack) is = cc
opening-begins (k.Operator _) is = refl
opening-begins k.LeftBracket is = cc
opening-begins _ is = refl

begins-opening : (kind : TokenKind) → begins_message kind ≡ false → opening_of kind ≡ None
begins-opening (k.Operator o.Send) is = cc
begins-opening (k.Operator o.SendBack) is = cc
begins-opening (k.Operator _) is = refl
begins-opening k.LeftBracket is = cc
begins-opening _ is = refl

no-message : (tokens : Tokens) → opening_at tokens ≡ None → message_follows tokens ≡ false
no-message [] is = refl
no-message (t ∷ behind) is = opening-begins t.kind is

no-opening-follows : (tokens : Tokens) → message_follows tokens ≡ false → opening_at tokens ≡ None
no-opening-follows [] is = refl
no-opening-follows (t ∷ behind) is = begins-opening t.kind is

neither : (a b : Bool) → (a || b) ≡ false → (a ≡ false) × (b ≡ false)
neither false false is = (refl, refl)
neither true b is = cc
neither false true is = cc

none-is : {A : Type 0} (found : Option A) → is_some found ≡ false → found ≡ None
none-is None is = refl
none-is (Some x) is = cc

pub whole-next : (stops : Stops) (tokens : Tokens) → goes_on stops tokens ≡ false → loosest < next_level stops tokens
unfolding goes_on next_level
whole-next stops tokens is =
    let both = neither (message_follows tokens) (is_some (operator_at stops tokens)) is in
    let opening = no-opening-follows tokens both.0 in
    let operator = none-is (operator_at stops tokens) both.1 in
    rw (opening, operator) (omega arith)

pub next-whole : (stops : Stops) (tokens : Tokens) → loosest < next_level stops tokens → goes_on stops tokens ≡ false
unfolding goes_on
next-whole stops tokens h = go (next-is stops tokens)
  where
    go : Next stops tokens → (message_follows tokens || is_some (operator_at stops tokens)) ≡ false
    go (opens opening p q) = absurd (omega arith)
    go (operates found p q i r) = let x = i.below in absurd (omega arith)
    go (ends_here p q r) = rw (no-message tokens p, q)

-- ---- behind a bracket or a comma nothing goes on

close-by : (bracketed : Bracketed) (kind : TokenKind) (end : End) (blank : Bool) (here behind : Tokens) → end_of bracketed kind ≡ Some end
    → (joint_of kind blank here behind ≡ None) × (opening_of kind ≡ None)
close-by Round k.Comma end blank here behind is = (refl, refl)
close-by Square k.Comma end blank here behind is = (refl, refl)
close-by Round k.RightParen end blank here behind is = (refl, refl)
close-by Square k.RightBracket end blank here behind is = (refl, refl)
close-by Round _ end blank here behind is = cc
close-by Square _ end blank here behind is = cc

none-either : {A : Type 0} (test : Bool) (x : Option A) → x ≡ None → (if test then None else x) ≡ None
none-either true x is = refl
none-either false x is = is

pub end-next : (stops : Stops) (bracketed : Bracketed) (t : Token) (end : End) (rest : Tokens) → end_of bracketed t.kind ≡ Some end
    → next_level stops (t ∷ rest) ≡ 10
unfolding next_level operator_at
end-next stops bracketed t end rest is =
    let both = close-by bracketed t.kind end t.blank (t ∷ rest) rest is in
    rw (both.1, none-either (is_stop stops t.kind) _ both.0)

pub right-next : (stops : Stops) (t : Token) (rest : Tokens) → t.kind ≡ k.RightParen → next_level stops (t ∷ rest) ≡ 10
right-next stops t rest is = end-next stops Round t Close rest (ap (end_of Round) is)
