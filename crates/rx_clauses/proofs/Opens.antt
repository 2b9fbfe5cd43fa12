-- What expressions begin with.
use Rattle.std.proofs.Common.{◌≡◌, ◌≢◌, ℕ, ◌<◌, Bool, true, false, ◌||◌, if◌then◌else◌, List, [], ◌∷◌, length, Some, None, is_some, Ok, refl, sym, ◌∙◌, ap, arith}
use Rattle.rx_tree.specs.declared.token.Oper.{Oper}
use Rattle.rx_tree.specs.declared.token.Token.{Token}
use Rattle.rx_tree.specs.declared.token.TokenKind.{TokenKind}
use Rattle.rx_tree.specs.declared.token.TokenKind.TheVariants as k
use Rattle.rx_tree.specs.declared.expr.Expr.{Expr}
use Rattle.rx_tree.specs.declared.stops.Stops.{Stops}
use Rattle.rx_tree.specs.Operators.{Tokens, sign_of, joint_of, operator_at, begins_message, goes_on}
use Rattle.rx_tree.specs.StopWords.{is_stop}
use Rattle.rx_tree.specs.Terms.{term_of, name_of}
use Rattle.rx_tree.specs.Expressions.{IsSpelt, AreSigns, no_sign, sign, Fits}
use Rattle.rx_tree.specs.Expressions as p
use Rattle.rx_exprs.specs.Reader.{expression}
use Rattle.rx_clause_tree.specs.ClauseWords.{is_clause_end, behind_end}
use Rattle.rx_clause_tree.specs.Bodies.{is_two_colons, ends_body}
use Rattle.rx_clauses.specs.Parts.{is_comma, ends_argument}
use Rattle.rx_exprs.proofs.Levels.{levelled}
use Rattle.rx_exprs.proofs.Heads as heads
use Rattle.rx_exprs.proofs.Law.{fits_read, read_fits}
use Rattle.rx_exprs.proofs.Shorter.{level_shorter}
use Rattle.rx_exprs.proofs.Steady.{whole}
use Rattle.rx_clauses.proofs.Sure.{Sure, as-read}

-- the tokens that no expression begins with
abbrev pub is_no_operand : TokenKind → Bool
is_no_operand k.Comma = true
is_no_operand k.ClauseEnd = true
is_no_operand k.TwoColons = true
is_no_operand _ = false

no-operand-term : (kind : TokenKind) (expr : Expr) → term_of kind ≡ Some expr → is_no_operand kind ≡ false
no-operand-term k.Comma expr is = cc
no-operand-term k.ClauseEnd expr is = cc
no-operand-term k.TwoColons expr is = cc
no-operand-term _ expr is = refl

no-operand-name : (kind : TokenKind) (name : List ℕ) → name_of kind ≡ Some name → is_no_operand kind ≡ false
no-operand-name k.Comma name is = cc
no-operand-name k.ClauseEnd name is = cc
no-operand-name k.TwoColons name is = cc
no-operand-name _ name is = refl

no-operand-sign : (kind : TokenKind) (oper : Oper) → sign_of kind ≡ Some oper → is_no_operand kind ≡ false
no-operand-sign k.Comma oper is = cc
no-operand-sign k.ClauseEnd oper is = cc
no-operand-sign k.TwoColons oper is = cc
no-operand-sign _ oper is = refl

pub record Opens (tokens : Tokens) : Type 0 where
  pub token : Token
  pub behind : Tokens
  pub is : tokens ≡ token ∷ behind
  pub operand : is_no_operand token.kind ≡ false

signs-open : {opers : List Oper} {tokens rest : Tokens} → AreSigns opers tokens rest → opers ≢ [] → Opens tokens
signs-open no_sign some = absurd (some refl)
signs-open (sign {oper = oper} {behind = behind} t is later) some = record { token = t; behind = behind; is = refl; operand = no-operand-sign t.kind oper is }

pub spelt-opens : {stops : Stops} {expr : Expr} {tokens rest : Tokens} → IsSpelt stops expr tokens rest → Opens tokens
spelt-opens (p.word {expr = e} {rest = r} t a b c) = record { token = t; behind = r; is = refl; operand = no-operand-term t.kind e a }
spelt-opens (p.group {tokens = ts} t u a inner b) = record { token = t; behind = ts; is = refl; operand = ap is_no_operand a }
spelt-opens (p.function {behind = b} t name a c d list) = record { token = t; behind = b; is = refl; operand = no-operand-name t.kind name a }
spelt-opens (p.sends receiver tight parts some) = spelt-opens receiver
spelt-opens (p.prefix signed some term tight) = signs-open signed some
spelt-opens (p.chain first terms is) = spelt-opens first

operand-end : (kind : TokenKind) → is_no_operand kind ≡ false → is_clause_end kind ≡ false
operand-end k.ClauseEnd is = cc
operand-end _ is = refl

operand-comma : (kind : TokenKind) → is_no_operand kind ≡ false → is_comma kind ≡ false
operand-comma k.Comma is = cc
operand-comma _ is = refl

opens-no-end : (tokens : Tokens) → Opens tokens → behind_end tokens ≡ None
opens-no-end tokens b = rw (b.is, operand-end b.token.kind b.operand)

opens-no-argument-end : (tokens : Tokens) → Opens tokens → ends_argument tokens ≡ false
opens-no-argument-end tokens b = rw (b.is, operand-comma b.token.kind b.operand, operand-end b.token.kind b.operand)

pub no-end-spelt : {stops : Stops} {expr : Expr} {tokens rest : Tokens} → IsSpelt stops expr tokens rest → behind_end tokens ≡ None
no-end-spelt {tokens = tokens} spelt = opens-no-end tokens (spelt-opens spelt)

pub no-end : {stops : Stops} {expr : Expr} {tokens rest : Tokens} → Fits stops tokens expr rest → behind_end tokens ≡ None
no-end fits = no-end-spelt fits.spelt

pub no-argument-end : {stops : Stops} {expr : Expr} {tokens rest : Tokens} → IsSpelt stops expr tokens rest → ends_argument tokens ≡ false
no-argument-end {tokens = tokens} spelt = opens-no-argument-end tokens (spelt-opens spelt)

-- ---- expressions

pub expression-read : {stops : Stops} {tokens rest : Tokens} {expr : Expr} → Fits stops tokens expr rest → expression stops tokens ≡ Ok (expr, rest)
expression-read {stops = stops} {tokens = tokens} {rest = rest} {expr = expr} fits = fits_read stops tokens expr rest fits

pub expression-sure : (stops : Stops) (tokens : Tokens) → Sure (λ expr rest. Fits stops tokens expr rest) (expression stops tokens)
expression-sure stops tokens = as-read (expression stops tokens) (λ expr rest is. read_fits stops tokens expr rest is)

pub fits-shorter : {stops : Stops} {expr : Expr} {tokens rest : Tokens} → Fits stops tokens expr rest → length rest < length tokens
fits-shorter {stops = stops} {expr = expr} {tokens = tokens} {rest = rest} fits =
    level_shorter stops 9 tokens expr rest (omega arith) (sym (whole stops tokens) ∙ fits_read stops tokens expr rest fits)

operand-colons : (kind : TokenKind) → is_no_operand kind ≡ false → is_two_colons kind ≡ false
operand-colons k.TwoColons is = cc
operand-colons _ is = refl

opens-no-body : (tokens : Tokens) → Opens tokens → ends_body tokens ≡ false
opens-no-body tokens b = rw (b.is, operand-colons b.token.kind b.operand)

pub fits-no-body : {stops : Stops} {expr : Expr} {tokens rest : Tokens} → Fits stops tokens expr rest → ends_body tokens ≡ false
fits-no-body {tokens = tokens} fits = opens-no-body tokens (spelt-opens fits.spelt)

pub spelt-shorter : {stops : Stops} {expr : Expr} {tokens rest : Tokens} → IsSpelt stops expr tokens rest → length rest < length tokens
spelt-shorter spelt = heads.shorter (levelled spelt).written

-- an expression ends in front of a comma and of a clause end
kind-ends : (stops : Stops) (kind : TokenKind) (blank : Bool) (here behind : Tokens) → is_no_operand kind ≡ true
    → (begins_message kind || is_some (if is_stop stops kind then None else joint_of kind blank here behind)) ≡ false
kind-ends stops k.Comma blank here behind is = refl
kind-ends stops k.ClauseEnd blank here behind is = refl
kind-ends stops k.TwoColons blank here behind is = refl
kind-ends stops _ blank here behind is = cc

ended-kind : (stops : Stops) (t : Token) (rest : Tokens) → is_no_operand t.kind ≡ true → goes_on stops (t ∷ rest) ≡ false
unfolding goes_on operator_at
ended-kind stops t rest is = kind-ends stops t.kind t.blank (t ∷ rest) rest is

pub fits-before-comma : (stops : Stops) (t : Token) (rest tokens : Tokens) (expr : Expr) → t.kind ≡ k.Comma → IsSpelt stops expr tokens (t ∷ rest) → Fits stops tokens expr (t ∷ rest)
fits-before-comma stops t rest tokens expr is spelt = record { spelt = spelt; whole = ended-kind stops t rest (ap is_no_operand is) }

pub fits-before-end : (stops : Stops) (t : Token) (rest tokens : Tokens) (expr : Expr) → t.kind ≡ k.ClauseEnd → IsSpelt stops expr tokens (t ∷ rest) → Fits stops tokens expr (t ∷ rest)
fits-before-end stops t rest tokens expr is spelt = record { spelt = spelt; whole = ended-kind stops t rest (ap is_no_operand is) }
