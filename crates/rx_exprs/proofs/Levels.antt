-- Levels as a condition on finished trees, and levels as a number of the fact: both say the same.
use Rattle.std.proofs.Common.{◌≡◌, ◌≢◌, ℕ, zero, suc, ◌+◌, ◌-◌, ◌<◌, ◌≤◌, Bool, List, [], ◌∷◌, Option, Some, refl, sym, ◌∙◌, ap, subst, arith}
use Rattle.rx_tree.specs.declared.name.Name.{Name}
use Rattle.rx_tree.specs.declared.name.Name.TheVariants as n
use Rattle.rx_tree.specs.declared.value.Value.{Value}
use Rattle.rx_tree.specs.declared.value.Value.TheVariants.{Str}
use Rattle.rx_tree.specs.declared.token.Oper.{Oper}
use Rattle.rx_tree.specs.declared.token.TokenKind.{TokenKind}
use Rattle.rx_tree.specs.declared.token.TokenKind.TheVariants as k
use Rattle.rx_tree.specs.declared.expr.Expr.{Expr}
use Rattle.rx_tree.specs.declared.expr.Expr.TheVariants as e
use Rattle.rx_tree.specs.declared.expr.SendPart.{SendPart}
use Rattle.rx_tree.specs.declared.stops.Stops.{Stops}
use Rattle.rx_tree.specs.Operators.{Tokens, level}
use Rattle.rx_tree.specs.Terms.{term_of, is_string}
use Rattle.rx_tree.specs.Expressions as p
use Rattle.rx_tree.specs.Expressions.{first_level, layer_looseness, looseness, AreOfLevel, IsChain, IsSpelt, AreTerms, AreParts, IsCall, AreArgs, AreListed, IsArg, Fits}
use Rattle.rx_exprs.specs.declared.operators.Bracketed.{Bracketed}
use Rattle.rx_exprs.specs.declared.operators.Bracketed.TheVariants.{Round, Square}
use Rattle.rx_exprs.specs.Marks.{opening_of, closing}
use Rattle.rx_exprs.specs.Reader.{loosest}
use Rattle.rx_exprs.proofs.Tables.{some-is, found-is, opening-tilde, tilde-opening, bracket-opening, end-close, close-end, end-comma, comma-end, whole-next, next-whole}
use Rattle.rx_exprs.proofs.Written as w
use Rattle.rx_exprs.proofs.Written.{Written, Joined, Sent, Called, Args, Listed, Arg, IsWhole}

loose-chain : (first : Expr) (terms : List (Oper × Expr)) → looseness (e.Chain first terms) ≡ first_level terms
unfolding looseness
loose-chain first terms = ap layer_looseness (e.outs-Chain first terms)

loose-prefix : (opers : List Oper) (term : Expr) → looseness (e.Prefix opers term) ≡ 2
unfolding looseness
loose-prefix opers term = ap layer_looseness (e.outs-Prefix opers term)

loose-sends : (receiver : Expr) (parts : List SendPart) → looseness (e.Sends receiver parts) ≡ 1
unfolding looseness
loose-sends receiver parts = ap layer_looseness (e.outs-Sends receiver parts)

loose-group : (inner : Expr) → looseness (e.Group inner) ≡ 0
unfolding looseness
loose-group inner = ap layer_looseness (e.outs-Group inner)

loose-function : (name : List ℕ) (string : Bool) (args : List (Option Expr)) → looseness (e.Function name string args) ≡ 0
unfolding looseness
loose-function name string args = ap layer_looseness (e.outs-Function name string args)

loose-name : (name : Name) → looseness (e.Name name) ≡ 0
unfolding looseness
loose-name name = ap layer_looseness (e.outs-Name name)

loose-const : (value : Value) → looseness (e.Const value) ≡ 0
unfolding looseness
loose-const value = ap layer_looseness (e.outs-Const value)

loose-environment : (name : List ℕ) → looseness (e.Environment name) ≡ 0
unfolding looseness
loose-environment name = ap layer_looseness (e.outs-Environment name)

loose-term : (kind : TokenKind) (expr : Expr) → term_of kind ≡ Some expr → looseness expr ≡ 0
loose-term (k.Simple name) expr is = ap looseness (sym (some-is is)) ∙ loose-name (n.Simple name)
loose-term (k.Stem stem) expr is = ap looseness (sym (some-is is)) ∙ loose-name (n.Stem stem)
loose-term (k.Compound stem tail) expr is = ap looseness (sym (some-is is)) ∙ loose-name (n.Compound stem tail)
loose-term (k.Constant text) expr is = ap looseness (sym (some-is is)) ∙ loose-const (Str text)
loose-term (k.Environment name) expr is = ap looseness (sym (some-is is)) ∙ loose-environment name
loose-term (k.Quoted text) expr is = ap looseness (sym (some-is is)) ∙ loose-const (Str text)
loose-term _ expr is = cc

-- an expression of a level is one of each looser level
pub raise : {stops : Stops} {expr : Expr} {tokens rest : Tokens} (n m : ℕ) → Written stops n expr tokens rest → n ≤ m → Written stops m expr tokens rest
raise {stops = stops} {expr = expr} {tokens = tokens} {rest = rest} n m written h = go (m - n) m (omega arith) written
  where
    go : (more m : ℕ) → m ≡ n + more → Written stops n expr tokens rest → Written stops m expr tokens rest
    go zero m is x = let same : n ≡ m = omega arith in subst (λ i. Written stops i expr tokens rest) same x
    go (suc more) m is x =
        let same : suc (n + more) ≡ m = omega arith in
        subst (λ i. Written stops i expr tokens rest) same (w.above (go more (n + more) refl x))

raise-to : {stops : Stops} {expr : Expr} {tokens rest : Tokens} (n m : ℕ) → n ≡ m → Written stops n expr tokens rest → Written stops m expr tokens rest
raise-to {stops = stops} {expr = expr} {tokens = tokens} {rest = rest} n m is x = subst (λ i. Written stops i expr tokens rest) is x

three-up : (n : ℕ) → 2 < n → (k : ℕ) × (n ≡ suc (suc (suc k)))
three-up n h = (n - 3, omega arith)

pub record Levelled (stops : Stops) (expr : Expr) (tokens rest : Tokens) : Type 0 where
  pub written : Written stops (looseness expr) expr tokens rest
  pub small : looseness expr < 10

first-level : {stops : Stops} {terms : List (Oper × Expr)} {tokens rest : Tokens} → AreTerms stops terms tokens rest → terms ≢ []
    → (2 < first_level terms) × (first_level terms < 10)
first-level p.no_term some = absurd (some refl)
first-level (p.term {stops = stops} {oper = oper} {tokens = tokens} {behind = behind} at operand others) some =
    let f = found-is stops tokens (oper, behind) at in (f.above, f.below)

chain-some : (first : Expr) (terms : List (Oper × Expr)) → IsChain first terms → terms ≢ []
chain-some first [] is = absurd is
chain-some first (x ∷ xs) is = λ e. cc

chain-first : (first : Expr) (terms : List (Oper × Expr)) → IsChain first terms → (looseness first < first_level terms) × AreOfLevel (first_level terms) terms
chain-first first [] is = absurd is
chain-first first (x ∷ xs) is = is

mutual
  pub levelled : {stops : Stops} {expr : Expr} {tokens rest : Tokens} → IsSpelt stops expr tokens rest → Levelled stops expr tokens rest
  levelled (p.word {stops = stops} {expr = expr} {rest = rest} t a b c) =
      let z = loose-term t.kind expr a in
      record { written = raise-to 0 (looseness expr) (sym z) (w.word t a b c); small = omega arith }
  levelled (p.group {stops = stops} {expr = expr} {tokens = tokens} {rest = rest} t u a inner b) =
      let z = loose-group expr in
      let i = levelled inner in
      let h = i.small in
      record { written = raise-to 0 (looseness (e.Group expr)) (sym z) (w.group t u a (raise (looseness expr) loosest i.written (omega arith)) b); small = omega arith }
  levelled (p.function {stops = stops} {args = args} {tokens = tokens} {behind = behind} {rest = rest} t name a b c list) =
      let z = loose-function name (is_string t.kind) args in
      record { written = raise-to 0 (looseness (e.Function name (is_string t.kind) args)) (sym z) (w.function t name a b c (args-levelled list Round refl)); small = omega arith }
  levelled (p.sends {stops = stops} {receiver = receiver} {parts = parts} first tight messages some) =
      let z = loose-sends receiver parts in
      let i = levelled first in
      record { written = raise-to 1 (looseness (e.Sends receiver parts)) (sym z) (w.sends (raise-to (looseness receiver) 0 tight i.written) (parts-levelled messages) some); small = omega arith }
  levelled (p.prefix {stops = stops} {term = term} {opers = opers} signed some inner tight) =
      let z = loose-prefix opers term in
      let i = levelled inner in
      record { written = raise-to 2 (looseness (e.Prefix opers term)) (sym z) (w.prefix signed some (raise (looseness term) 1 i.written (omega arith))); small = omega arith }
  levelled (p.chain {stops = stops} {first = first} {terms = terms} operand others is) =
      let z = loose-chain first terms in
      let some = chain-some first terms is in
      let bounds = first-level others some in
      let low = bounds.0 in
      let high = bounds.1 in
      let up = three-up (first_level terms) bounds.0 in
      let n = up.0 in
      let same : first_level terms ≡ suc (suc (suc n)) = up.1 in
      let parts = chain-first first terms is in
      let less = parts.0 in
      let i = levelled operand in
      let made = w.chain (raise (looseness first) (suc (suc n)) i.written (omega arith))
      (terms-levelled others n (subst (λ (l : ℕ). AreOfLevel l terms) same parts.1)) some in
      record { written = raise-to (suc (suc (suc n))) (looseness (e.Chain first terms)) (sym (z ∙ same)) made; small = omega arith }

  terms-levelled : {stops : Stops} {terms : List (Oper × Expr)} {tokens rest : Tokens} → AreTerms stops terms tokens rest → (n : ℕ) → AreOfLevel (suc (suc (suc n))) terms
      → Joined stops n terms tokens rest
  terms-levelled p.no_term n is = w.no_more
  terms-levelled (p.term {expr = expr} at operand others) n is =
      let i = levelled operand in
      let less = is.1 in
      w.joined at is.0 (raise (looseness expr) (suc (suc n)) i.written (omega arith)) (terms-levelled others n is.2)

  parts-levelled : {parts : List SendPart} {tokens rest : Tokens} → AreParts parts tokens rest → Sent parts tokens rest
  parts-levelled p.no_part = w.no_part
  parts-levelled (p.message {back = back} t u name a b c called others) =
      w.message t u name (opening-tilde t.kind back a) b c (call-levelled called) (parts-levelled others)
  parts-levelled (p.bracket t a list others) = w.bracket t (ap opening_of a) (args-levelled list Square refl) (parts-levelled others)

  call-levelled : {args : List (Option Expr)} {tokens rest : Tokens} → IsCall args tokens rest → Called args tokens rest
  call-levelled (p.no_call a) = w.no_call a
  call-levelled (p.call a list) = w.call a (args-levelled list Round refl)

  args-levelled : {close : TokenKind} {args : List (Option Expr)} {tokens rest : Tokens} → AreArgs close args tokens rest → (bracketed : Bracketed)
      → close ≡ closing bracketed → Args bracketed args tokens rest
  args-levelled (p.no_args t a) bracketed is = w.no_args t (end-close bracketed t.kind (a ∙ is))
  args-levelled (p.some_args list some) bracketed is = w.some_args (list-levelled list bracketed is) some

  list-levelled : {close : TokenKind} {args : List (Option Expr)} {tokens rest : Tokens} → AreListed close args tokens rest → (bracketed : Bracketed)
      → close ≡ closing bracketed → Listed bracketed args tokens rest
  list-levelled (p.last_arg t arg a) bracketed is = w.last_arg t (arg-levelled arg) (end-close bracketed t.kind (a ∙ is))
  list-levelled (p.next_arg t arg a others) bracketed is =
      w.next_arg t (arg-levelled arg) (end-comma bracketed t.kind a) (list-levelled others bracketed is)

  arg-levelled : {arg : Option Expr} {tokens rest : Tokens} → IsArg arg tokens rest → Arg arg tokens rest
  arg-levelled p.omitted = w.omitted
  arg-levelled (p.given {expr = expr} inner) = let i = levelled inner in let h = i.small in w.given (raise (looseness expr) loosest i.written (omega arith))

pub record Tree (stops : Stops) (n : ℕ) (expr : Expr) (tokens rest : Tokens) : Type 0 where
  pub spelt : IsSpelt stops expr tokens rest
  pub tight : looseness expr ≤ n

record Trees (stops : Stops) (n : ℕ) (terms : List (Oper × Expr)) (tokens rest : Tokens) : Type 0 where
  pub spelt : AreTerms stops terms tokens rest
  pub level : AreOfLevel n terms

chain-is : (first : Expr) (terms : List (Oper × Expr)) (n : ℕ) → terms ≢ [] → looseness first < n → AreOfLevel n terms → IsChain first terms × (first_level terms ≡ n)
chain-is first [] n some h is = absurd (some refl)
chain-is first (x ∷ xs) n some h is =
    let e : n ≡ level x.0 = sym is.0 in
    let less : looseness first < level x.0 = omega arith in
    ((less, subst (λ (l : ℕ). AreOfLevel l (x ∷ xs)) e is), is.0)

mutual
  pub spelt : {stops : Stops} {n : ℕ} {expr : Expr} {tokens rest : Tokens} → Written stops n expr tokens rest → Tree stops n expr tokens rest
  spelt (w.word {expr = expr} t a b c) = let z = loose-term t.kind expr a in record { spelt = p.word t a b c; tight = omega arith }
  spelt (w.group {expr = expr} t u a inner b) = let z = loose-group expr in record { spelt = p.group t u a (spelt inner).spelt b; tight = omega arith }
  spelt (w.function {args = args} t name a b c list) =
      let z = loose-function name (is_string t.kind) args in record { spelt = p.function t name a b c (args-spelt list); tight = omega arith }
  spelt (w.sends {receiver = receiver} {parts = parts} first messages some) =
      let z = loose-sends receiver parts in
      let i = spelt first in
      let h = i.tight in
      let zero : looseness receiver ≡ 0 = omega arith in
      record { spelt = p.sends i.spelt zero (parts-spelt messages) some; tight = omega arith }
  spelt (w.prefix {term = term} {opers = opers} signed some inner) =
      let z = loose-prefix opers term in
      let i = spelt inner in
      let h = i.tight in
      let less : looseness term < 2 = omega arith in
      record { spelt = p.prefix signed some i.spelt less; tight = omega arith }
  spelt (w.chain {n = n} {first = first} {terms = terms} operand others some) =
      let z = loose-chain first terms in
      let i = spelt operand in
      let h = i.tight in
      let more = terms-spelt others in
      let less : looseness first < suc (suc (suc n)) = omega arith in
      let is = chain-is first terms (suc (suc (suc n))) some less more.level in
      let same = is.1 in
      record { spelt = p.chain i.spelt more.spelt is.0; tight = omega arith }
  spelt (w.above inner) = let i = spelt inner in let h = i.tight in record { spelt = i.spelt; tight = omega arith }

  terms-spelt : {stops : Stops} {n : ℕ} {terms : List (Oper × Expr)} {tokens rest : Tokens} → Joined stops n terms tokens rest → Trees stops (suc (suc (suc n))) terms tokens rest
  terms-spelt w.no_more = record { spelt = p.no_term; level = tt }
  terms-spelt (w.joined {n = n} {expr = expr} at same operand others) =
      let i = spelt operand in
      let h = i.tight in
      let more = terms-spelt others in
      let less : looseness expr < suc (suc (suc n)) = omega arith in
      record { spelt = p.term at i.spelt more.spelt; level = (same, less, more.level) }

  parts-spelt : {parts : List SendPart} {tokens rest : Tokens} → Sent parts tokens rest → AreParts parts tokens rest
  parts-spelt w.no_part = p.no_part
  parts-spelt (w.message {back = back} t u name a b c called others) =
      p.message t u name (tilde-opening t.kind back a) b c (call-spelt called) (parts-spelt others)
  parts-spelt (w.bracket t a list others) = p.bracket t (bracket-opening t.kind a) (args-spelt list) (parts-spelt others)

  call-spelt : {args : List (Option Expr)} {tokens rest : Tokens} → Called args tokens rest → IsCall args tokens rest
  call-spelt (w.no_call a) = p.no_call a
  call-spelt (w.call a list) = p.call a (args-spelt list)

  args-spelt : {bracketed : Bracketed} {args : List (Option Expr)} {tokens rest : Tokens} → Args bracketed args tokens rest → AreArgs (closing bracketed) args tokens rest
  args-spelt (w.no_args {bracketed = bracketed} t a) = p.no_args t (close-end bracketed t.kind a)
  args-spelt (w.some_args list some) = p.some_args (list-spelt list) some

  list-spelt : {bracketed : Bracketed} {args : List (Option Expr)} {tokens rest : Tokens} → Listed bracketed args tokens rest → AreListed (closing bracketed) args tokens rest
  list-spelt (w.last_arg {bracketed = bracketed} t arg a) = p.last_arg t (arg-spelt arg) (close-end bracketed t.kind a)
  list-spelt (w.next_arg {bracketed = bracketed} t arg a others) = p.next_arg t (arg-spelt arg) (comma-end bracketed t.kind a) (list-spelt others)

  arg-spelt : {arg : Option Expr} {tokens rest : Tokens} → Arg arg tokens rest → IsArg arg tokens rest
  arg-spelt w.omitted = p.omitted
  arg-spelt (w.given inner) = p.given (spelt inner).spelt

pub whole-of : (stops : Stops) (tokens : Tokens) (expr : Expr) (rest : Tokens) → Fits stops tokens expr rest → IsWhole stops tokens expr rest
whole-of stops tokens expr rest is =
    let i = levelled is.spelt in
    let h = i.small in
    record { written = raise (looseness expr) loosest i.written (omega arith); longest = whole-next stops rest is.whole }

pub of-whole : (stops : Stops) (tokens : Tokens) (expr : Expr) (rest : Tokens) → IsWhole stops tokens expr rest → Fits stops tokens expr rest
of-whole stops tokens expr rest is = record { spelt = (spelt is.written).spelt; whole = next-whole stops rest is.longest }
