-- What DO and LOOP begin with, and LEAVE and ITERATE: what is written is read, and what is read is written.
use Rattle.std.proofs.Common.{◌≡◌, ℕ, zero, suc, ◌+◌, ◌<◌, ◌≤◌, Bool, true, false, ◌&&◌, ◌||◌, List, [], ◌∷◌, ◌++◌, length, Option, Some, None, is_some, Ok, refl, sym, ap, subst, arith}
use Rattle.std.specs.Prelude.{codes}
use Rattle.rx_tree.specs.declared.name.Name.{Name}
use Rattle.rx_tree.specs.declared.token.Token.{Token}
use Rattle.rx_tree.specs.declared.token.TokenKind.{TokenKind}
use Rattle.rx_tree.specs.declared.token.TokenKind.TheVariants as k
use Rattle.rx_tree.specs.declared.expr.Expr.{Expr}
use Rattle.rx_tree.specs.declared.stops.Stops.TheVariants as s
use Rattle.rx_tree.specs.Operators.{Tokens}
use Rattle.rx_tree.specs.Expressions.{Fits}
use Rattle.rx_exprs.specs.Reader.{Outcome}
use Rattle.rx_exprs.proofs.Steps.{step}
use Rattle.rx_clause_tree.specs.declared.loops.Bound.{Bound}
use Rattle.rx_clause_tree.specs.declared.loops.Bound.TheVariants as b
use Rattle.rx_clause_tree.specs.declared.loops.Header.{Header}
use Rattle.rx_clause_tree.specs.declared.loops.Header.TheVariants as h
use Rattle.rx_clause_tree.specs.declared.loops.Test.{Test}
use Rattle.rx_clause_tree.specs.declared.loops.Test.TheVariants as w
use Rattle.rx_clause_tree.specs.ClauseWords.{word, is_word, begins_word, variable_of, is_clause_end, is_equal}
use Rattle.rx_clause_tree.specs.Loops as i
use Rattle.rx_clause_tree.specs.Loops.{IsBound, is_bounded, begins_bound, AreBounds, is_control, begins_control, begins_test, IsHeader, IsTest, Loops, are_around, IsLoopName, IsLoopInstruction}
use Rattle.rx_clauses.specs.Parts.{behind_symbol}
use Rattle.rx_clauses.specs.Looping as r
use Rattle.rx_clauses.proofs.Sure.{Sure, sure-then, sure-some, sure-if, sure-as, refused, found}
use Rattle.rx_clauses.proofs.Words.{word-is, end-is, end-found, symbol-found, no-symbol, symbol-no}
use Rattle.rx_clauses.proofs.Opens.{expression-read, expression-sure, fits-shorter}
use Rattle.rx_clauses.proofs.PartsLaw.{variable-sure, to-end-sure, at-end}
use Rattle.rx_clauses.proofs.PlainLaw.{at-word, at-token}

-- ---- bounds

bound-read : {one : Bound} {tokens rest : Tokens} → IsBound one tokens rest → r.bound_at tokens ≡ Ok (Some one, rest)
bound-read (i.to t is fits) = rw (is, expression-read fits)
bound-read (i.by t is fits) = rw (is, expression-read fits)
bound-read (i.for t is fits) = rw (is, expression-read fits)

pub bound-shorter : {one : Bound} {tokens rest : Tokens} → IsBound one tokens rest → length rest < length tokens
bound-shorter (i.to t is fits) = let g = fits-shorter fits in omega arith
bound-shorter (i.by t is fits) = let g = fits-shorter fits in omega arith
bound-shorter (i.for t is fits) = let g = fits-shorter fits in omega arith

either-no : (a b : Bool) → (a || b) ≡ false → (a ≡ false) × (b ≡ false)
either-no false false is = (refl, refl)
either-no true b is = cc
either-no false true is = cc

no-bound : (tokens : Tokens) → begins_bound tokens ≡ false → r.bound_at tokens ≡ Ok (None, tokens)
no-bound tokens is =
    let x = either-no (begins_word (codes "TO") tokens) _ is in
    let y = either-no (begins_word (codes "BY") tokens) _ x.1 in
    rw (no-symbol (codes "TO") tokens x.0, no-symbol (codes "BY") tokens y.0, no-symbol (codes "FOR") tokens y.1)

pub bounds-read : {read all : List Bound} {tokens rest : Tokens} → AreBounds read all tokens rest → (f : ℕ) → length tokens < f → r.bounds f read tokens ≡ Ok (all, rest)
bounds-read (i.no_bound {read = read} {rest = rest} none) f enough =
    step (λ f. r.bounds f read rest ≡ Ok (read, rest)) f (omega arith) (λ m also. rw (no-bound rest none))
bounds-read (i.bound {one = one} {read = read} {all = all} {tokens = tokens} {rest = rest} is new others) f enough =
    step (λ f. r.bounds f read tokens ≡ Ok (all, rest)) f (omega arith) (λ m also.
    let g = bound-shorter is in
    rw (bound-read is, new, bounds-read others m (omega arith)))

pub bounds-shorter : {read all : List Bound} {tokens rest : Tokens} → AreBounds read all tokens rest → length rest ≤ length tokens
bounds-shorter (i.no_bound none) = omega arith
bounds-shorter (i.bound is new others) = let g = bound-shorter is in let j = bounds-shorter others in omega arith

-- a bound, or none where none begins
abbrev pub IsBoundOrNone : Tokens → Option Bound → Tokens → Type 0
IsBoundOrNone tokens None rest = (tokens ≡ rest) × (begins_bound tokens ≡ false)
IsBoundOrNone tokens (Some one) rest = IsBound one tokens rest

bounding-sure : (make : Expr → Bound) (tokens behind : Tokens) → ((expr : Expr) (rest : Tokens) → Fits s.Loop behind expr rest → IsBound (make expr) tokens rest)
    → Sure (λ one rest. IsBoundOrNone tokens one rest) (r.bounding make behind)
bounding-sure make tokens behind go = sure-then _ _ (expression-sure s.Loop behind) (λ expr rest fits. found (Some (make expr)) rest (go expr rest fits))

pub bound-sure : (tokens : Tokens) → Sure (λ one rest. IsBoundOrNone tokens one rest) (r.bound_at tokens)
bound-sure tokens =
    sure-some _ _ _ (λ no_to.
    sure-some _ _ _ (λ no_by.
    sure-some _ _ _ (λ no_for.
    let x = symbol-no (codes "TO") tokens no_to in
    let y = symbol-no (codes "BY") tokens no_by in
    let z = symbol-no (codes "FOR") tokens no_for in
    found None tokens (refl, rw (x, y, z)))
    (λ behind is. bounding-sure b.For tokens behind (λ expr rest fits. at-word (λ ts. IsBound (b.For expr) ts rest) (codes "FOR") tokens behind is (λ t w. i.for t w fits))))
    (λ behind is. bounding-sure b.By tokens behind (λ expr rest fits. at-word (λ ts. IsBound (b.By expr) ts rest) (codes "BY") tokens behind is (λ t w. i.by t w fits))))
    (λ behind is. bounding-sure b.To tokens behind (λ expr rest fits. at-word (λ ts. IsBound (b.To expr) ts rest) (codes "TO") tokens behind is (λ t w. i.to t w fits)))

further-sure : (further : List Bound → Tokens → Outcome (List Bound)) (read : List Bound) (one : Option Bound) (tokens behind : Tokens)
    → ((list : List Bound) (ts : Tokens) → Sure (λ all rest. AreBounds list all ts rest) (further list ts)) → IsBoundOrNone tokens one behind
    → Sure (λ all rest. AreBounds read all tokens rest) (r.further_bounds further read one tokens behind)
further-sure further read None tokens behind go is =
    found read behind (subst (λ (ts : Tokens). AreBounds read read tokens ts) is.0 (i.no_bound is.1))
further-sure further read (Some one) tokens behind go is =
    sure-if _ _ _ (λ twice. refused _) (λ new. sure-as _ (λ all rest others. i.bound is new others) (go (read ++ one ∷ []) behind))

pub bounds-sure : (f : ℕ) (read : List Bound) (tokens : Tokens) → Sure (λ all rest. AreBounds read all tokens rest) (r.bounds f read tokens)
bounds-sure zero read tokens = refused _
bounds-sure (suc m) read tokens =
    sure-then _ _ (bound-sure tokens) (λ one behind is.
    further-sure (λ list ts. r.bounds m list ts) read one tokens behind (λ list ts. bounds-sure m list ts) is)

-- ---- headers

test-no-forever : (tokens : Tokens) → begins_test tokens ≡ true → behind_symbol (codes "FOREVER") tokens ≡ None
test-no-forever [] is = refl
test-no-forever (t ∷ rest) is = go (is_word (codes "WHILE") t.kind) refl is
  where
    last : (test : Bool) → is_clause_end t.kind ≡ test → test ≡ true → behind_symbol (codes "FOREVER") (t ∷ rest) ≡ None
    last true p same = rw (end-is t.kind p)
    last false p same = cc

    until : (test : Bool) → is_word (codes "UNTIL") t.kind ≡ test → (test || is_clause_end t.kind) ≡ true → behind_symbol (codes "FOREVER") (t ∷ rest) ≡ None
    until true p same = rw (word-is (codes "UNTIL") t.kind p)
    until false p same = last (is_clause_end t.kind) refl same

    go : (test : Bool) → is_word (codes "WHILE") t.kind ≡ test → (test || (is_word (codes "UNTIL") t.kind || is_clause_end t.kind)) ≡ true
        → behind_symbol (codes "FOREVER") (t ∷ rest) ≡ None
    go true p same = rw (word-is (codes "WHILE") t.kind p)
    go false p same = until (is_word (codes "UNTIL") t.kind) refl same

over-no-equal : (kind : TokenKind) → kind ≡ word (codes "OVER") → is_equal kind ≡ false
over-no-equal kind is = ap is_equal is

pub header-read : {one : Header} {tokens rest : Tokens} → IsHeader one tokens rest → r.header tokens ≡ Ok (one, rest)
header-read (i.counts {behind = behind} t u named equal fits bounds) =
    rw (named, equal, expression-read fits, bounds-read bounds (length behind + 1) (omega arith))
header-read (i.over t u named is fits) = rw (named, is, expression-read fits)
header-read (i.forever t none is) = rw (none, is)
header-read (i.bare {rest = rest} none tests) = rw (none, test-no-forever rest tests, tests)
header-read (i.times {tokens = tokens} none other tests fits) = rw (none, no-symbol (codes "FOREVER") tokens other, tests, expression-read fits)

pub header-shorter : {one : Header} {tokens rest : Tokens} → IsHeader one tokens rest → length rest ≤ length tokens
header-shorter (i.counts t u named equal fits bounds) = let g = fits-shorter fits in let j = bounds-shorter bounds in omega arith
header-shorter (i.over t u named is fits) = let g = fits-shorter fits in omega arith
header-shorter (i.forever t none is) = omega arith
header-shorter (i.bare none tests) = omega arith
header-shorter (i.times none other tests fits) = let g = fits-shorter fits in omega arith

either-so : (a b : Bool) → (a || b) ≡ true → a ≡ false → b ≡ true
either-so true b is isnt = cc
either-so false b is isnt = is

control-over : (u : Token) → is_control u ≡ true → is_equal u.kind ≡ false → u.kind ≡ word (codes "OVER")
control-over u is isnt = word-is (codes "OVER") u.kind (either-so (is_equal u.kind) (is_word (codes "OVER") u.kind) is isnt)

controlled-sure : (tokens : Tokens) → begins_control tokens ≡ true → Sure (λ one rest. IsHeader one tokens rest) (r.controlled tokens)
controlled-sure [] is = cc
controlled-sure (t ∷ []) is = cc
controlled-sure (t ∷ (u ∷ behind)) is = go (variable_of t.kind) refl is
  where
    go : (name : Option Name) → variable_of t.kind ≡ name → (is_some name && is_control u) ≡ true
        → Sure (λ one rest. IsHeader one (t ∷ (u ∷ behind)) rest) (r.controlled_by name u behind)
    go None named also = refused _
    go (Some name) named also =
        sure-if _ _ _
        (λ equal. sure-then _ _ (expression-sure s.Loop behind) (λ first others fits.
        sure-then _ _ (bounds-sure (length others + 1) [] others) (λ list rest bounds.
        found (h.Counts name first list) rest (i.counts t u named equal fits bounds))))
        (λ isnt. sure-then _ _ (expression-sure s.Loop behind) (λ expr rest fits.
        found (h.Over name expr) rest (i.over t u named (control-over u also isnt) fits)))

forever-at : (tokens rest : Tokens) → begins_control tokens ≡ false → behind_symbol (codes "FOREVER") tokens ≡ Some rest → IsHeader h.Forever tokens rest
forever-at tokens rest none is =
    let f = symbol-found (codes "FOREVER") tokens rest is in
    subst (λ (ts : Tokens). IsHeader h.Forever ts rest) (sym f.is) (i.forever f.token (subst (λ (ts : Tokens). begins_control ts ≡ false) f.is none) f.fact)

pub header-sure : (tokens : Tokens) → Sure (λ one rest. IsHeader one tokens rest) (r.header tokens)
header-sure tokens =
    sure-if _ _ _ (λ control. controlled-sure tokens control) (λ none.
    sure-some _ _ _
    (λ other.
    let isnt = symbol-no (codes "FOREVER") tokens other in
    sure-if _ _ _ (λ tests. found h.Forever tokens (i.bare none tests)) (λ no_test.
    sure-then _ _ (expression-sure s.Loop tokens) (λ expr rest fits. found (h.Times expr) rest (i.times none isnt no_test fits))))
    (λ rest is. found h.Forever rest (forever-at tokens rest none is)))

-- ---- tests

pub test-read : {one : Test} {tokens rest : Tokens} → IsTest one tokens rest → r.test tokens ≡ Ok (one, rest)
test-read (i.no_test t end) = rw end
test-read (i.while t u is fits end) = rw (is, expression-read fits, end)
test-read (i.until t u is fits end) = rw (is, expression-read fits, end)

pub test-shorter : {one : Test} {tokens rest : Tokens} → IsTest one tokens rest → length rest < length tokens
test-shorter (i.no_test t end) = omega arith
test-shorter (i.while t u is fits end) = let g = fits-shorter fits in omega arith
test-shorter (i.until t u is fits end) = let g = fits-shorter fits in omega arith

tested-sure : (make : Expr → Test) (tokens behind : Tokens)
    → ((expr : Expr) (rest : Tokens) (u : Token) → Fits s.Loop behind expr (u ∷ rest) → is_clause_end u.kind ≡ true → IsTest (make expr) tokens rest)
    → Sure (λ one rest. IsTest one tokens rest) (r.tested make behind)
tested-sure make tokens behind go =
    sure-then _ _ (expression-sure s.Loop behind) (λ expr others fits.
    sure-some _ _ _ (λ none. refused _) (λ rest is.
    let f = end-found others rest is in
    found (make expr) rest (go expr rest f.token (subst (λ (ts : Tokens). Fits s.Loop behind expr ts) f.is fits) f.fact)))

pub test-sure : (tokens : Tokens) → Sure (λ one rest. IsTest one tokens rest) (r.test tokens)
test-sure tokens =
    sure-some _ _ _ (λ none.
    sure-some _ _ _ (λ no_while.
    sure-some _ _ _ (λ no_until. refused _)
    (λ behind is. tested-sure w.Until tokens behind (λ expr rest u fits end. at-word (λ ts. IsTest (w.Until expr) ts rest) (codes "UNTIL") tokens behind is (λ t x. i.until t u x fits end))))
    (λ behind is. tested-sure w.While tokens behind (λ expr rest u fits end. at-word (λ ts. IsTest (w.While expr) ts rest) (codes "WHILE") tokens behind is (λ t x. i.while t u x fits end))))
    (λ rest is. found w.Never rest (at-end IsTest w.Never tokens rest is (λ t end. i.no_test t end)))

-- ---- LEAVE and ITERATE

variable-no-end : (kind : TokenKind) (name : Name) → variable_of kind ≡ Some name → is_clause_end kind ≡ false
variable-no-end k.ClauseEnd name is = cc
variable-no-end _ name is = refl

pub loop-name-read : {one : Option Name} {tokens rest : Tokens} → IsLoopName one tokens rest → r.loop_name tokens ≡ Ok (one, rest)
loop-name-read (i.no_loop_name t end) = rw end
loop-name-read (i.loop_name {name = name} t u named end) = rw (variable-no-end t.kind name named, named, end)

pub loop-name-shorter : {one : Option Name} {tokens rest : Tokens} → IsLoopName one tokens rest → length rest < length tokens
loop-name-shorter (i.no_loop_name t end) = omega arith
loop-name-shorter (i.loop_name t u named end) = omega arith

pub loop-name-sure : (tokens : Tokens) → Sure (λ one rest. IsLoopName one tokens rest) (r.loop_name tokens)
loop-name-sure tokens =
    sure-some _ _ _ (λ none.
    sure-then _ _ (variable-sure tokens) (λ name behind named.
    sure-as _ (λ one rest is.
    subst (λ (o : Option Name). IsLoopName o tokens rest) (sym is.0)
    (at-token (λ ts. IsLoopName (Some name) ts rest) named (λ t n.
    let f = end-found behind rest is.1 in
    subst (λ (ts : Tokens). IsLoopName (Some name) (t ∷ ts) rest) (sym f.is) (i.loop_name t f.token n f.fact)))) (to-end-sure (Some name) behind)))
    (λ rest is. found None rest (at-end IsLoopName None tokens rest is (λ t end. i.no_loop_name t end)))
