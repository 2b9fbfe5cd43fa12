-- Names, ends of clauses, expressions that may be omitted, groups and arguments: what is written is read, and what is read is
-- written.
use Rattle.std.proofs.Common.{◌≡◌, ◌≢◌, ℕ, zero, suc, ◌+◌, ◌<◌, ◌≤◌, Bool, true, false, if◌then◌else◌, List, [], ◌∷◌, length, Option, Some, None, Ok, Err, refl, sym, ◌∙◌, ap, subst, arith}
use Rattle.rx_tree.specs.declared.name.Name.{Name}
use Rattle.rx_tree.specs.declared.token.Token.{Token}
use Rattle.rx_tree.specs.declared.token.TokenKind.{TokenKind}
use Rattle.rx_tree.specs.declared.token.TokenKind.TheVariants as k
use Rattle.rx_tree.specs.declared.expr.Expr.{Expr}
use Rattle.rx_tree.specs.declared.expr.Expr.TheVariants as e
use Rattle.rx_tree.specs.declared.stops.Stops.TheVariants as s
use Rattle.rx_tree.specs.Operators.{Tokens}
use Rattle.rx_tree.specs.Expressions.{IsSpelt, AreArgs, no_args, some_args, AreListed, last_arg, next_arg, IsArg, omitted, Fits}
use Rattle.rx_tree.specs.Expressions as p
use Rattle.rx_exprs.specs.Reader.{Outcome}
use Rattle.rx_exprs.proofs.Steps.{step}
use Rattle.rx_clause_tree.specs.ClauseWords.{variable_of, symbol_of, is_clause_end, behind_end}
use Rattle.rx_clause_tree.specs.Assignments.{IsLastExpression, to_end, IsGiven, no_expression}
use Rattle.rx_clause_tree.specs.Assignments as a
use Rattle.rx_clause_tree.specs.Instructions.{AreNames, no_name, name, IsGroup, group}
use Rattle.rx_clauses.specs.Parts.{no_variable, taken, variable_at, symbol_at, is_comma, last_expression, given, named, names, some_names, ends_argument, argument, behind_one, arguments_from, arguments}
use Rattle.rx_clauses.specs.Parts as r
use Rattle.rx_clauses.proofs.Sure.{Sure, sure-then, sure-some, sure-if, sure-as, refused, found}
use Rattle.rx_clauses.proofs.Words.{end-is, comma-is, end-found, left-found, closed-found}
use Rattle.rx_clauses.proofs.Opens.{no-end, no-end-spelt, no-argument-end, expression-read, expression-sure, fits-shorter, fits-before-comma, fits-before-end}

-- ---- single tokens

-- the tokens begin with a token of which a table says this
pub record Tabled {A : Type 0} (table : TokenKind → Option A) (found : A) (tokens rest : Tokens) : Type 0 where
  pub token : Token
  pub is : tokens ≡ token ∷ rest
  pub fact : table token.kind ≡ Some found

pub taken-sure : {A : Type 0} (table : TokenKind → Option A) (number : ℕ) (t : Token) (behind : Tokens)
    → Sure (λ one rest. Tabled table one (t ∷ behind) rest) (taken (table t.kind) number (t ∷ behind) behind)
taken-sure {A = A} table number t behind = go (table t.kind) refl
  where
    go : (one : Option A) → table t.kind ≡ one → Sure (λ one rest. Tabled table one (t ∷ behind) rest) (taken one number (t ∷ behind) behind)
    go None is = refused _
    go (Some one) is = found one behind (record { token = t; is = refl; fact = is })

pub variable-sure : (tokens : Tokens) → Sure (λ one rest. Tabled variable_of one tokens rest) (variable_at tokens)
variable-sure [] = refused _
variable-sure (t ∷ behind) = taken-sure variable_of (no_variable t.kind) t behind

pub symbol-sure : (tokens : Tokens) → Sure (λ one rest. Tabled symbol_of one tokens rest) (symbol_at tokens)
symbol-sure [] = refused _
symbol-sure (t ∷ behind) = taken-sure symbol_of 20 t behind

-- ---- ends of clauses

pub to-end-sure : {A : Type 0} (one : A) (tokens : Tokens) → Sure (λ same rest. (same ≡ one) × (behind_end tokens ≡ Some rest)) (r.to_end one tokens)
to-end-sure one tokens = sure-some _ _ _ (λ none. refused _) (λ rest is. found one rest (refl, is))

pub last-read : {expr : Expr} {tokens rest : Tokens} → IsLastExpression expr tokens rest → last_expression tokens ≡ Ok (expr, rest)
last-read (to_end t fits is) = rw (expression-read fits, is)

pub last-sure : (tokens : Tokens) → Sure (λ expr rest. IsLastExpression expr tokens rest) (last_expression tokens)
last-sure tokens =
    sure-then _ _ (expression-sure s.Nothing tokens) (λ expr others fits.
    sure-some _ _ _ (λ none. refused _) (λ rest is.
    let f = end-found others rest is in
    found expr rest (to_end f.token (subst (λ (ts : Tokens). Fits s.Nothing tokens expr ts) f.is fits) f.fact)))

pub last-shorter : {expr : Expr} {tokens rest : Tokens} → IsLastExpression expr tokens rest → length rest < length tokens
last-shorter (to_end t fits is) = let h = fits-shorter fits in omega arith

pub last-no-end : {expr : Expr} {tokens rest : Tokens} → IsLastExpression expr tokens rest → behind_end tokens ≡ None
last-no-end (to_end t fits is) = no-end fits

pub given-read : {one : Option Expr} {tokens rest : Tokens} → IsGiven one tokens rest → given tokens ≡ Ok (one, rest)
given-read (no_expression t is) = rw is
given-read (a.expression last) = rw (last-no-end last, last-read last)

-- facts about tokens that begin with a token
pub at-end : {A : Type 0} (Is : A → Tokens → Tokens → Type 0) (one : A) (tokens rest : Tokens) → behind_end tokens ≡ Some rest
    → ((t : Token) → is_clause_end t.kind ≡ true → Is one (t ∷ rest) rest) → Is one tokens rest
at-end Is one tokens rest is go = let f = end-found tokens rest is in subst (λ (ts : Tokens). Is one ts rest) (sym f.is) (go f.token f.fact)

pub given-sure : (tokens : Tokens) → Sure (λ one rest. IsGiven one tokens rest) (given tokens)
given-sure tokens =
    sure-some _ _ _ (λ none. sure-then _ _ (last-sure tokens) (λ expr rest last. found (Some expr) rest (a.expression last)))
    (λ rest is. found None rest (at-end IsGiven None tokens rest is (λ t end. no_expression t end)))

-- ---- names

variable-no-end : (kind : TokenKind) (one : Name) → variable_of kind ≡ Some one → is_clause_end kind ≡ false
variable-no-end k.ClauseEnd one is = cc
variable-no-end _ one is = refl

pub names-read : {list : List Name} {tokens rest : Tokens} → AreNames list tokens rest → names tokens ≡ Ok (list, rest)
names-read (no_name t is) = rw is
names-read (name {name = one} t is others) = rw (variable-no-end t.kind one is, is, names-read others)

pub names-sure : (tokens : Tokens) → Sure (λ list rest. AreNames list tokens rest) (names tokens)
names-sure [] = refused _
names-sure (t ∷ behind) =
    sure-if _ _ _ (λ is. found [] behind (no_name t is)) (λ other. go (names-sure behind) (variable_of t.kind) refl)
  where
    go : Sure (λ list rest. AreNames list behind rest) (names behind) → (one : Option Name) → variable_of t.kind ≡ one
        → Sure (λ list rest. AreNames list (t ∷ behind) rest) (named one (no_variable t.kind) (t ∷ behind) (names behind))
    go later None is = refused _
    go later (Some one) is = sure-then _ _ later (λ list rest others. found (one ∷ list) rest (name t is others))

some-first : {list : List Name} {tokens rest : Tokens} → AreNames list tokens rest → list ≢ [] → behind_end tokens ≡ None
some-first (no_name t is) some = absurd (some refl)
some-first (name {name = one} t is others) some = rw (variable-no-end t.kind one is)

pub some-names-read : {list : List Name} {tokens rest : Tokens} → AreNames list tokens rest → list ≢ [] → some_names tokens ≡ Ok (list, rest)
some-names-read are some = rw (some-first are some, names-read are)

first-some : {list : List Name} {tokens rest : Tokens} → AreNames list tokens rest → behind_end tokens ≡ None → list ≢ []
first-some (no_name {rest = rest} t is) none = absurd (go (is_clause_end t.kind) is none)
  where
    go : (test : Bool) → test ≡ true → (let x : Option Tokens = if test then Some rest else None in x ≡ None) → ⊥
    go true is none = cc
    go false is none = cc
first-some (name t is others) none = λ e. cc

pub some-names-sure : (tokens : Tokens) → Sure (λ list rest. AreNames list tokens rest × (list ≢ [])) (some_names tokens)
some-names-sure tokens =
    sure-some _ _ _ (λ none. go none (names tokens) (names-sure tokens)) (λ rest is. refused _)
  where
    go : behind_end tokens ≡ None → (r : Outcome (List Name)) → Sure (λ list rest. AreNames list tokens rest) r
        → Sure (λ list rest. AreNames list tokens rest × (list ≢ [])) r
    go none (Ok all) is = record { so = (is.so, first-some is.so none) }
    go none (Err fault) is = record { so = tt }

-- ---- groups

pub group-read : {expr : Expr} {tokens rest : Tokens} → IsGroup expr tokens rest → (number : ℕ) → r.group number tokens ≡ Ok (expr, rest)
group-read (group t u left fits right) number = rw (left, expression-read fits, right)

pub group-sure : (number : ℕ) (tokens : Tokens) → Sure (λ expr rest. IsGroup expr tokens rest) (r.group number tokens)
group-sure number tokens =
    sure-some _ _ _ (λ none. refused _) (λ inside is.
    sure-then _ _ (expression-sure s.Nothing inside) (λ expr others fits.
    sure-some _ _ _ (λ none. refused _) (λ rest closes.
    let f = left-found tokens inside is in
    let g = closed-found others rest closes in
    found (e.Group expr) rest (subst (λ (ts : Tokens). IsGroup (e.Group expr) ts rest) (sym f.is)
    (group f.token g.token f.fact (subst (λ (ts : Tokens). Fits s.Nothing inside expr ts) g.is fits) g.fact)))))

-- ---- arguments of CALL

abbrev pub AreCallArgs : List (Option Expr) → Tokens → Tokens → Type 0
AreCallArgs = AreArgs k.ClauseEnd

arg-read : {arg : Option Expr} {tokens rest : Tokens} → IsArg arg tokens rest → ends_argument rest ≡ true
    → ((expr : Expr) → IsSpelt s.Nothing expr tokens rest → Fits s.Nothing tokens expr rest) → argument tokens ≡ Ok (arg, rest)
arg-read omitted ends fits = rw ends
arg-read (p.given {expr = expr} spelt) ends fits = rw (no-argument-end spelt, expression-read (fits expr spelt))

arg-shorter : {arg : Option Expr} {tokens rest : Tokens} → IsArg arg tokens rest
    → ((expr : Expr) → IsSpelt s.Nothing expr tokens rest → Fits s.Nothing tokens expr rest) → length rest ≤ length tokens
arg-shorter omitted fits = omega arith
arg-shorter (p.given {expr = expr} spelt) fits = let h = fits-shorter (fits expr spelt) in omega arith

comma-ends : (t : Token) (rest : Tokens) → t.kind ≡ k.Comma → ends_argument (t ∷ rest) ≡ true
comma-ends t rest is = rw is

end-ends : (t : Token) (rest : Tokens) → t.kind ≡ k.ClauseEnd → ends_argument (t ∷ rest) ≡ true
end-ends t rest is = rw is

listed-read : {close : TokenKind} {list : List (Option Expr)} {tokens rest : Tokens} → AreListed close list tokens rest → close ≡ k.ClauseEnd → (f : ℕ)
    → length tokens < f → arguments_from f tokens ≡ Ok (list, rest)
listed-read (last_arg {arg = arg} {tokens = tokens} {rest = rest} t one is) same f enough =
    step (λ f. arguments_from f tokens ≡ Ok (arg ∷ [], rest)) f (omega arith) (λ m also.
    let end : t.kind ≡ k.ClauseEnd = is ∙ same in
    rw (arg-read one (end-ends t rest end) (λ expr spelt. fits-before-end s.Nothing t rest tokens expr end spelt), end))
listed-read (next_arg {arg = arg} {args = args} {tokens = tokens} {behind = behind} {rest = rest} t one is others) same f enough =
    step (λ f. arguments_from f tokens ≡ Ok (arg ∷ args, rest)) f (omega arith) (λ m also.
    let fits : (expr : Expr) → IsSpelt s.Nothing expr tokens (t ∷ behind) → Fits s.Nothing tokens expr (t ∷ behind) =
    λ expr spelt. fits-before-comma s.Nothing t behind tokens expr is spelt in
    let h = arg-shorter one fits in
    let more = listed-read others same m (omega arith) in
    rw (arg-read one (comma-ends t behind is) fits, is, more))

-- some arguments don't begin with the end of the clause
listed-no-end : {close : TokenKind} {list : List (Option Expr)} {tokens rest : Tokens} → AreListed close list tokens rest → close ≡ k.ClauseEnd → list ≢ None ∷ []
    → behind_end tokens ≡ None
listed-no-end (last_arg t omitted is) same some = absurd (some refl)
listed-no-end (last_arg t (p.given spelt) is) same some = no-end-spelt spelt
listed-no-end (next_arg t omitted is others) same some = rw is
listed-no-end (next_arg t (p.given spelt) is others) same some = no-end-spelt spelt

pub arguments-read : {list : List (Option Expr)} {tokens rest : Tokens} → AreCallArgs list tokens rest → arguments tokens ≡ Ok (list, rest)
arguments-read (no_args t is) = rw is
arguments-read (some_args {args = list} {tokens = tokens} are some) =
    rw (listed-no-end are refl some, listed-read are refl (length tokens + 1) (omega arith))

arg-sure : (tokens : Tokens) → Sure (λ arg rest. IsArg arg tokens rest) (argument tokens)
arg-sure tokens =
    sure-if _ _ _ (λ ends. found None tokens omitted) (λ goes.
    sure-then _ _ (expression-sure s.Nothing tokens) (λ expr rest fits. found (Some expr) rest (p.given fits.spelt)))

-- one of several with commas between them, and what stands behind it
pub behind-sure : {A : Type 0} {Are : List A → Tokens → Type 0} (number : ℕ) (further : Tokens → Outcome (List A)) (one : A) (behind : Tokens)
    → ((t : Token) (rest : Tokens) → behind ≡ t ∷ rest → t.kind ≡ k.Comma → Sure (λ list others. Are (one ∷ list) others) (further rest))
    → ((t : Token) (rest : Tokens) → behind ≡ t ∷ rest → is_clause_end t.kind ≡ true → Are (one ∷ []) rest)
    → Sure Are (behind_one number further one behind)
behind-sure number further one [] next last = refused _
behind-sure number further one (t ∷ rest) next last =
    sure-if _ _ _
    (λ comma. sure-then _ _ (next t rest refl (comma-is t.kind comma)) (λ list others are. found (one ∷ list) others are))
    (λ other. sure-if _ _ _ (λ end. found (one ∷ []) rest (last t rest refl end)) (λ more. refused _))

listed-sure : (f : ℕ) (tokens : Tokens) → Sure (λ list rest. AreListed k.ClauseEnd list tokens rest) (arguments_from f tokens)
listed-sure zero tokens = refused _
listed-sure (suc m) tokens =
    sure-then _ _ (arg-sure tokens) (λ arg behind is.
    behind-sure 21 (λ ts. arguments_from m ts) arg behind
    (λ t rest same comma. sure-as _ (λ list others more. next_arg t (subst (λ (ts : Tokens). IsArg arg tokens ts) same is) comma more) (listed-sure m rest))
    (λ t rest same end. last_arg t (subst (λ (ts : Tokens). IsArg arg tokens ts) same is) (end-is t.kind end)))

-- a list that doesn't begin with the end of the clause isn't one omitted argument
some-none : (rest : Tokens) → (let x : Option Tokens = Some rest in x ≡ None) → ⊥
some-none rest is = cc

abbrev tail-of : List (Option Expr) → List (Option Expr)
tail-of [] = []
tail-of (one ∷ list) = list

listed-some : {list : List (Option Expr)} {tokens rest : Tokens} → AreListed k.ClauseEnd list tokens rest → list ≢ []
listed-some (last_arg t one is) e = cc
listed-some (next_arg t one is others) e = cc

not-omitted : {list : List (Option Expr)} {tokens rest : Tokens} → AreListed k.ClauseEnd list tokens rest → behind_end tokens ≡ None → list ≢ None ∷ []
not-omitted (last_arg {rest = rest} t omitted is) none =
    absurd (some-none rest (ap (λ (kind : TokenKind). if is_clause_end kind then Some rest else None) (sym is) ∙ none))
not-omitted (last_arg t (p.given spelt) is) none = λ e. cc
not-omitted (next_arg t one is others) none = λ e. listed-some others (ap tail-of e)

pub arguments-sure : (tokens : Tokens) → Sure (λ list rest. AreCallArgs list tokens rest) (arguments tokens)
arguments-sure tokens =
    sure-some _ _ _ (λ none. go none (arguments_from (length tokens + 1) tokens) (listed-sure (length tokens + 1) tokens))
    (λ rest is. found [] rest (at-end AreCallArgs [] tokens rest is (λ t end. no_args t (end-is t.kind end))))
  where
    go : behind_end tokens ≡ None → (r : Outcome (List (Option Expr))) → Sure (λ list rest. AreListed k.ClauseEnd list tokens rest) r
        → Sure (λ list rest. AreCallArgs list tokens rest) r
    go none (Ok all) is = record { so = some_args is.so (not-omitted is.so none) }
    go none (Err fault) is = record { so = tt }

-- ---- lengths

pub names-shorter : {list : List Name} {tokens rest : Tokens} → AreNames list tokens rest → length rest < length tokens
names-shorter (no_name t is) = omega arith
names-shorter (name t is others) = let h = names-shorter others in omega arith

listed-shorter : {close : TokenKind} {list : List (Option Expr)} {tokens rest : Tokens} → AreListed close list tokens rest → close ≡ k.ClauseEnd → length rest < length tokens
listed-shorter (last_arg {tokens = tokens} {rest = rest} t one is) same =
    let end : t.kind ≡ k.ClauseEnd = is ∙ same in
    let h = arg-shorter one (λ expr spelt. fits-before-end s.Nothing t rest tokens expr end spelt) in omega arith
listed-shorter (next_arg {tokens = tokens} {behind = behind} t one is others) same =
    let h = arg-shorter one (λ expr spelt. fits-before-comma s.Nothing t behind tokens expr is spelt) in
    let g = listed-shorter others same in omega arith

pub arguments-shorter : {list : List (Option Expr)} {tokens rest : Tokens} → AreCallArgs list tokens rest → length rest < length tokens
arguments-shorter (no_args t is) = omega arith
arguments-shorter (some_args are some) = listed-shorter are refl
