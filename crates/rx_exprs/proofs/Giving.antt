-- What is read is written so.
use Rattle.std.proofs.Common.{◌≡◌, ℕ, zero, suc, ◌<◌, true, false, if◌then◌else◌, List, [], ◌∷◌, ◌++◌, Option, Some, None, Ok, Err, refl, sym, ◌∙◌, subst, arith, append_assoc}
use Rattle.std.proofs.lemmas.List.{append-nil}
use Rattle.rx_tree.specs.declared.token.Oper.{Oper}
use Rattle.rx_tree.specs.declared.token.Token.{Token}
use Rattle.rx_tree.specs.declared.expr.Expr.{Expr}
use Rattle.rx_tree.specs.declared.expr.Expr.TheVariants as e
use Rattle.rx_tree.specs.declared.expr.SendPart.{SendPart}
use Rattle.rx_tree.specs.declared.stops.Stops.{Stops}
use Rattle.rx_tree.specs.declared.stops.Stops.TheVariants as s
use Rattle.rx_tree.specs.StopWords.{is_stop}
use Rattle.rx_tree.specs.Operators.{Tokens}
use Rattle.rx_tree.specs.Terms.{term_of, name_of, is_string, call_at}
use Rattle.rx_tree.specs.Expressions.{part}
use Rattle.rx_exprs.specs.declared.operators.Opening.{Opening}
use Rattle.rx_exprs.specs.declared.operators.Opening.TheVariants.{Tilde, Bracket}
use Rattle.rx_exprs.specs.declared.operators.Bracketed.{Bracketed}
use Rattle.rx_exprs.specs.declared.operators.Bracketed.TheVariants.{Round, Square}
use Rattle.rx_exprs.specs.declared.operators.End.{End}
use Rattle.rx_exprs.specs.declared.operators.End.TheVariants.{Comma, Close}
use Rattle.rx_exprs.specs.Marks.{is_left, closed_at, opening_of, opened_at, end_of, end_at, ended_at}
use Rattle.rx_exprs.specs.Reader.{Outcome, and_then, on_some, refusal, with_parts, with_signs, with_terms, signs, operator_of, name_at, above_at, loosest, read, primary, terms, parts, one_part, call_args, args, listed, next, argument}
use Rattle.rx_exprs.proofs.Tables.{opening_at, next_level, ok-is, some-next, not-one, not-two, here-operator, passes}
use Rattle.rx_exprs.proofs.Written.{Written, word, group, function, Joined, no_more, joined, Sent, no_part, message, bracket, Called, no_call, call, Args, no_args, some_args, Listed, last_arg, next_arg, Arg, omitted, given}
use Rattle.rx_exprs.proofs.Parts.{came, either, branch, left-is, closed-is, opened-is, not-opening, name-is, above-is, end-found, closed-end, signed-all, sends-made, prefix-made, chain-made, alone-closed}

-- an expression that is as long as it can be
pub record Taken (stops : Stops) (n : ℕ) (expr : Expr) (tokens rest : Tokens) : Type 0 where
  pub written : Written stops n expr tokens rest
  pub longest : n < next_level stops rest

-- a list that goes on behind what was found
pub record Longer {A : Type 0} (Is : List A → Type 0) (found all : List A) : Type 0 where
  pub list : List A
  pub same : all ≡ found ++ list
  pub fact : Is list

abbrev pub Terms : Stops → ℕ → Tokens → List (Oper × Expr) → List (Oper × Expr) → Tokens → Type 0
Terms stops n tokens found all rest = Longer (λ list. Joined stops n list tokens rest × (suc (suc (suc n)) < next_level stops rest)) found all

abbrev pub Parts : Tokens → List SendPart → List SendPart → Tokens → Type 0
Parts tokens found all rest = Longer (λ list. Sent list tokens rest × (opening_at rest ≡ None)) found all

abbrev pub Listing : Bracketed → Tokens → List (Option Expr) → List (Option Expr) → Tokens → Type 0
Listing bracketed tokens found all rest = Longer (λ list. Listed bracketed list tokens rest) found all

one-more : {A : Type 0} (Is More : List A → Type 0) (found all : List A) (x : A) → ((list : List A) → More list → Is (x ∷ list))
    → Longer More (found ++ x ∷ []) all → Longer Is found all
one-more Is More found all x go later =
    record { list = x ∷ later.list; same = later.same ∙ rw append_assoc refl; fact = go later.list later.fact }

no-further : {A : Type 0} (Is : List A → Type 0) (found : List A) → Is [] → Longer Is found found
no-further Is found fact = record { list = []; same = sym (append-nil found); fact = fact }

abbrev pub outcome : {A : Type 0} → A → Tokens → Outcome A
outcome found rest = Ok (found, rest)

-- what was found and the rest are those that were answered
as-answered : {A : Type 0} (P : A → Tokens → Type 0) (x found : A) (y rest : Tokens) → outcome x y ≡ outcome found rest → P x y → P found rest
as-answered {A = A} P x found y rest is h = subst (λ (p : A × Tokens). P p.0 p.1) (ok-is is) h

-- a message that is written behind what it begins with
pub record OnePart (t : Token) (one : SendPart) (tokens rest : Tokens) : Type 0 where
  pub before : (parts : List SendPart) (others : Tokens) → Sent parts rest others → Sent (one ∷ parts) (t ∷ tokens) others

mutual
  pub taken : (f : ℕ) (stops : Stops) (n : ℕ) (tokens : Tokens) (expr : Expr) (rest : Tokens) → n < 10
      → read f stops n tokens ≡ Ok (expr, rest) → Taken stops n expr tokens rest
  taken zero stops n tokens expr rest small is = cc
  taken (suc m) stops zero tokens expr rest small is =
      record { written = primary-taken m stops tokens expr rest is; longest = some-next stops rest }
  taken (suc m) stops (suc zero) tokens expr rest small is =
      let a = came (read m stops zero tokens) (λ receiver behind. and_then (parts m [] behind) (λ found rest. Ok (with_parts receiver found, rest))) (expr, rest) is in
      let b = came (parts m [] a.behind) (λ found rest. Ok (with_parts a.first found, rest)) (expr, rest) a.went in
      let first = taken m stops zero tokens a.first a.behind (omega arith) a.was in
      let messages = parts-taken m [] a.behind b.first b.behind b.was in
      let made : Written stops 1 (with_parts a.first b.first) tokens b.behind =
      subst (λ (l : List SendPart). Written stops 1 (with_parts a.first l) tokens b.behind) (sym messages.same)
      (sends-made a.first messages.list first.written messages.fact.0) in
      as-answered (λ x y. Taken stops 1 x tokens y) (with_parts a.first b.first) expr b.behind rest b.went
      (record { written = made; longest = not-one stops b.behind messages.fact.1 })
  taken (suc m) stops (suc (suc zero)) tokens expr rest small is =
      let a = came (read m stops (suc zero) (signs tokens).1) (λ term rest. Ok (with_signs (signs tokens).0 term, rest)) (expr, rest) is in
      let inner = taken m stops (suc zero) (signs tokens).1 a.first a.behind (omega arith) a.was in
      as-answered (λ x y. Taken stops 2 x tokens y) (with_signs (signs tokens).0 a.first) expr a.behind rest a.went (record {
        written = prefix-made (signs tokens).0 a.first (signed-all tokens) inner.written;
        longest = not-two stops a.behind inner.longest;
      })
  taken (suc m) stops (suc (suc (suc n))) tokens expr rest small is =
      let a = came (read m stops (suc (suc n)) tokens) (λ first behind. and_then (terms m stops n [] behind) (λ found rest. Ok (with_terms first found, rest))) (expr, rest) is in
      let b = came (terms m stops n [] a.behind) (λ found rest. Ok (with_terms a.first found, rest)) (expr, rest) a.went in
      let first = taken m stops (suc (suc n)) tokens a.first a.behind (omega arith) a.was in
      let others = terms-taken m stops n [] a.behind b.first b.behind (omega arith) first.longest b.was in
      let made : Written stops (suc (suc (suc n))) (with_terms a.first b.first) tokens b.behind =
      subst (λ (l : List (Oper × Expr)). Written stops (suc (suc (suc n))) (with_terms a.first l) tokens b.behind) (sym others.same)
      (chain-made a.first others.list first.written others.fact.0) in
      as-answered (λ x y. Taken stops (suc (suc (suc n))) x tokens y) (with_terms a.first b.first) expr b.behind rest b.went
      (record { written = made; longest = others.fact.1 })

  primary-taken : (f : ℕ) (stops : Stops) (tokens : Tokens) (expr : Expr) (rest : Tokens) → primary f stops tokens ≡ Ok (expr, rest) → Written stops 0 expr tokens rest
  primary-taken zero stops tokens expr rest is = cc
  primary-taken (suc m) stops [] expr rest is = cc
  primary-taken (suc m) stops (t ∷ behind) expr rest is =
      branch (is_left t.kind)
      (and_then (read m s.Nothing loosest behind) (λ expr others. on_some (closed_at others) (Err (refusal 36 others)) (λ rest. Ok (e.Group expr, rest))))
      (if is_stop stops t.kind then Err (refusal 35 (t ∷ behind)) else
      on_some (call_at behind) (on_some (term_of t.kind) (Err (refusal 35 (t ∷ behind))) (λ expr. Ok (expr, behind)))
      (λ tokens. on_some (name_of t.kind) (Err (refusal 35 (t ∷ behind))) (λ name. and_then (args m Round tokens) (λ found rest. Ok (e.Function name (is_string t.kind) found, rest)))))
      (Ok (expr, rest)) is
      (λ left same.
      let a = came (read m s.Nothing loosest behind) (λ expr others. on_some (closed_at others) (Err (refusal 36 others)) (λ rest. Ok (e.Group expr, rest))) (expr, rest) same in
      let inner = taken m s.Nothing loosest behind a.first a.behind (omega arith) a.was in
      either (closed_at a.behind) (Err (refusal 36 a.behind)) (λ rest. Ok (e.Group a.first, rest)) (expr, rest) a.went (λ none same. cc) (λ others found same.
      let u = closed-is a.behind others found in
      let inside : Written s.Nothing loosest a.first behind (u.token ∷ others) = subst (λ (r : Tokens). Written s.Nothing loosest a.first behind r) u.is inner.written in
      as-answered (λ x y. Written stops 0 x (t ∷ behind) y) (e.Group a.first) expr others rest same (group t u.token (left-is t.kind left) inside u.fact)))
      (λ _ same.
      branch (is_stop stops t.kind) (Err (refusal 35 (t ∷ behind)))
      (on_some (call_at behind) (on_some (term_of t.kind) (Err (refusal 35 (t ∷ behind))) (λ expr. Ok (expr, behind)))
      (λ tokens. on_some (name_of t.kind) (Err (refusal 35 (t ∷ behind))) (λ name. and_then (args m Round tokens) (λ found rest. Ok (e.Function name (is_string t.kind) found, rest)))))
      (Ok (expr, rest)) same (λ stop same. cc) (λ go_on same.
      either (call_at behind) (on_some (term_of t.kind) (Err (refusal 35 (t ∷ behind))) (λ expr. Ok (expr, behind)))
      (λ tokens. on_some (name_of t.kind) (Err (refusal 35 (t ∷ behind))) (λ name. and_then (args m Round tokens) (λ found rest. Ok (e.Function name (is_string t.kind) found, rest))))
      (expr, rest) same
      (λ none same.
      either (term_of t.kind) (Err (refusal 35 (t ∷ behind))) (λ expr. Ok (expr, behind)) (expr, rest) same (λ none same. cc) (λ x found same.
      as-answered (λ x y. Written stops 0 x (t ∷ behind) y) x expr behind rest same (word t found go_on none)))
      (λ inside called same.
      either (name_of t.kind) (Err (refusal 35 (t ∷ behind))) (λ name. and_then (args m Round inside) (λ found rest. Ok (e.Function name (is_string t.kind) found, rest))) (expr, rest) same
      (λ none same. cc) (λ name found same.
      let a = came (args m Round inside) (λ found rest. Ok (e.Function name (is_string t.kind) found, rest)) (expr, rest) same in
      as-answered (λ x y. Written stops 0 x (t ∷ behind) y) (e.Function name (is_string t.kind) a.first) expr a.behind rest a.went
      (function t name found go_on called (args-taken m Round inside a.first a.behind a.was))))))

  pub terms-taken : (f : ℕ) (stops : Stops) (n : ℕ) (found : List (Oper × Expr)) (tokens : Tokens) (all : List (Oper × Expr)) (rest : Tokens) → n < 7
      → suc (suc n) < next_level stops tokens → terms f stops n found tokens ≡ Ok (all, rest) → Terms stops n tokens found all rest
  terms-taken zero stops n found tokens all rest small h is = cc
  terms-taken (suc m) stops n found tokens all rest small h is =
      either (operator_of stops (suc (suc (suc n))) tokens) (Ok (found, tokens)) (λ oper.
      and_then (read m stops (suc (suc n)) oper.1) (λ expr rest. terms m stops n (found ++ (oper.0, expr) ∷ []) rest)) (all, rest) is
      (λ none same.
      as-answered (λ x y. Terms stops n tokens found x y) found all tokens rest same
      (no-further (λ list. Joined stops n list tokens tokens × (suc (suc (suc n)) < next_level stops tokens)) found
      (no_more, passes stops n tokens small h none)))
      (λ oper some same.
      let here = here-operator stops (suc (suc (suc n))) tokens oper some in
      let a = came (read m stops (suc (suc n)) oper.1) (λ expr rest. terms m stops n (found ++ (oper.0, expr) ∷ []) rest) (all, rest) same in
      let operand = taken m stops (suc (suc n)) oper.1 a.first a.behind (omega arith) a.was in
      let later = terms-taken m stops n (found ++ (oper.0, a.first) ∷ []) a.behind all rest small operand.longest a.went in
      one-more (λ list. Joined stops n list tokens rest × (suc (suc (suc n)) < next_level stops rest))
      (λ list. Joined stops n list a.behind rest × (suc (suc (suc n)) < next_level stops rest)) found all (oper.0, a.first)
      (λ list fact. (joined here.0 here.1 operand.written fact.0, fact.1)) later)

  pub parts-taken : (f : ℕ) (found : List SendPart) (tokens : Tokens) (all : List SendPart) (rest : Tokens) → parts f found tokens ≡ Ok (all, rest) → Parts tokens found all rest
  parts-taken zero found tokens all rest is = cc
  parts-taken (suc m) found tokens all rest is =
      either (opened_at tokens) (Ok (found, tokens)) (λ opening. and_then (one_part m opening.0 opening.1) (λ one rest. parts m (found ++ one ∷ []) rest)) (all, rest) is
      (λ none same.
      as-answered (λ x y. Parts tokens found x y) found all tokens rest same
      (no-further (λ list. Sent list tokens tokens × (opening_at tokens ≡ None)) found (no_part, not-opening tokens none)))
      (λ opening some same.
      let t = opened-is tokens opening some in
      let a = came (one_part m opening.0 opening.1) (λ one rest. parts m (found ++ one ∷ []) rest) (all, rest) same in
      let one = part-taken m t.token opening.0 opening.1 a.first a.behind t.fact a.was in
      let later = parts-taken m (found ++ a.first ∷ []) a.behind all rest a.went in
      subst (λ (ts : Tokens). Parts ts found all rest) (sym t.is)
      (one-more (λ list. Sent list (t.token ∷ opening.1) rest × (opening_at rest ≡ None)) (λ list. Sent list a.behind rest × (opening_at rest ≡ None)) found all
      a.first (λ list fact. (one.before list rest fact.0, fact.1)) later))

  pub part-taken : (f : ℕ) (t : Token) (opening : Opening) (tokens : Tokens) (one : SendPart) (rest : Tokens)
      → opening_of t.kind ≡ Some opening → one_part f opening tokens ≡ Ok (one, rest) → OnePart t one tokens rest
  part-taken zero t opening tokens one rest p is = cc
  part-taken (suc m) t (Tilde back) tokens one rest p is =
      let a = came (name_at tokens) (λ name behind.
      and_then (above_at behind) (λ class others. and_then (call_args m others) (λ list rest. Ok (part name class list back false, rest)))) (one, rest) is in
      let b = came (above_at a.behind) (λ class others. and_then (call_args m others) (λ list rest. Ok (part a.first class list back false, rest))) (one, rest) a.went in
      let d = came (call_args m b.behind) (λ list rest. Ok (part a.first b.first list back false, rest)) (one, rest) b.went in
      let u = name-is tokens a.first a.behind a.was in
      let class = above-is a.behind b.first b.behind b.was in
      let list = call-taken m b.behind d.first d.behind d.was in
      as-answered (λ x y. OnePart t x tokens y) (part a.first b.first d.first back false) one d.behind rest d.went (record {
        before = λ parts others sent.
            subst (λ (ts : Tokens). Sent (part a.first b.first d.first back false ∷ parts) (t ∷ ts) others) (sym u.is)
            (message t u.token a.first p u.fact class list sent);
      })
  part-taken (suc m) t Bracket tokens one rest p is =
      let a = came (args m Square tokens) (λ list rest. Ok (part [] None list false true, rest)) (one, rest) is in
      let list = args-taken m Square tokens a.first a.behind a.was in
      as-answered (λ x y. OnePart t x tokens y) (part [] None a.first false true) one a.behind rest a.went
      (record { before = λ parts others sent. bracket t p list sent })

  pub call-taken : (f : ℕ) (tokens : Tokens) (all : List (Option Expr)) (rest : Tokens) → call_args f tokens ≡ Ok (all, rest) → Called all tokens rest
  call-taken zero tokens all rest is = cc
  call-taken (suc m) tokens all rest is =
      either (call_at tokens) (Ok ([], tokens)) (λ inside. args m Round inside) (all, rest) is
      (λ none same. as-answered (λ x y. Called x tokens y) [] all tokens rest same (no_call none))
      (λ inside called same. call called (args-taken m Round inside all rest same))

  pub args-taken : (f : ℕ) (bracketed : Bracketed) (tokens : Tokens) (all : List (Option Expr)) (rest : Tokens) → args f bracketed tokens ≡ Ok (all, rest) → Args bracketed all tokens rest
  args-taken zero bracketed tokens all rest is = cc
  args-taken (suc m) bracketed tokens all rest is =
      either (ended_at bracketed tokens) (listed m bracketed [] tokens) (λ rest. Ok ([], rest)) (all, rest) is
      (λ none same.
      let later = listed-taken m bracketed [] tokens all rest same in
      subst (λ (l : List (Option Expr)). Args bracketed l tokens rest) (sym later.same) (some_args later.fact (alone-closed later.fact none)))
      (λ others some same.
      let t = closed-end bracketed tokens others some in
      as-answered (λ x y. Args bracketed x tokens y) [] all others rest same
      (subst (λ (ts : Tokens). Args bracketed [] ts others) (sym t.is) (no_args t.token t.fact)))

  pub listed-taken : (f : ℕ) (bracketed : Bracketed) (found : List (Option Expr)) (tokens : Tokens) (all : List (Option Expr)) (rest : Tokens)
      → listed f bracketed found tokens ≡ Ok (all, rest) → Listing bracketed tokens found all rest
  listed-taken zero bracketed found tokens all rest is = cc
  listed-taken (suc m) bracketed found tokens all rest is =
      let a = came (argument m bracketed tokens) (λ arg behind. on_some (end_at bracketed behind) (Err (refusal 36 behind)) (λ end. next m bracketed (found ++ arg ∷ []) end.0 end.1)) (all, rest) is in
      either (end_at bracketed a.behind) (Err (refusal 36 a.behind)) (λ end. next m bracketed (found ++ a.first ∷ []) end.0 end.1) (all, rest) a.went
      (λ none same. cc)
      (λ end some same.
      let t = end-found bracketed a.behind end some in
      let inner : Arg a.first tokens (t.token ∷ end.1) = subst (λ (r : Tokens). Arg a.first tokens r) t.is (argument-taken m bracketed tokens a.first a.behind a.was) in
      next-taken m bracketed found a.first tokens t.token end.0 end.1 all rest inner t.fact same)

  next-taken : (f : ℕ) (bracketed : Bracketed) (found : List (Option Expr)) (arg : Option Expr) (tokens : Tokens) (t : Token) (end : End) (behind : Tokens) (all : List (Option Expr)) (rest : Tokens)
      → Arg arg tokens (t ∷ behind) → end_of bracketed t.kind ≡ Some end → next f bracketed (found ++ arg ∷ []) end behind ≡ Ok (all, rest)
      → Listing bracketed tokens found all rest
  next-taken zero bracketed found arg tokens t end behind all rest inner p is = cc
  next-taken (suc m) bracketed found arg tokens t Comma behind all rest inner p is =
      let later = listed-taken m bracketed (found ++ arg ∷ []) behind all rest is in
      one-more (λ list. Listed bracketed list tokens rest) (λ list. Listed bracketed list behind rest) found all arg (λ list fact. next_arg t inner p fact) later
  next-taken (suc m) bracketed found arg tokens t Close behind all rest inner p is =
      as-answered (λ x y. Listing bracketed tokens found x y) (found ++ arg ∷ []) all behind rest is
      (record { list = arg ∷ []; same = refl; fact = last_arg t inner p })

  pub argument-taken : (f : ℕ) (bracketed : Bracketed) (tokens : Tokens) (arg : Option Expr) (rest : Tokens) → argument f bracketed tokens ≡ Ok (arg, rest) → Arg arg tokens rest
  argument-taken zero bracketed tokens arg rest is = cc
  argument-taken (suc m) bracketed tokens arg rest is =
      either (end_at bracketed tokens) (and_then (read m s.Nothing loosest tokens) (λ expr rest. Ok (Some expr, rest))) (λ _. Ok (None, tokens)) (arg, rest) is
      (λ none same.
      let a = came (read m s.Nothing loosest tokens) (λ expr rest. Ok (Some expr, rest)) (arg, rest) same in
      let inner = taken m s.Nothing loosest tokens a.first a.behind (omega arith) a.was in
      as-answered (λ x y. Arg x tokens y) (Some a.first) arg a.behind rest a.went (given inner.written))
      (λ end some same. as-answered (λ x y. Arg x tokens y) None arg tokens rest same omitted)
