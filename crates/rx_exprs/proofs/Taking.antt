-- What an expression is written with is read as it.
use Rattle.std.proofs.Common.{◌≡◌, ℕ, suc, ◌+◌, ◌*◌, ◌<◌, true, false, List, [], ◌∷◌, ◌++◌, length, Option, Some, None, Ok, refl, ◌∙◌, ap, arith, append_assoc}
use Rattle.std.proofs.lemmas.List.{append-nil}
use Rattle.rx_tree.specs.declared.token.Oper.{Oper}
use Rattle.rx_tree.specs.declared.token.Token.{Token}
use Rattle.rx_tree.specs.declared.expr.Expr.{Expr}
use Rattle.rx_tree.specs.declared.expr.Expr.TheVariants as e
use Rattle.rx_tree.specs.declared.expr.SendPart.{SendPart}
use Rattle.rx_tree.specs.declared.stops.Stops.{Stops}
use Rattle.rx_tree.specs.declared.stops.Stops.TheVariants as s
use Rattle.rx_tree.specs.Operators.{Tokens}
use Rattle.rx_tree.specs.Terms.{is_string}
use Rattle.rx_tree.specs.Expressions.{part}
use Rattle.rx_exprs.specs.declared.operators.Opening.TheVariants.{Tilde, Bracket}
use Rattle.rx_exprs.specs.declared.operators.Bracketed.{Bracketed}
use Rattle.rx_exprs.specs.declared.operators.End.{End}
use Rattle.rx_exprs.specs.declared.operators.End.TheVariants.{Comma, Close}
use Rattle.rx_exprs.specs.Marks.{end_of}
use Rattle.rx_exprs.specs.Reader.{read, primary, terms, parts, one_part, call_args, args, listed, next, argument}
use Rattle.rx_exprs.proofs.Tables.{opening_at, next_level, found-is, some-next, no-opening-at, operator-here, end-next, right-next}
use Rattle.rx_exprs.proofs.Written.{Written, word, group, function, sends, prefix, chain, above, Joined, no_more, joined, Sent, no_part, message, bracket, Called, no_call, call, Args, no_args, some_args, Listed, last_arg, next_arg, Arg, omitted, given}
use Rattle.rx_exprs.proofs.Heads.{call-shorter, signed-shorter, above-shorter, shorter, called-shorter, args-shorter, arg-shorter, begins, begins-term}
use Rattle.rx_exprs.proofs.Steps.{step, word-step, group-step, function-step, above-step, with-parts, with-signs, with-terms, signs-are, parts-end, terms-end, lift, joined-next, no-end, not-closed}

mutual
  pub reads : {stops : Stops} {n : ℕ} {expr : Expr} {tokens rest : Tokens} → Written stops n expr tokens rest → (f : ℕ)
      → n < next_level stops rest → 16 * length tokens + n + 1 < f → read f stops n tokens ≡ Ok (expr, rest)
  reads (word {stops = stops} {expr = expr} {rest = rest} t p q r) f h enough =
      step (λ f. read f stops 0 (t ∷ rest) ≡ Ok (expr, rest)) f (omega arith) (λ m is.
      step (λ m. primary m stops (t ∷ rest) ≡ Ok (expr, rest)) m (omega arith) (λ l also. word-step l stops t rest expr p q r))
  reads (group {stops = stops} {expr = expr} {tokens = tokens} {rest = rest} t u p inner q) f h enough =
      step (λ f. read f stops 0 (t ∷ tokens) ≡ Ok (e.Group expr, rest)) f (omega arith) (λ m is.
      step (λ m. primary m stops (t ∷ tokens) ≡ Ok (e.Group expr, rest)) m (omega arith) (λ l also.
      let x = right-next s.Nothing u rest q in
      group-step l stops t u tokens rest expr p q (reads inner l (omega arith) (omega arith))))
  reads (function {stops = stops} {args = list} {tokens = tokens} {behind = behind} {rest = rest} t name p q r inner) f h enough =
      let c = call-shorter behind tokens r in
      step (λ f. read f stops 0 (t ∷ behind) ≡ Ok (e.Function name (is_string t.kind) list, rest)) f (omega arith) (λ m is.
      step (λ m. primary m stops (t ∷ behind) ≡ Ok (e.Function name (is_string t.kind) list, rest)) m (omega arith) (λ l also.
      function-step l stops t behind tokens rest name list p q r (args-read inner l (omega arith))))
  reads (sends {stops = stops} {receiver = receiver} {parts = list} {tokens = tokens} {behind = behind} {rest = rest} first messages some) f h enough =
      step (λ f. read f stops 1 tokens ≡ Ok (e.Sends receiver list, rest)) f (omega arith) (λ m is.
      let short = shorter first in
      let a = reads first m (some-next stops behind) (omega arith) in
      let b = parts-read messages m [] (no-opening-at stops rest h) (omega arith) in
      rw (a, b, with-parts receiver list some))
  reads (prefix {stops = stops} {term = term} {opers = opers} {tokens = tokens} {behind = behind} {rest = rest} signed some inner) f h enough =
      step (λ f. read f stops 2 tokens ≡ Ok (e.Prefix opers term, rest)) f (omega arith) (λ m is.
      let short = signed-shorter signed in
      let a = reads inner m (omega arith) (omega arith) in
      rw (signs-are signed (begins-term inner (omega arith)), a, with-signs opers term some))
  reads (chain {stops = stops} {n = n} {first = first} {terms = list} {tokens = tokens} {behind = behind} {rest = rest} operand others some) f h enough =
      step (λ f. read f stops (suc (suc (suc n))) tokens ≡ Ok (e.Chain first list, rest)) f (omega arith) (λ m is.
      let short = shorter operand in
      let a = reads operand m (joined-next others h) (omega arith) in
      let b = terms-read others m [] h (omega arith) in
      rw (a, b, with-terms first list some))
  reads (above {stops = stops} {n = n} {expr = expr} {tokens = tokens} {rest = rest} inner) f h enough =
      step (λ f. read f stops (suc n) tokens ≡ Ok (expr, rest)) f (omega arith) (λ m is.
      lift n m stops tokens rest expr (reads inner m (omega arith) (omega arith)) h (λ one. begins-term inner (omega arith)) (omega arith))

  pub terms-read : {stops : Stops} {n : ℕ} {list : List (Oper × Expr)} {tokens rest : Tokens} → Joined stops n list tokens rest → (f : ℕ) (found : List (Oper × Expr))
      → suc (suc (suc n)) < next_level stops rest → 16 * length tokens + (n + 4) < f → terms f stops n found tokens ≡ Ok (found ++ list, rest)
  terms-read (no_more {stops = stops} {n = n} {rest = rest}) f found h enough =
      step (λ f. terms f stops n found rest ≡ Ok (found ++ [], rest)) f (omega arith) (λ m is.
      rw (append-nil found) (terms-end m stops n found rest h))
  terms-read (joined {stops = stops} {n = n} {oper = oper} {expr = expr} {terms = list} {tokens = tokens} {behind = behind} {others = others} {rest = rest} at same operand later) f found h enough =
      step (λ f. terms f stops n found tokens ≡ Ok (found ++ (oper, expr) ∷ list, rest)) f (omega arith) (λ m is.
      let here = (found-is stops tokens (oper, behind) at) in
      let x = here.behind in
      let short = shorter operand in
      let a = reads operand m (joined-next later h) (omega arith) in
      let b = terms-read later m (found ++ (oper, expr) ∷ []) h (omega arith) in
      rw (operator-here stops (suc (suc (suc n))) tokens (oper, behind) at same, a, b, append_assoc))

  pub parts-read : {list : List SendPart} {tokens rest : Tokens} → Sent list tokens rest → (f : ℕ) (found : List SendPart)
      → opening_at rest ≡ None → 16 * length tokens < f → parts f found tokens ≡ Ok (found ++ list, rest)
  parts-read (no_part {rest = rest}) f found h enough =
      step (λ f. parts f found rest ≡ Ok (found ++ [], rest)) f (omega arith) (λ m is.
      rw (append-nil found) (parts-end m found rest h))
  parts-read (message {back = back} {class = class} {args = list} {parts = others} {tokens = tokens} {behind = behind} {others = there} {rest = rest} t u name p q r inner later) f found h enough =
      let one = part name class list back false in
      let x = above-shorter r in
      let short = called-shorter inner in
      step (λ f. parts f found (t ∷ (u ∷ tokens)) ≡ Ok (found ++ one ∷ others, rest)) f (omega arith) (λ m is.
      let a : one_part m (Tilde back) (u ∷ tokens) ≡ Ok (one, there) =
      step (λ m. one_part m (Tilde back) (u ∷ tokens) ≡ Ok (one, there)) m (omega arith) (λ l also.
      let c = called-read inner l (omega arith) in rw (q, above-step r, c)) in
      let b = parts-read later m (found ++ one ∷ []) h (omega arith) in
      rw (p, a, b, append_assoc))
  parts-read (bracket {args = list} {parts = others} {tokens = tokens} {others = there} {rest = rest} t p inner later) f found h enough =
      let one = part [] None list false true in
      let short = args-shorter inner in
      step (λ f. parts f found (t ∷ tokens) ≡ Ok (found ++ one ∷ others, rest)) f (omega arith) (λ m is.
      let a : one_part m Bracket tokens ≡ Ok (one, there) =
      step (λ m. one_part m Bracket tokens ≡ Ok (one, there)) m (omega arith) (λ l also.
      let c = args-read inner l (omega arith) in rw c) in
      let b = parts-read later m (found ++ one ∷ []) h (omega arith) in
      rw (p, a, b, append_assoc))

  pub called-read : {list : List (Option Expr)} {tokens rest : Tokens} → Called list tokens rest → (f : ℕ) → 16 * length tokens < f
      → call_args f tokens ≡ Ok (list, rest)
  called-read (no_call {rest = rest} p) f enough =
      step (λ f. call_args f rest ≡ Ok ([], rest)) f (omega arith) (λ m is. rw p)
  called-read (call {args = list} {behind = behind} {tokens = tokens} {rest = rest} r inner) f enough =
      let c = call-shorter behind tokens r in
      step (λ f. call_args f behind ≡ Ok (list, rest)) f (omega arith) (λ m is.
      let a = args-read inner m (omega arith) in rw (r, a))

  pub args-read : {bracketed : Bracketed} {list : List (Option Expr)} {tokens rest : Tokens} → Args bracketed list tokens rest → (f : ℕ)
      → 16 * length tokens + 13 < f → args f bracketed tokens ≡ Ok (list, rest)
  args-read (no_args {bracketed = bracketed} {rest = rest} t p) f enough =
      step (λ f. args f bracketed (t ∷ rest) ≡ Ok ([], rest)) f (omega arith) (λ m is. rw p)
  args-read (some_args {bracketed = bracketed} {args = list} {tokens = tokens} {rest = rest} inner some) f enough =
      step (λ f. args f bracketed tokens ≡ Ok (list, rest)) f (omega arith) (λ m is.
      rw (not-closed inner some) (listed-read inner m [] (omega arith)))

  pub listed-read : {bracketed : Bracketed} {list : List (Option Expr)} {tokens rest : Tokens} → Listed bracketed list tokens rest → (f : ℕ) (found : List (Option Expr))
      → 16 * length tokens + 12 < f → listed f bracketed found tokens ≡ Ok (found ++ list, rest)
  listed-read (last_arg {bracketed = bracketed} {arg = arg} {tokens = tokens} {rest = rest} t inner p) f found enough =
      step (λ f. listed f bracketed found tokens ≡ Ok (found ++ arg ∷ [], rest)) f (omega arith) (λ m is.
      let a = arg-read inner bracketed t Close rest refl p m (omega arith) in
      rw (a, p) (step (λ m. next m bracketed (found ++ arg ∷ []) Close rest ≡ Ok (found ++ arg ∷ [], rest)) m (omega arith) (λ l also. refl)))
  listed-read (next_arg {bracketed = bracketed} {arg = arg} {args = list} {tokens = tokens} {behind = behind} {rest = rest} t inner p others) f found enough =
      step (λ f. listed f bracketed found tokens ≡ Ok (found ++ arg ∷ list, rest)) f (omega arith) (λ m is.
      let short = arg-shorter inner in
      let a = arg-read inner bracketed t Comma behind refl p m (omega arith) in
      rw (a, p) (step (λ m. next m bracketed (found ++ arg ∷ []) Comma behind ≡ Ok (found ++ arg ∷ list, rest)) m (omega arith) (λ l also.
      let b = listed-read others l (found ++ arg ∷ []) (omega arith) in
      rw (b, append_assoc))))

  pub arg-read : {arg : Option Expr} {tokens rest : Tokens} → Arg arg tokens rest → (bracketed : Bracketed) (t : Token) (end : End) (behind : Tokens)
      → rest ≡ t ∷ behind → end_of bracketed t.kind ≡ Some end → (f : ℕ) → 16 * length tokens + 11 < f → argument f bracketed tokens ≡ Ok (arg, rest)
  arg-read (omitted {rest = rest}) bracketed t end behind is p f enough =
      step (λ f. argument f bracketed rest ≡ Ok (None, rest)) f (omega arith) (λ m also. rw (is, p))
  arg-read (given {expr = expr} {tokens = tokens} {rest = rest} inner) bracketed t end behind is p f enough =
      step (λ f. argument f bracketed tokens ≡ Ok (Some expr, rest)) f (omega arith) (λ m also.
      let x = end-next s.Nothing bracketed t end behind p in
      let y : next_level s.Nothing rest ≡ 10 = ap (next_level s.Nothing) is ∙ x in
      let a = reads inner m (omega arith) (omega arith) in
      rw (no-end bracketed tokens (begins inner), a))
