-- More turns than are needed change nothing, so each form is made of the forms below it.
use Rattle.std.proofs.Common.{◌≡◌, ℕ, zero, suc, ◌+◌, ◌*◌, ◌<◌, Bool, true, false, if◌then◌else◌, List, [], ◌∷◌, ◌++◌, length, Option, Some, None, Ok, Err, refl, ◌∙◌, ap, arith}
use Rattle.rx_tree.specs.declared.token.Oper.{Oper}
use Rattle.rx_tree.specs.declared.token.Token.{Token}
use Rattle.rx_tree.specs.declared.expr.Expr.{Expr}
use Rattle.rx_tree.specs.declared.expr.Expr.TheVariants as e
use Rattle.rx_tree.specs.declared.expr.SendPart.{SendPart}
use Rattle.rx_tree.specs.declared.stops.Stops.{Stops}
use Rattle.rx_tree.specs.declared.stops.Stops.TheVariants as s
use Rattle.rx_tree.specs.StopWords.{is_stop}
use Rattle.rx_tree.specs.Operators.{Tokens}
use Rattle.rx_tree.specs.Terms.{term_of, name_of, is_string, call_at}
use Rattle.rx_tree.specs.Expressions.{part}
use Rattle.rx_exprs.specs.declared.operators.Opening.{Opening}
use Rattle.rx_exprs.specs.declared.operators.Opening.TheVariants.{Tilde, Bracket}
use Rattle.rx_exprs.specs.declared.operators.Bracketed.{Bracketed}
use Rattle.rx_exprs.specs.declared.operators.Bracketed.TheVariants.{Round, Square}
use Rattle.rx_exprs.specs.declared.operators.End.{End}
use Rattle.rx_exprs.specs.declared.operators.End.TheVariants.{Comma, Close}
use Rattle.rx_exprs.specs.Marks.{is_left, closed_at, opened_at, end_at, ended_at}
use Rattle.rx_exprs.specs.Reader.{Outcome, and_then, on_some, refusal, with_parts, with_signs, with_terms, signs, operator_of, name_at, above_at, loosest, read, primary, terms, parts, one_part, call_args, args, listed, next, argument, turns, expression}
use Rattle.rx_exprs.specs.Forms.{level_form, terms_form, parts_form, part_form, call_form, args_form, listed_form, argument_form, next_form}
use Rattle.rx_exprs.proofs.Tables.{here-operator, found-is}
use Rattle.rx_exprs.proofs.Heads.{call-shorter, signed-shorter, above-shorter, shorter, arg-shorter}
use Rattle.rx_exprs.proofs.Steps.{step}
use Rattle.rx_exprs.proofs.Parts.{opened-is, name-is, above-is, end-found, signed-all}
use Rattle.rx_exprs.proofs.Giving.{taken, argument-taken}
use Rattle.rx_exprs.proofs.Shorter.{part-shorter}

-- ---- steps that are the same

pub then-same : {A B : Type 0} (x y : Outcome A) (f g : A → Tokens → Outcome B) → x ≡ y → ((a : A) (rest : Tokens) → x ≡ Ok (a, rest) → f a rest ≡ g a rest)
    → and_then x f ≡ and_then y g
then-same {A = A} {B = B} x y f g is same = go x refl ∙ ap (λ z. and_then z g) is
  where
    go : (z : Outcome A) → x ≡ z → and_then z f ≡ and_then z g
    go (Err fault) p = refl
    go (Ok found) p = same found.0 found.1 p

pub some-same : {A B : Type 0} (x : Option A) (y : Outcome B) (z : Outcome B) (f g : A → Outcome B) → y ≡ z → ((a : A) → x ≡ Some a → f a ≡ g a) → on_some x y f ≡ on_some x z g
some-same None y z f g is same = is
some-same (Some a) y z f g is same = same a refl

pub if-same : {A : Type 0} (b : Bool) (x y z w : A) → x ≡ z → y ≡ w → (if b then x else y) ≡ (if b then z else w)
if-same true x y z w p q = p
if-same false x y z w p q = q

-- ---- turns

mutual
  pub read-steady : (f g : ℕ) (stops : Stops) (n : ℕ) (tokens : Tokens) → n < 10 → 16 * length tokens + n + 1 < f → 16 * length tokens + n + 1 < g
      → read f stops n tokens ≡ read g stops n tokens
  read-steady zero g stops n tokens small p q = absurd (omega arith)
  read-steady (suc m) g stops zero tokens small p q =
      step (λ g. primary m stops tokens ≡ read g stops 0 tokens) g (omega arith) (λ l is.
      primary-steady m l stops tokens (omega arith) (omega arith))
  read-steady (suc m) g stops (suc zero) tokens small p q =
      step (λ g. read (suc m) stops 1 tokens ≡ read g stops 1 tokens) g (omega arith) (λ l is.
      then-same _ _ _ _ (read-steady m l stops 0 tokens (omega arith) (omega arith) (omega arith)) (λ receiver behind was.
      let short = shorter (taken m stops 0 tokens receiver behind (omega arith) was).written in
      then-same _ _ _ _ (parts-steady m l [] behind (omega arith) (omega arith)) (λ _ _ _. refl)))
  read-steady (suc m) g stops (suc (suc zero)) tokens small p q =
      let short = signed-shorter (signed-all tokens) in
      step (λ g. read (suc m) stops 2 tokens ≡ read g stops 2 tokens) g (omega arith) (λ l is.
      then-same _ _ _ _ (read-steady m l stops 1 (signs tokens).1 (omega arith) (omega arith) (omega arith)) (λ _ _ _. refl))
  read-steady (suc m) g stops (suc (suc (suc n))) tokens small p q =
      step (λ g. read (suc m) stops (suc (suc (suc n))) tokens ≡ read g stops (suc (suc (suc n))) tokens) g (omega arith) (λ l is.
      then-same _ _ _ _ (read-steady m l stops (suc (suc n)) tokens (omega arith) (omega arith) (omega arith)) (λ first behind was.
      let short = shorter (taken m stops (suc (suc n)) tokens first behind (omega arith) was).written in
      then-same _ _ _ _ (terms-steady m l stops n [] behind (omega arith) (omega arith) (omega arith)) (λ _ _ _. refl)))

  primary-steady : (f g : ℕ) (stops : Stops) (tokens : Tokens) → 16 * length tokens < f → 16 * length tokens < g
      → primary f stops tokens ≡ primary g stops tokens
  primary-steady zero g stops tokens p q = absurd (omega arith)
  primary-steady (suc m) g stops [] p q = step (λ g. primary (suc m) stops [] ≡ primary g stops []) g (omega arith) (λ l is. refl)
  primary-steady (suc m) g stops (t ∷ behind) p q =
      step (λ g. primary (suc m) stops (t ∷ behind) ≡ primary g stops (t ∷ behind)) g (omega arith) (λ l is.
      if-same (is_left t.kind) _ _ _ _
      (then-same _ _ _ _ (read-steady m l s.Nothing loosest behind (omega arith) (omega arith) (omega arith)) (λ _ _ _. refl))
      (if-same (is_stop stops t.kind) _ _ _ _ refl
      (some-same (call_at behind) _ _ _ _ refl (λ tokens called.
      let c = call-shorter behind tokens called in
      some-same (name_of t.kind) _ _ _ _ refl (λ name _.
      then-same _ _ _ _ (args-steady m l Round tokens (omega arith) (omega arith)) (λ _ _ _. refl))))))

  pub terms-steady : (f g : ℕ) (stops : Stops) (n : ℕ) (found : List (Oper × Expr)) (tokens : Tokens) → n < 7
      → 16 * length tokens + (n + 4) < f → 16 * length tokens + (n + 4) < g → terms f stops n found tokens ≡ terms g stops n found tokens
  terms-steady zero g stops n found tokens small p q = absurd (omega arith)
  terms-steady (suc m) g stops n found tokens small p q =
      step (λ g. terms (suc m) stops n found tokens ≡ terms g stops n found tokens) g (omega arith) (λ l is.
      some-same (operator_of stops (suc (suc (suc n))) tokens) _ _ _ _ refl (λ oper some.
      let here = found-is stops tokens oper (here-operator stops (suc (suc (suc n))) tokens oper some).0 in
      let less = here.behind in
      then-same _ _ _ _ (read-steady m l stops (suc (suc n)) oper.1 (omega arith) (omega arith) (omega arith)) (λ expr rest was.
      let short = shorter (taken m stops (suc (suc n)) oper.1 expr rest (omega arith) was).written in
      terms-steady m l stops n (found ++ (oper.0, expr) ∷ []) rest small (omega arith) (omega arith))))

  pub parts-steady : (f g : ℕ) (found : List SendPart) (tokens : Tokens) → 16 * length tokens < f → 16 * length tokens < g
      → parts f found tokens ≡ parts g found tokens
  parts-steady zero g found tokens p q = absurd (omega arith)
  parts-steady (suc m) g found tokens p q =
      step (λ g. parts (suc m) found tokens ≡ parts g found tokens) g (omega arith) (λ l is.
      some-same (opened_at tokens) _ _ _ _ refl (λ opening some.
      let t = opened-is tokens opening some in
      let less = ap length t.is in
      then-same _ _ _ _ (part-steady m l opening.0 opening.1 (omega arith) (omega arith)) (λ one rest was.
      let short = part-shorter m opening.0 opening.1 one rest was in
      parts-steady m l (found ++ one ∷ []) rest (omega arith) (omega arith))))

  pub part-steady : (f g : ℕ) (opening : Opening) (tokens : Tokens) → 16 * length tokens + 14 < f → 16 * length tokens + 14 < g
      → one_part f opening tokens ≡ one_part g opening tokens
  part-steady zero g opening tokens p q = absurd (omega arith)
  part-steady (suc m) g (Tilde back) tokens p q =
      step (λ g. one_part (suc m) (Tilde back) tokens ≡ one_part g (Tilde back) tokens) g (omega arith) (λ l is.
      then-same _ _ _ _ refl (λ name behind was.
      let less = ap length (name-is tokens name behind was).is in
      then-same _ _ _ _ refl (λ class others there.
      let fewer = above-shorter (above-is behind class others there) in
      then-same _ _ _ _ (call-steady m l others (omega arith) (omega arith)) (λ _ _ _. refl))))
  part-steady (suc m) g Bracket tokens p q =
      step (λ g. one_part (suc m) Bracket tokens ≡ one_part g Bracket tokens) g (omega arith) (λ l is.
      then-same _ _ _ _ (args-steady m l Square tokens (omega arith) (omega arith)) (λ _ _ _. refl))

  pub call-steady : (f g : ℕ) (tokens : Tokens) → 16 * length tokens < f → 16 * length tokens < g → call_args f tokens ≡ call_args g tokens
  call-steady zero g tokens p q = absurd (omega arith)
  call-steady (suc m) g tokens p q =
      step (λ g. call_args (suc m) tokens ≡ call_args g tokens) g (omega arith) (λ l is.
      some-same (call_at tokens) _ _ _ _ refl (λ inside called.
      let c = call-shorter tokens inside called in
      args-steady m l Round inside (omega arith) (omega arith)))

  pub args-steady : (f g : ℕ) (bracketed : Bracketed) (tokens : Tokens) → 16 * length tokens + 13 < f → 16 * length tokens + 13 < g
      → args f bracketed tokens ≡ args g bracketed tokens
  args-steady zero g bracketed tokens p q = absurd (omega arith)
  args-steady (suc m) g bracketed tokens p q =
      step (λ g. args (suc m) bracketed tokens ≡ args g bracketed tokens) g (omega arith) (λ l is.
      some-same (ended_at bracketed tokens) _ _ _ _ (listed-steady m l bracketed [] tokens (omega arith) (omega arith)) (λ _ _. refl))

  pub listed-steady : (f g : ℕ) (bracketed : Bracketed) (found : List (Option Expr)) (tokens : Tokens) → 16 * length tokens + 12 < f
      → 16 * length tokens + 12 < g → listed f bracketed found tokens ≡ listed g bracketed found tokens
  listed-steady zero g bracketed found tokens p q = absurd (omega arith)
  listed-steady (suc m) g bracketed found tokens p q =
      step (λ g. listed (suc m) bracketed found tokens ≡ listed g bracketed found tokens) g (omega arith) (λ l is.
      then-same _ _ _ _ (argument-steady m l bracketed tokens (omega arith) (omega arith)) (λ arg behind was.
      let short = arg-shorter (argument-taken m bracketed tokens arg behind was) in
      some-same (end_at bracketed behind) _ _ _ _ refl (λ end some.
      let less = ap length (end-found bracketed behind end some).is in
      next-steady m l bracketed (found ++ arg ∷ []) end.0 end.1 (omega arith) (omega arith))))

  next-steady : (f g : ℕ) (bracketed : Bracketed) (found : List (Option Expr)) (end : End) (rest : Tokens) → 16 * length rest + 13 < f
      → 16 * length rest + 13 < g → next f bracketed found end rest ≡ next g bracketed found end rest
  next-steady zero g bracketed found end rest p q = absurd (omega arith)
  next-steady (suc m) g bracketed found Comma rest p q =
      step (λ g. listed m bracketed found rest ≡ next g bracketed found Comma rest) g (omega arith) (λ l is.
      listed-steady m l bracketed found rest (omega arith) (omega arith))
  next-steady (suc m) g bracketed found Close rest p q =
      step (λ g. next (suc m) bracketed found Close rest ≡ next g bracketed found Close rest) g (omega arith) (λ l is. refl)

  pub argument-steady : (f g : ℕ) (bracketed : Bracketed) (tokens : Tokens) → 16 * length tokens + 11 < f → 16 * length tokens + 11 < g
      → argument f bracketed tokens ≡ argument g bracketed tokens
  argument-steady zero g bracketed tokens p q = absurd (omega arith)
  argument-steady (suc m) g bracketed tokens p q =
      step (λ g. argument (suc m) bracketed tokens ≡ argument g bracketed tokens) g (omega arith) (λ l is.
      some-same (end_at bracketed tokens) _ _ _ _
      (then-same _ _ _ _ (read-steady m l s.Nothing loosest tokens (omega arith) (omega arith) (omega arith)) (λ _ _ _. refl)) (λ _ _. refl))

-- ---- the forms

-- a term without messages, by its first token
abbrev pub primary_of : Stops → Tokens → Outcome Expr
primary_of stops [] = Err (refusal 35 [])
primary_of stops (t ∷ behind) =
    if is_left t.kind then
    and_then (level_form s.Nothing loosest behind) (λ expr others. on_some (closed_at others) (Err (refusal 36 others)) (λ rest. Ok (e.Group expr, rest)))
    else (if is_stop stops t.kind then Err (refusal 35 (t ∷ behind)) else
    on_some (call_at behind) (on_some (term_of t.kind) (Err (refusal 35 (t ∷ behind))) (λ expr. Ok (expr, behind)))
    (λ tokens. on_some (name_of t.kind) (Err (refusal 35 (t ∷ behind))) (λ name.
    and_then (args_form Round tokens) (λ found rest. Ok (e.Function name (is_string t.kind) found, rest)))))

primary-same : (m : ℕ) (stops : Stops) (t : Token) (behind : Tokens) → 16 * length behind + 14 < m → primary (suc m) stops (t ∷ behind) ≡ primary_of stops (t ∷ behind)
unfolding level_form args_form
primary-same m stops t behind enough =
    if-same (is_left t.kind) _ _ _ _
    (then-same _ _ _ _ (read-steady m (16 * length behind + loosest + 2) s.Nothing loosest behind (omega arith) (omega arith) (omega arith)) (λ _ _ _. refl))
    (if-same (is_stop stops t.kind) _ _ _ _ refl
    (some-same (call_at behind) _ _ _ _ refl (λ tokens called.
    let c = call-shorter behind tokens called in
    some-same (name_of t.kind) _ _ _ _ refl (λ name _.
    then-same _ _ _ _ (args-steady m (16 * length tokens + 14) Round tokens (omega arith) (omega arith)) (λ _ _ _. refl)))))

pub level_0 : (stops : Stops) (tokens : Tokens) → level_form stops 0 tokens ≡ primary_of stops tokens
unfolding level_form
level_0 stops [] = refl
level_0 stops (t ∷ behind) =
    step (λ f. read f stops 0 (t ∷ behind) ≡ primary_of stops (t ∷ behind)) (16 * length (t ∷ behind) + 0 + 2) (omega arith) (λ m is.
    step (λ m. primary m stops (t ∷ behind) ≡ primary_of stops (t ∷ behind)) m (omega arith) (λ l also.
    primary-same l stops t behind (omega arith)))

pub level_1 : (stops : Stops) (tokens : Tokens) → level_form stops 1 tokens
    ≡ and_then (level_form stops 0 tokens) (λ receiver behind. and_then (parts_form [] behind) (λ found rest. Ok (with_parts receiver found, rest)))
unfolding level_form parts_form
level_1 stops tokens =
    step (λ f. read f stops 1 tokens
    ≡ and_then (read (16 * length tokens + 0 + 2) stops 0 tokens) (λ receiver behind. and_then (parts (16 * length behind + 1) [] behind) (λ found rest. Ok (with_parts receiver found, rest))))
    (16 * length tokens + 1 + 2) (omega arith) (λ m is.
    then-same _ _ _ _ (read-steady m (16 * length tokens + 0 + 2) stops 0 tokens (omega arith) (omega arith) (omega arith)) (λ receiver behind was.
    let short = shorter (taken m stops 0 tokens receiver behind (omega arith) was).written in
    then-same _ _ _ _ (parts-steady m (16 * length behind + 1) [] behind (omega arith) (omega arith)) (λ _ _ _. refl)))

pub level_2 : (stops : Stops) (tokens : Tokens) → level_form stops 2 tokens
    ≡ and_then (level_form stops 1 (signs tokens).1) (λ term rest. Ok (with_signs (signs tokens).0 term, rest))
unfolding level_form
level_2 stops tokens =
    let short = signed-shorter (signed-all tokens) in
    step (λ f. read f stops 2 tokens
    ≡ and_then (read (16 * length (signs tokens).1 + 1 + 2) stops 1 (signs tokens).1) (λ term rest. Ok (with_signs (signs tokens).0 term, rest)))
    (16 * length tokens + 2 + 2) (omega arith) (λ m is.
    then-same _ _ _ _ (read-steady m (16 * length (signs tokens).1 + 1 + 2) stops 1 (signs tokens).1 (omega arith) (omega arith) (omega arith)) (λ _ _ _. refl))

level-up : (stops : Stops) (n : ℕ) (tokens : Tokens) → n < 7 → level_form stops (suc (suc (suc n))) tokens
    ≡ and_then (level_form stops (suc (suc n)) tokens) (λ first behind. and_then (terms_form stops n [] behind) (λ found rest. Ok (with_terms first found, rest)))
unfolding level_form terms_form
level-up stops n tokens small =
    step (λ f. read f stops (suc (suc (suc n))) tokens
    ≡ and_then (read (16 * length tokens + suc (suc n) + 2) stops (suc (suc n)) tokens) (λ first behind. and_then (terms (16 * length behind + n + 5) stops n [] behind) (λ found rest. Ok (with_terms first found, rest))))
    (16 * length tokens + suc (suc (suc n)) + 2) (omega arith) (λ m is.
    then-same _ _ _ _ (read-steady m (16 * length tokens + suc (suc n) + 2) stops (suc (suc n)) tokens (omega arith) (omega arith) (omega arith)) (λ first behind was.
    let short = shorter (taken m stops (suc (suc n)) tokens first behind (omega arith) was).written in
    then-same _ _ _ _ (terms-steady m (16 * length behind + n + 5) stops n [] behind small (omega arith) (omega arith)) (λ _ _ _. refl)))

pub level_n : (stops : Stops) (n : ℕ) (tokens : Tokens) → n < 7 → level_form stops (n + 3) tokens
    ≡ and_then (level_form stops (n + 2) tokens) (λ first behind. and_then (terms_form stops n [] behind) (λ found rest. Ok (with_terms first found, rest)))
level_n stops n tokens small =
    let a : n + 3 ≡ suc (suc (suc n)) = omega arith in
    let b : n + 2 ≡ suc (suc n) = omega arith in
    rw (a, b) (level-up stops n tokens small)

terms-up : (stops : Stops) (n : ℕ) (found : List (Oper × Expr)) (tokens : Tokens) → n < 7 → terms_form stops n found tokens
    ≡ on_some (operator_of stops (suc (suc (suc n))) tokens) (Ok (found, tokens)) (λ oper.
    and_then (level_form stops (suc (suc n)) oper.1) (λ expr rest. terms_form stops n (found ++ (oper.0, expr) ∷ []) rest))
unfolding level_form terms_form
terms-up stops n found tokens small =
    step (λ f. terms f stops n found tokens
    ≡ on_some (operator_of stops (suc (suc (suc n))) tokens) (Ok (found, tokens)) (λ oper.
    and_then (read (16 * length oper.1 + suc (suc n) + 2) stops (suc (suc n)) oper.1) (λ expr rest. terms (16 * length rest + n + 5) stops n (found ++ (oper.0, expr) ∷ []) rest)))
    (16 * length tokens + n + 5) (omega arith) (λ m is.
    some-same (operator_of stops (suc (suc (suc n))) tokens) _ _ _ _ refl (λ oper some.
    let here = found-is stops tokens oper (here-operator stops (suc (suc (suc n))) tokens oper some).0 in
    let less = here.behind in
    then-same _ _ _ _ (read-steady m (16 * length oper.1 + suc (suc n) + 2) stops (suc (suc n)) oper.1 (omega arith) (omega arith) (omega arith)) (λ expr rest was.
    let short = shorter (taken m stops (suc (suc n)) oper.1 expr rest (omega arith) was).written in
    terms-steady m (16 * length rest + n + 5) stops n (found ++ (oper.0, expr) ∷ []) rest small (omega arith) (omega arith))))

pub terms_n : (stops : Stops) (n : ℕ) (found : List (Oper × Expr)) (tokens : Tokens) → n < 7 → terms_form stops n found tokens
    ≡ on_some (operator_of stops (n + 3) tokens) (Ok (found, tokens)) (λ oper.
    and_then (level_form stops (n + 2) oper.1) (λ expr rest. terms_form stops n (found ++ (oper.0, expr) ∷ []) rest))
terms_n stops n found tokens small =
    let a : n + 3 ≡ suc (suc (suc n)) = omega arith in
    let b : n + 2 ≡ suc (suc n) = omega arith in
    rw (a, b) (terms-up stops n found tokens small)

pub parts_next : (found : List SendPart) (tokens : Tokens) → parts_form found tokens
    ≡ on_some (opened_at tokens) (Ok (found, tokens)) (λ opening. and_then (part_form opening.0 opening.1) (λ one rest. parts_form (found ++ one ∷ []) rest))
unfolding parts_form part_form
parts_next found tokens =
    step (λ f. parts f found tokens
    ≡ on_some (opened_at tokens) (Ok (found, tokens)) (λ opening.
    and_then (one_part (16 * length opening.1 + 15) opening.0 opening.1) (λ one rest. parts (16 * length rest + 1) (found ++ one ∷ []) rest)))
    (16 * length tokens + 1) (omega arith) (λ m is.
    some-same (opened_at tokens) _ _ _ _ refl (λ opening some.
    let less = ap length (opened-is tokens opening some).is in
    then-same _ _ _ _ (part-steady m (16 * length opening.1 + 15) opening.0 opening.1 (omega arith) (omega arith)) (λ one rest was.
    let short = part-shorter m opening.0 opening.1 one rest was in
    parts-steady m (16 * length rest + 1) (found ++ one ∷ []) rest (omega arith) (omega arith))))

pub part_tilde : (back : Bool) (tokens : Tokens) → part_form (Tilde back) tokens
    ≡ and_then (name_at tokens) (λ name behind. and_then (above_at behind) (λ class others. and_then (call_form others) (λ list rest. Ok (part name class list back false, rest))))
unfolding part_form call_form
part_tilde back tokens =
    step (λ f. one_part f (Tilde back) tokens
    ≡ and_then (name_at tokens) (λ name behind. and_then (above_at behind) (λ class others. and_then (call_args (16 * length others + 1) others) (λ list rest. Ok (part name class list back false, rest)))))
    (16 * length tokens + 15) (omega arith) (λ m is.
    then-same _ _ _ _ refl (λ name behind was.
    let less = ap length (name-is tokens name behind was).is in
    then-same _ _ _ _ refl (λ class others there.
    let fewer = above-shorter (above-is behind class others there) in
    then-same _ _ _ _ (call-steady m (16 * length others + 1) others (omega arith) (omega arith)) (λ _ _ _. refl))))

pub part_bracket : (tokens : Tokens) → part_form Bracket tokens ≡ and_then (args_form Square tokens) (λ list rest. Ok (part [] None list false true, rest))
unfolding part_form args_form
part_bracket tokens =
    step (λ f. one_part f Bracket tokens ≡ and_then (args (16 * length tokens + 14) Square tokens) (λ list rest. Ok (part [] None list false true, rest)))
    (16 * length tokens + 15) (omega arith) (λ m is.
    then-same _ _ _ _ (args-steady m (16 * length tokens + 14) Square tokens (omega arith) (omega arith)) (λ _ _ _. refl))

pub call_next : (tokens : Tokens) → call_form tokens ≡ on_some (call_at tokens) (Ok ([], tokens)) (λ inside. args_form Round inside)
unfolding call_form args_form
call_next tokens =
    step (λ f. call_args f tokens ≡ on_some (call_at tokens) (Ok ([], tokens)) (λ inside. args (16 * length inside + 14) Round inside))
    (16 * length tokens + 1) (omega arith) (λ m is.
    some-same (call_at tokens) _ _ _ _ refl (λ inside called.
    let c = call-shorter tokens inside called in
    args-steady m (16 * length inside + 14) Round inside (omega arith) (omega arith)))

pub args_next : (bracketed : Bracketed) (tokens : Tokens) → args_form bracketed tokens
    ≡ on_some (ended_at bracketed tokens) (listed_form bracketed [] tokens) (λ rest. Ok ([], rest))
unfolding args_form listed_form
args_next bracketed tokens =
    step (λ f. args f bracketed tokens ≡ on_some (ended_at bracketed tokens) (listed (16 * length tokens + 13) bracketed [] tokens) (λ rest. Ok ([], rest)))
    (16 * length tokens + 14) (omega arith) (λ m is.
    some-same (ended_at bracketed tokens) _ _ _ _ (listed-steady m (16 * length tokens + 13) bracketed [] tokens (omega arith) (omega arith)) (λ _ _. refl))

argument-same : (m : ℕ) (bracketed : Bracketed) (tokens : Tokens) → 16 * length tokens + 10 < m → argument (suc m) bracketed tokens ≡ argument_form bracketed tokens
unfolding argument_form level_form
argument-same m bracketed tokens enough =
    some-same (end_at bracketed tokens) _ _ _ _
    (then-same _ _ _ _ (read-steady m (16 * length tokens + loosest + 2) s.Nothing loosest tokens (omega arith) (omega arith) (omega arith)) (λ _ _ _. refl)) (λ _ _. refl)

next-same : (m : ℕ) (bracketed : Bracketed) (found : List (Option Expr)) (end : End) (rest : Tokens) → 16 * length rest + 12 < m
    → next (suc m) bracketed found end rest ≡ next_form bracketed found end rest
unfolding next_form listed_form
next-same m bracketed found Comma rest enough = listed-steady m (16 * length rest + 13) bracketed found rest (omega arith) (omega arith)
next-same m bracketed found Close rest enough = refl

pub listed_next : (bracketed : Bracketed) (found : List (Option Expr)) (tokens : Tokens) → listed_form bracketed found tokens
    ≡ and_then (argument_form bracketed tokens) (λ arg behind. on_some (end_at bracketed behind) (Err (refusal 36 behind)) (λ end. next_form bracketed (found ++ arg ∷ []) end.0 end.1))
unfolding listed_form
listed_next bracketed found tokens =
    step (λ f. listed f bracketed found tokens
    ≡ and_then (argument_form bracketed tokens) (λ arg behind. on_some (end_at bracketed behind) (Err (refusal 36 behind)) (λ end. next_form bracketed (found ++ arg ∷ []) end.0 end.1)))
    (16 * length tokens + 13) (omega arith) (λ m is.
    step (λ m. and_then (argument m bracketed tokens) (λ arg behind. on_some (end_at bracketed behind) (Err (refusal 36 behind)) (λ end. next m bracketed (found ++ arg ∷ []) end.0 end.1))
    ≡ and_then (argument_form bracketed tokens) (λ arg behind. on_some (end_at bracketed behind) (Err (refusal 36 behind)) (λ end. next_form bracketed (found ++ arg ∷ []) end.0 end.1)))
    m (omega arith) (λ l also.
    then-same _ _ _ _ (argument-same l bracketed tokens (omega arith)) (λ arg behind was.
    let short = arg-shorter (argument-taken (suc l) bracketed tokens arg behind was) in
    some-same (end_at bracketed behind) _ _ _ _ refl (λ end some.
    let less = ap length (end-found bracketed behind end some).is in
    next-same l bracketed (found ++ arg ∷ []) end.0 end.1 (omega arith)))))

pub whole : (stops : Stops) (tokens : Tokens) → expression stops tokens ≡ level_form stops loosest tokens
unfolding expression level_form
whole stops tokens = read-steady (turns tokens) (16 * length tokens + loosest + 2) stops loosest tokens (omega arith) (omega arith) (omega arith)
