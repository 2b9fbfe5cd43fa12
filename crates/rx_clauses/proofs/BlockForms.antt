-- Clauses and blocks: more turns than are needed change nothing, so each form is made of the forms below it.
use Rattle.std.proofs.Common.{◌≡◌, ℕ, zero, suc, ◌+◌, ◌*◌, ◌-◌, ◌<◌, Bool, true, false, if◌then◌else◌, List, [], ◌∷◌, ◌++◌, length, Option, Some, None, Ok, Err, refl, sym, ◌∙◌, ap, arith}
use Rattle.std.specs.Prelude.{codes}
use Rattle.rx_tree.specs.declared.name.Name.{Name}
use Rattle.rx_tree.specs.declared.token.Token.{Token}
use Rattle.rx_tree.specs.declared.expr.Expr.{Expr}
use Rattle.rx_tree.specs.declared.stops.Stops.TheVariants as s
use Rattle.rx_tree.specs.Operators.{Tokens}
use Rattle.rx_exprs.specs.declared.refused.Fault.{Fault}
use Rattle.rx_exprs.specs.Reader.{Outcome, and_then, on_some, lack, refusal, expression}
use Rattle.rx_exprs.proofs.Steps.{step}
use Rattle.rx_exprs.proofs.Steady.{then-same, some-same, if-same}
use Rattle.rx_clause_tree.specs.declared.loops.Header.{Header}
use Rattle.rx_clause_tree.specs.declared.loops.Test.{Test}
use Rattle.rx_clause_tree.specs.declared.clause.Clause.{Clause}
use Rattle.rx_clause_tree.specs.declared.clause.ClauseKind.{ClauseKind}
use Rattle.rx_clause_tree.specs.declared.clause.ClauseKind.TheVariants as x
use Rattle.rx_clause_tree.specs.declared.clause.When.{When}
use Rattle.rx_clause_tree.specs.ClauseWords.{begins_word, behind_end, behind_word}
use Rattle.rx_clause_tree.specs.Loops.{Loops, control_of}
use Rattle.rx_clause_tree.specs.Clauses.{behind_then, clause, when}
use Rattle.rx_clauses.specs.declared.keyword.Keyword.{Keyword}
use Rattle.rx_clauses.specs.declared.keyword.Keyword.TheVariants as w
use Rattle.rx_clauses.specs.declared.keyword.Word.{Word}
use Rattle.rx_clauses.specs.declared.start.Start.{Start}
use Rattle.rx_clauses.specs.declared.start.Start.TheVariants as b
use Rattle.rx_clauses.specs.Parts.{behind_symbol}
use Rattle.rx_clauses.specs.Looping.{header, test}
use Rattle.rx_clauses.specs.Reader as r
use Rattle.rx_clauses.specs.Reader.{start, by_start, turns, read, instruction, choice, else_clause, select, whens, otherwise, group, loop, clauses, behind, are_none, no_when, ended, line_of}
use Rattle.rx_clauses.specs.Forms.{is_block, clause_form, instruction_form, block_form, choice_form, else_form, select_form, whens_form, otherwise_form, group_form, loop_form, clauses_form}
use Rattle.rx_clauses.proofs.Sure.{so-read}
use Rattle.rx_clauses.proofs.Words.{end-shorter, symbol-shorter, word-shorter}
use Rattle.rx_clauses.proofs.Opens.{expression-sure, fits-shorter}
use Rattle.rx_clauses.proofs.LoopingLaw.{header-sure, header-shorter, test-sure, test-shorter}
use Rattle.rx_clauses.proofs.ClausesLaw.{then-shorter, shorter, read-sure, whens-shorter, whens-sure}

-- ---- what is read is taken away

pub expression-less : (tokens rest : Tokens) (expr : Expr) → expression s.Then tokens ≡ Ok (expr, rest) → length rest < length tokens
expression-less tokens rest expr is = fits-shorter (so-read (expression s.Then tokens) expr rest (expression-sure s.Then tokens) is)

read-less : (f : ℕ) (loops : Loops) (room : ℕ) (tokens rest : Tokens) (first : Clause) → read f loops room tokens ≡ Ok (first, rest) → length rest < length tokens
read-less f loops room tokens rest first is = shorter (so-read (read f loops room tokens) first rest (read-sure f loops room tokens) is)

pub whens-less : (f : ℕ) (loops : Loops) (room : ℕ) (tokens rest : Tokens) (list : List When) → whens f loops room tokens ≡ Ok (list, rest) → length rest < length tokens + 1
whens-less f loops room tokens rest list is = let h = whens-shorter (so-read (whens f loops room tokens) list rest (whens-sure f loops room tokens) is) in omega arith

pub header-less : (tokens rest : Tokens) (found : Header) → header tokens ≡ Ok (found, rest) → length rest < length tokens + 1
header-less tokens rest found is = let h = header-shorter (so-read (header tokens) found rest (header-sure tokens) is) in omega arith

pub test-less : (tokens rest : Tokens) (found : Test) → test tokens ≡ Ok (found, rest) → length rest < length tokens
test-less tokens rest found is = test-shorter (so-read (test tokens) found rest (test-sure tokens) is)

-- ---- turns

start-same : (f g : Keyword → Outcome ClauseKind) (here : Tokens) (begun : Start) (tokens : Tokens) → ((keyword : Keyword) → f keyword ≡ g keyword)
    → by_start f here begun tokens ≡ by_start g here begun tokens
start-same f g here b.Assignment tokens same = refl
start-same f g here (b.Sending receiver part) tokens same = refl
start-same f g here b.Label tokens same = refl
start-same f g here (b.Word keyword) tokens same = ap (λ z. and_then z (λ kind rest. Ok (clause (line_of here) kind, rest))) (same keyword)
start-same f g here b.Other tokens same = refl

nothing-read : (m l : ℕ) (loops : Loops) (room : ℕ) → read (suc m) loops room [] ≡ read (suc l) loops room []
unfolding start
nothing-read m l loops room = refl

nothing-starts : (m : ℕ) (loops : Loops) (room : ℕ) → read (suc m) loops room [] ≡ by_start (λ keyword. instruction 16 loops room keyword [] []) [] (start []).0 (start []).1
unfolding start
nothing-starts m loops room = refl

mutual
  pub read-steady : (f g : ℕ) (loops : Loops) (room : ℕ) (tokens : Tokens) → 16 * length tokens + 8 < f → 16 * length tokens + 8 < g
      → read f loops room tokens ≡ read g loops room tokens
  read-steady zero g loops room tokens p q = absurd (omega arith)
  read-steady (suc m) g loops room [] p q = step (λ g. read (suc m) loops room [] ≡ read g loops room []) g (omega arith) (λ l is. nothing-read m l loops room)
  read-steady (suc m) g loops room (t ∷ tokens) p q =
      step (λ g. read (suc m) loops room (t ∷ tokens) ≡ read g loops room (t ∷ tokens)) g (omega arith) (λ l is.
      start-same _ _ (t ∷ tokens) (start (t ∷ tokens)).0 (start (t ∷ tokens)).1 (λ keyword.
      instruction-steady m l loops room keyword (t ∷ tokens) tokens (omega arith) (omega arith)))

  pub instruction-steady : (f g : ℕ) (loops : Loops) (room : ℕ) (keyword : Keyword) (here tokens : Tokens) → 16 * length tokens + 22 < f → 16 * length tokens + 22 < g
      → instruction f loops room keyword here tokens ≡ instruction g loops room keyword here tokens
  instruction-steady zero g loops room keyword here tokens p q = absurd (omega arith)
  instruction-steady (suc m) g loops room (w.Other word) here tokens p q =
      step (λ g. instruction (suc m) loops room (w.Other word) here tokens ≡ instruction g loops room (w.Other word) here tokens) g (omega arith) (λ l is. refl)
  instruction-steady (suc m) g loops room w.Procedure here tokens p q =
      step (λ g. instruction (suc m) loops room w.Procedure here tokens ≡ instruction g loops room w.Procedure here tokens) g (omega arith) (λ l is. refl)
  instruction-steady (suc m) g loops room w.Expose here tokens p q =
      step (λ g. instruction (suc m) loops room w.Expose here tokens ≡ instruction g loops room w.Expose here tokens) g (omega arith) (λ l is. refl)
  instruction-steady (suc m) g loops zero w.If here tokens p q =
      step (λ g. instruction (suc m) loops 0 w.If here tokens ≡ instruction g loops 0 w.If here tokens) g (omega arith) (λ l is. refl)
  instruction-steady (suc m) g loops zero w.Select here tokens p q =
      step (λ g. instruction (suc m) loops 0 w.Select here tokens ≡ instruction g loops 0 w.Select here tokens) g (omega arith) (λ l is. refl)
  instruction-steady (suc m) g loops zero w.Do here tokens p q =
      step (λ g. instruction (suc m) loops 0 w.Do here tokens ≡ instruction g loops 0 w.Do here tokens) g (omega arith) (λ l is. refl)
  instruction-steady (suc m) g loops zero w.Loop here tokens p q =
      step (λ g. instruction (suc m) loops 0 w.Loop here tokens ≡ instruction g loops 0 w.Loop here tokens) g (omega arith) (λ l is. refl)
  instruction-steady (suc m) g loops (suc room) w.If here tokens p q =
      step (λ g. choice m loops room tokens ≡ instruction g loops (suc room) w.If here tokens) g (omega arith) (λ l is.
      choice-steady m l loops room tokens (omega arith) (omega arith))
  instruction-steady (suc m) g loops (suc room) w.Select here tokens p q =
      step (λ g. select m loops room tokens ≡ instruction g loops (suc room) w.Select here tokens) g (omega arith) (λ l is.
      select-steady m l loops room tokens (omega arith) (omega arith))
  instruction-steady (suc m) g loops (suc room) w.Do here tokens p q =
      step (λ g. on_some (behind_end tokens) (loop m loops room tokens) (λ inside. group m loops room inside) ≡ instruction g loops (suc room) w.Do here tokens) g (omega arith) (λ l is.
      some-same (behind_end tokens) _ _ _ _ (loop-steady m l loops room tokens (omega arith) (omega arith)) (λ inside end.
      let h = end-shorter tokens inside end in group-steady m l loops room inside (omega arith) (omega arith)))
  instruction-steady (suc m) g loops (suc room) w.Loop here tokens p q =
      step (λ g. loop m loops room tokens ≡ instruction g loops (suc room) w.Loop here tokens) g (omega arith) (λ l is.
      loop-steady m l loops room tokens (omega arith) (omega arith))

  pub choice-steady : (f g : ℕ) (loops : Loops) (room : ℕ) (tokens : Tokens) → 16 * length tokens < f → 16 * length tokens < g → choice f loops room tokens ≡ choice g loops room tokens
  choice-steady zero g loops room tokens p q = absurd (omega arith)
  choice-steady (suc m) g loops room tokens p q =
      step (λ g. choice (suc m) loops room tokens ≡ choice g loops room tokens) g (omega arith) (λ l is.
      then-same _ _ _ _ refl (λ expr after was. let c = expression-less tokens after expr was in
      some-same (behind_then after) _ _ _ _ refl (λ inside then_. let d = then-shorter after inside then_ in
      then-same _ _ _ _ (read-steady m l loops room inside (omega arith) (omega arith)) (λ first others read. let h = read-less m loops room inside others first read in
      then-same _ _ _ _ (else-steady m l loops room others (omega arith) (omega arith)) (λ _ _ _. refl)))))

  pub else-steady : (f g : ℕ) (loops : Loops) (room : ℕ) (tokens : Tokens) → 16 * length tokens < f → 16 * length tokens < g
      → else_clause f loops room tokens ≡ else_clause g loops room tokens
  else-steady zero g loops room tokens p q = absurd (omega arith)
  else-steady (suc m) g loops room tokens p q =
      step (λ g. else_clause (suc m) loops room tokens ≡ else_clause g loops room tokens) g (omega arith) (λ l is.
      some-same (behind_word (codes "ELSE") tokens) _ _ _ _ refl (λ inside some. let c = word-shorter (codes "ELSE") tokens inside some in
      then-same _ _ _ _ (read-steady m l loops room inside (omega arith) (omega arith)) (λ _ _ _. refl)))

  pub select-steady : (f g : ℕ) (loops : Loops) (room : ℕ) (tokens : Tokens) → 16 * length tokens < f → 16 * length tokens < g → select f loops room tokens ≡ select g loops room tokens
  select-steady zero g loops room tokens p q = absurd (omega arith)
  select-steady (suc m) g loops room tokens p q =
      step (λ g. select (suc m) loops room tokens ≡ select g loops room tokens) g (omega arith) (λ l is.
      some-same (behind_end tokens) _ _ _ _ refl (λ inside end. let c = end-shorter tokens inside end in
      then-same _ _ _ _ (whens-steady m l loops room inside (omega arith) (omega arith)) (λ list after read. let d = whens-less m loops room inside after list read in
      if-same (are_none list) _ _ _ _ refl
      (then-same _ _ _ _ (otherwise-steady m l loops room after (omega arith) (omega arith)) (λ _ _ _. refl)))))

  pub whens-steady : (f g : ℕ) (loops : Loops) (room : ℕ) (tokens : Tokens) → 16 * length tokens < f → 16 * length tokens < g → whens f loops room tokens ≡ whens g loops room tokens
  whens-steady zero g loops room tokens p q = absurd (omega arith)
  whens-steady (suc m) g loops room tokens p q =
      step (λ g. whens (suc m) loops room tokens ≡ whens g loops room tokens) g (omega arith) (λ l is.
      some-same (behind_symbol (codes "WHEN") tokens) _ _ _ _ refl (λ after some. let b = symbol-shorter (codes "WHEN") tokens after some in
      then-same _ _ _ _ refl (λ expr others was. let c = expression-less after others expr was in
      some-same (behind_then others) _ _ _ _ refl (λ inside then_. let d = then-shorter others inside then_ in
      then-same _ _ _ _ (read-steady m l loops room inside (omega arith) (omega arith)) (λ first further read. let h = read-less m loops room inside further first read in
      then-same _ _ _ _ (whens-steady m l loops room further (omega arith) (omega arith)) (λ _ _ _. refl))))))

  pub otherwise-steady : (f g : ℕ) (loops : Loops) (room : ℕ) (tokens : Tokens) → 16 * length tokens < f → 16 * length tokens < g
      → otherwise f loops room tokens ≡ otherwise g loops room tokens
  otherwise-steady zero g loops room tokens p q = absurd (omega arith)
  otherwise-steady (suc m) g loops room tokens p q =
      step (λ g. otherwise (suc m) loops room tokens ≡ otherwise g loops room tokens) g (omega arith) (λ l is.
      some-same (behind_word (codes "OTHERWISE") tokens) _ _ _ _ refl (λ inside some. let c = word-shorter (codes "OTHERWISE") tokens inside some in
      then-same _ _ _ _ (clauses-steady m l loops room inside (omega arith) (omega arith)) (λ _ _ _. refl)))

  pub group-steady : (f g : ℕ) (loops : Loops) (room : ℕ) (inside : Tokens) → 16 * length inside + 10 < f → 16 * length inside + 10 < g → group f loops room inside ≡ group g loops room inside
  group-steady zero g loops room inside p q = absurd (omega arith)
  group-steady (suc m) g loops room inside p q =
      step (λ g. group (suc m) loops room inside ≡ group g loops room inside) g (omega arith) (λ l is.
      then-same _ _ _ _ (clauses-steady m l loops room inside (omega arith) (omega arith)) (λ _ _ _. refl))

  pub loop-steady : (f g : ℕ) (loops : Loops) (room : ℕ) (tokens : Tokens) → 16 * length tokens < f → 16 * length tokens < g → loop f loops room tokens ≡ loop g loops room tokens
  loop-steady zero g loops room tokens p q = absurd (omega arith)
  loop-steady (suc m) g loops room tokens p q =
      step (λ g. loop (suc m) loops room tokens ≡ loop g loops room tokens) g (omega arith) (λ l is.
      then-same _ _ _ _ refl (λ head after begun. let c = header-less tokens after head begun in
      then-same _ _ _ _ refl (λ tested inside so. let d = test-less after inside tested so in
      then-same _ _ _ _ (clauses-steady m l (loops ++ control_of head ∷ []) room inside (omega arith) (omega arith)) (λ _ _ _. refl))))

  pub clauses-steady : (f g : ℕ) (loops : Loops) (room : ℕ) (tokens : Tokens) → 16 * length tokens + 9 < f → 16 * length tokens + 9 < g
      → clauses f loops room tokens ≡ clauses g loops room tokens
  clauses-steady zero g loops room tokens p q = absurd (omega arith)
  clauses-steady (suc m) g loops room tokens p q =
      step (λ g. clauses (suc m) loops room tokens ≡ clauses g loops room tokens) g (omega arith) (λ l is.
      if-same (begins_word (codes "END") tokens) _ _ _ _ refl
      (then-same _ _ _ _ (read-steady m l loops room tokens (omega arith) (omega arith)) (λ first after was. let h = read-less m loops room tokens after first was in
      then-same _ _ _ _ (clauses-steady m l loops room after (omega arith) (omega arith)) (λ _ _ _. refl))))

-- ---- the forms

pub clause_next : (loops : Loops) (room : ℕ) (tokens : Tokens) → clause_form loops room tokens
    ≡ by_start (λ keyword. instruction_form loops room keyword tokens) tokens (start tokens).0 (start tokens).1
unfolding clause_form instruction_form
clause_next loops room [] =
    step (λ f. read f loops room [] ≡ by_start (λ keyword. instruction 16 loops room keyword [] []) [] (start []).0 (start []).1) 16 (omega arith)
    (λ m is. nothing-starts m loops room)
clause_next loops room (t ∷ tokens) =
    step (λ f. read f loops room (t ∷ tokens)
    ≡ by_start (λ keyword. instruction (turns (t ∷ tokens)) loops room keyword (t ∷ tokens) tokens) (t ∷ tokens) (start (t ∷ tokens)).0 (start (t ∷ tokens)).1)
    (turns (t ∷ tokens)) (omega arith) (λ m is.
    start-same _ _ (t ∷ tokens) (start (t ∷ tokens)).0 (start (t ∷ tokens)).1 (λ keyword.
    instruction-steady m (turns (t ∷ tokens)) loops room keyword (t ∷ tokens) tokens (omega arith) (omega arith)))

behind-less : (tokens : Tokens) → 16 * length (behind tokens) < 16 * length tokens + 1
behind-less [] = omega arith
behind-less (t ∷ tokens) = omega arith

pub simple_next : (loops : Loops) (room : ℕ) (word : Word) (tokens : Tokens) → instruction_form loops room (w.Other word) tokens
    ≡ and_then (r.simple loops word (behind tokens)) (λ one rest. Ok (x.Simple one, rest))
unfolding instruction_form
simple_next loops room word tokens =
    step (λ f. instruction f loops room (w.Other word) tokens (behind tokens) ≡ and_then (r.simple loops word (behind tokens)) (λ one rest. Ok (x.Simple one, rest)))
    (turns tokens) (omega arith) (λ m is. refl)

pub procedure_next : (loops : Loops) (room : ℕ) (tokens : Tokens) → instruction_form loops room w.Procedure tokens ≡ Err (lack 17 tokens)
unfolding instruction_form
procedure_next loops room tokens =
    step (λ f. instruction f loops room w.Procedure tokens (behind tokens) ≡ Err (lack 17 tokens)) (turns tokens) (omega arith) (λ m is. refl)

pub expose_next : (loops : Loops) (room : ℕ) (tokens : Tokens) → instruction_form loops room w.Expose tokens ≡ Err (lack 99 tokens)
unfolding instruction_form
expose_next loops room tokens =
    step (λ f. instruction f loops room w.Expose tokens (behind tokens) ≡ Err (lack 99 tokens)) (turns tokens) (omega arith) (λ m is. refl)

pub deep_next : (loops : Loops) (keyword : Keyword) (tokens : Tokens) → is_block keyword ≡ true → instruction_form loops 0 keyword tokens ≡ Err (lack 11 tokens)
unfolding instruction_form
deep_next loops w.If tokens is = step (λ f. instruction f loops 0 w.If tokens (behind tokens) ≡ Err (lack 11 tokens)) (turns tokens) (omega arith) (λ m is. refl)
deep_next loops w.Select tokens is = step (λ f. instruction f loops 0 w.Select tokens (behind tokens) ≡ Err (lack 11 tokens)) (turns tokens) (omega arith) (λ m is. refl)
deep_next loops w.Do tokens is = step (λ f. instruction f loops 0 w.Do tokens (behind tokens) ≡ Err (lack 11 tokens)) (turns tokens) (omega arith) (λ m is. refl)
deep_next loops w.Loop tokens is = step (λ f. instruction f loops 0 w.Loop tokens (behind tokens) ≡ Err (lack 11 tokens)) (turns tokens) (omega arith) (λ m is. refl)
deep_next loops _ tokens is = cc

block-is : (m : ℕ) (loops : Loops) (room : ℕ) (keyword : Keyword) (here tokens : Tokens) → is_block keyword ≡ true → 16 * length tokens < m
    → instruction (suc m) loops (suc room) keyword here tokens ≡ block_form loops room keyword tokens
unfolding choice_form select_form loop_form group_form
block-is m loops room w.If here tokens is enough = choice-steady m (turns tokens) loops room tokens (omega arith) (omega arith)
block-is m loops room w.Select here tokens is enough = select-steady m (turns tokens) loops room tokens (omega arith) (omega arith)
block-is m loops room w.Do here tokens is enough =
    some-same (behind_end tokens) _ _ _ _ (loop-steady m (turns tokens) loops room tokens (omega arith) (omega arith)) (λ inside end.
    let h = end-shorter tokens inside end in group-steady m (turns inside) loops room inside (omega arith) (omega arith))
block-is m loops room w.Loop here tokens is enough = loop-steady m (turns tokens) loops room tokens (omega arith) (omega arith)
block-is m loops room _ here tokens is enough = cc

block-up : (loops : Loops) (room : ℕ) (keyword : Keyword) (tokens : Tokens) → is_block keyword ≡ true
    → instruction_form loops (suc room) keyword tokens ≡ block_form loops room keyword (behind tokens)
unfolding instruction_form
block-up loops room keyword tokens is =
    step (λ f. instruction f loops (suc room) keyword tokens (behind tokens) ≡ block_form loops room keyword (behind tokens)) (turns tokens) (omega arith) (λ m also.
    let h = behind-less tokens in block-is m loops room keyword tokens (behind tokens) is (omega arith))

pub block_next : (loops : Loops) (room : ℕ) (keyword : Keyword) (tokens : Tokens) → is_block keyword ≡ true → 0 < room
    → instruction_form loops room keyword tokens ≡ block_form loops (room - 1) keyword (behind tokens)
block_next loops zero keyword tokens is some = absurd (omega arith)
block_next loops (suc room) keyword tokens is some = let e : suc room - 1 ≡ room = omega arith in rw e (block-up loops room keyword tokens is)

pub choice_next : (loops : Loops) (room : ℕ) (tokens : Tokens) → choice_form loops room tokens
    ≡ and_then (expression s.Then tokens) (λ test after.
    on_some (behind_then after) (Err (refusal 18 after)) (λ inside.
    and_then (clause_form loops room inside) (λ first others.
    and_then (else_form loops room others) (λ other rest. Ok (x.If test first other, rest)))))
unfolding choice_form clause_form else_form
choice_next loops room tokens =
    step (λ f. choice f loops room tokens
    ≡ and_then (expression s.Then tokens) (λ test after.
    on_some (behind_then after) (Err (refusal 18 after)) (λ inside.
    and_then (read (turns inside) loops room inside) (λ first others.
    and_then (else_clause (turns others) loops room others) (λ other rest. Ok (x.If test first other, rest))))))
    (turns tokens) (omega arith) (λ m is.
    then-same _ _ _ _ refl (λ expr after was. let c = expression-less tokens after expr was in
    some-same (behind_then after) _ _ _ _ refl (λ inside then_. let d = then-shorter after inside then_ in
    then-same _ _ _ _ (read-steady m (turns inside) loops room inside (omega arith) (omega arith)) (λ first others read. let h = read-less m loops room inside others first read in
    then-same _ _ _ _ (else-steady m (turns others) loops room others (omega arith) (omega arith)) (λ _ _ _. refl)))))

pub else_next : (loops : Loops) (room : ℕ) (tokens : Tokens) → else_form loops room tokens
    ≡ on_some (behind_word (codes "ELSE") tokens) (Ok (None, tokens)) (λ inside. and_then (clause_form loops room inside) (λ other rest. Ok (Some other, rest)))
unfolding else_form clause_form
else_next loops room tokens =
    step (λ f. else_clause f loops room tokens
    ≡ on_some (behind_word (codes "ELSE") tokens) (Ok (None, tokens)) (λ inside. and_then (read (turns inside) loops room inside) (λ other rest. Ok (Some other, rest))))
    (turns tokens) (omega arith) (λ m is.
    some-same (behind_word (codes "ELSE") tokens) _ _ _ _ refl (λ inside some. let c = word-shorter (codes "ELSE") tokens inside some in
    then-same _ _ _ _ (read-steady m (turns inside) loops room inside (omega arith) (omega arith)) (λ _ _ _. refl)))

pub select_next : (loops : Loops) (room : ℕ) (tokens : Tokens) → select_form loops room tokens
    ≡ on_some (behind_end tokens) (Err (refusal 21 tokens)) (λ inside.
    and_then (whens_form loops room inside) (λ list after.
    if are_none list then Err (lack (no_when after) after)
    else and_then (otherwise_form loops room after) (λ other others. ended 7 None (x.Select list other) others)))
unfolding select_form whens_form otherwise_form
select_next loops room tokens =
    step (λ f. select f loops room tokens
    ≡ on_some (behind_end tokens) (Err (refusal 21 tokens)) (λ inside.
    and_then (whens (turns inside) loops room inside) (λ list after.
    if are_none list then Err (lack (no_when after) after)
    else and_then (otherwise (turns after) loops room after) (λ other others. ended 7 None (x.Select list other) others))))
    (turns tokens) (omega arith) (λ m is.
    some-same (behind_end tokens) _ _ _ _ refl (λ inside end. let c = end-shorter tokens inside end in
    then-same _ _ _ _ (whens-steady m (turns inside) loops room inside (omega arith) (omega arith)) (λ list after read. let d = whens-less m loops room inside after list read in
    if-same (are_none list) _ _ _ _ refl
    (then-same _ _ _ _ (otherwise-steady m (turns after) loops room after (omega arith) (omega arith)) (λ _ _ _. refl)))))

pub whens_next : (loops : Loops) (room : ℕ) (tokens : Tokens) → whens_form loops room tokens
    ≡ on_some (behind_symbol (codes "WHEN") tokens) (Ok ([], tokens)) (λ after.
    and_then (expression s.Then after) (λ test others.
    on_some (behind_then others) (Err (refusal 18 others)) (λ inside.
    and_then (clause_form loops room inside) (λ first further.
    and_then (whens_form loops room further) (λ list rest. Ok (when test first ∷ list, rest))))))
unfolding whens_form clause_form
whens_next loops room tokens =
    step (λ f. whens f loops room tokens
    ≡ on_some (behind_symbol (codes "WHEN") tokens) (Ok ([], tokens)) (λ after.
    and_then (expression s.Then after) (λ test others.
    on_some (behind_then others) (Err (refusal 18 others)) (λ inside.
    and_then (read (turns inside) loops room inside) (λ first further.
    and_then (whens (turns further) loops room further) (λ list rest. Ok (when test first ∷ list, rest)))))))
    (turns tokens) (omega arith) (λ m is.
    some-same (behind_symbol (codes "WHEN") tokens) _ _ _ _ refl (λ after some. let b = symbol-shorter (codes "WHEN") tokens after some in
    then-same _ _ _ _ refl (λ expr others was. let c = expression-less after others expr was in
    some-same (behind_then others) _ _ _ _ refl (λ inside then_. let d = then-shorter others inside then_ in
    then-same _ _ _ _ (read-steady m (turns inside) loops room inside (omega arith) (omega arith)) (λ first further read. let h = read-less m loops room inside further first read in
    then-same _ _ _ _ (whens-steady m (turns further) loops room further (omega arith) (omega arith)) (λ _ _ _. refl))))))

pub otherwise_next : (loops : Loops) (room : ℕ) (tokens : Tokens) → otherwise_form loops room tokens
    ≡ on_some (behind_word (codes "OTHERWISE") tokens) (Ok (None, tokens)) (λ inside. and_then (clauses_form loops room inside) (λ list rest. Ok (Some list, rest)))
unfolding otherwise_form clauses_form
otherwise_next loops room tokens =
    step (λ f. otherwise f loops room tokens
    ≡ on_some (behind_word (codes "OTHERWISE") tokens) (Ok (None, tokens)) (λ inside. and_then (clauses (turns inside) loops room inside) (λ list rest. Ok (Some list, rest))))
    (turns tokens) (omega arith) (λ m is.
    some-same (behind_word (codes "OTHERWISE") tokens) _ _ _ _ refl (λ inside some. let c = word-shorter (codes "OTHERWISE") tokens inside some in
    then-same _ _ _ _ (clauses-steady m (turns inside) loops room inside (omega arith) (omega arith)) (λ _ _ _. refl)))

pub group_next : (loops : Loops) (room : ℕ) (inside : Tokens) → group_form loops room inside
    ≡ and_then (clauses_form loops room inside) (λ list others. ended 10 None (x.Group list) others)
unfolding group_form clauses_form
group_next loops room inside =
    step (λ f. group f loops room inside ≡ and_then (clauses (turns inside) loops room inside) (λ list others. ended 10 None (x.Group list) others))
    (turns inside) (omega arith) (λ m is.
    then-same _ _ _ _ (clauses-steady m (turns inside) loops room inside (omega arith) (omega arith)) (λ _ _ _. refl))

pub loop_next : (loops : Loops) (room : ℕ) (tokens : Tokens) → loop_form loops room tokens
    ≡ and_then (header tokens) (λ found after.
    and_then (test after) (λ tested inside.
    and_then (clauses_form (loops ++ control_of found ∷ []) room inside) (λ list others. ended 10 (control_of found) (x.Loop found tested list) others)))
unfolding loop_form clauses_form
loop_next loops room tokens =
    step (λ f. loop f loops room tokens
    ≡ and_then (header tokens) (λ found after.
    and_then (test after) (λ tested inside.
    and_then (clauses (turns inside) (loops ++ control_of found ∷ []) room inside) (λ list others. ended 10 (control_of found) (x.Loop found tested list) others))))
    (turns tokens) (omega arith) (λ m is.
    then-same _ _ _ _ refl (λ head after begun. let c = header-less tokens after head begun in
    then-same _ _ _ _ refl (λ tested inside so. let d = test-less after inside tested so in
    then-same _ _ _ _ (clauses-steady m (turns inside) (loops ++ control_of head ∷ []) room inside (omega arith) (omega arith)) (λ _ _ _. refl))))

pub clauses_next : (loops : Loops) (room : ℕ) (tokens : Tokens) → clauses_form loops room tokens
    ≡ (if begins_word (codes "END") tokens then Ok ([], tokens)
    else and_then (clause_form loops room tokens) (λ first after. and_then (clauses_form loops room after) (λ others rest. Ok (first ∷ others, rest))))
unfolding clauses_form clause_form
clauses_next loops room tokens =
    step (λ f. clauses f loops room tokens
    ≡ (if begins_word (codes "END") tokens then Ok ([], tokens)
    else and_then (read (turns tokens) loops room tokens) (λ first after. and_then (clauses (turns after) loops room after) (λ others rest. Ok (first ∷ others, rest)))))
    (turns tokens) (omega arith) (λ m is.
    if-same (begins_word (codes "END") tokens) _ _ _ _ refl
    (then-same _ _ _ _ (read-steady m (turns tokens) loops room tokens (omega arith) (omega arith)) (λ first after was. let h = read-less m loops room tokens after first was in
    then-same _ _ _ _ (clauses-steady m (turns after) loops room after (omega arith) (omega arith)) (λ _ _ _. refl))))

pub clause_less : (loops : Loops) (room : ℕ) (tokens rest : Tokens) (first : Clause) → clause_form loops room tokens ≡ Ok (first, rest) → length rest < length tokens
unfolding clause_form
clause_less loops room tokens rest first is = read-less (turns tokens) loops room tokens rest first is
