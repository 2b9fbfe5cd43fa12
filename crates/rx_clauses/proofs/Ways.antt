-- Each way through a function that reads clauses, as a fact of its own.
use Rattle.std.proofs.Common.{◌≡◌, ℕ, ◌+◌, ◌-◌, ◌<◌, ◌≤◌, Bool, true, false, if◌then◌else◌, List, [], ◌∷◌, ◌++◌, length, Option, Some, None, Ok, Err, refl, sym, ◌∙◌, ap, arith}
use Rattle.std.specs.Prelude.{codes, MatchOption}
use Rattle.rx_tree.specs.declared.name.Name.{Name}
use Rattle.rx_tree.specs.declared.expr.Expr.{Expr}
use Rattle.rx_tree.specs.declared.expr.SendPart.{SendPart}
use Rattle.rx_tree.specs.declared.stops.Stops.TheVariants as s
use Rattle.rx_tree.specs.Operators.{Tokens}
use Rattle.rx_exprs.specs.declared.refused.Fault.{Fault}
use Rattle.rx_exprs.specs.Reader.{Outcome, and_then, on_some, lack, refusal, expression}
use Rattle.rx_clause_tree.specs.declared.clause.Clause.{Clause}
use Rattle.rx_clause_tree.specs.declared.clause.ClauseKind.{ClauseKind}
use Rattle.rx_clause_tree.specs.declared.clause.ClauseKind.TheVariants as x
use Rattle.rx_clause_tree.specs.declared.clause.When.{When}
use Rattle.rx_clause_tree.specs.declared.loops.Header.{Header}
use Rattle.rx_clause_tree.specs.declared.loops.Test.{Test}
use Rattle.rx_clause_tree.specs.declared.simple.Simple.{Simple}
use Rattle.rx_clause_tree.specs.ClauseWords.{begins_word, behind_end, behind_word, begins_assignment, begins_label}
use Rattle.rx_clause_tree.specs.Loops.{Loops, control_of, are_around, behind_block}
use Rattle.rx_clause_tree.specs.Clauses.{behind_then, clause, when}
use Rattle.rx_clause_tree.specs.Bodies.{ends_body}
use Rattle.rx_clauses.specs.declared.keyword.Keyword.{Keyword}
use Rattle.rx_clauses.specs.declared.keyword.Keyword.TheVariants as w
use Rattle.rx_clauses.specs.declared.keyword.Word.{Word}
use Rattle.rx_clauses.specs.Parts.{behind_symbol}
use Rattle.rx_clauses.specs.Looping.{header, test, loop_name, meant, looping}
use Rattle.rx_clauses.specs.declared.start.Start.{Start}
use Rattle.rx_clauses.specs.declared.start.Start.TheVariants as b
use Rattle.rx_clauses.specs.Keywords.{keyword_of}
use Rattle.rx_clauses.specs.Starts.{Assigned, assignment, assigned_at, send_assign, message}
use Rattle.rx_clauses.specs.Reader.{turns, behind, start, word_start, sending_start, by_start, as_clause, line_of, simple, are_none, unended, no_when, ended}
use Rattle.rx_clauses.specs.Forms.{is_block, block_end, without_last, clause_form, instruction_form, block_form, choice_form, else_form, select_form, whens_form, when_form, otherwise_form, group_form, loop_form, clauses_form}
use Rattle.rx_clauses.proofs.Sure.{sure-then, sure-some, as-read, so-read, refused, outcome, found}
use Rattle.rx_clauses.proofs.Words.{end-shorter, symbol-shorter, word-shorter}
use Rattle.rx_clauses.proofs.Opens.{expression-sure, fits-shorter}
use Rattle.rx_clauses.proofs.ClausesLaw.{then-shorter}
use Rattle.rx_clauses.proofs.Lists.{prepended, prepended_start, prepended_one, prepended_end}
use Rattle.rx_clauses.proofs.BlockForms.{expression-less, header-less, test-less, whens-less, clause_less, clause_next, procedure_next, expose_next, deep_next, block_next, simple_next, choice_next, else_next, select_next, whens_next, otherwise_next, group_next, loop_next, clauses_next}

-- ---- what is read is taken away

pub expression_less : (tokens rest : Tokens) (expr : Expr) → expression s.Then tokens ≡ Ok (expr, rest) → length rest < length tokens
expression_less = expression-less

pub then_less : (tokens inside : Tokens) → behind_then tokens ≡ Some inside → length inside < length tokens
then_less = then-shorter

pub end_less : (tokens inside : Tokens) → behind_end tokens ≡ Some inside → length inside < length tokens
end_less = end-shorter

pub word_less : (tokens after : Tokens) → behind_symbol (codes "WHEN") tokens ≡ Some after → length after < length tokens
word_less = symbol-shorter (codes "WHEN")

pub else_less : (tokens inside : Tokens) → behind_word (codes "ELSE") tokens ≡ Some inside → length inside < length tokens
else_less = word-shorter (codes "ELSE")

pub otherwise_less : (tokens inside : Tokens) → behind_word (codes "OTHERWISE") tokens ≡ Some inside → length inside < length tokens
otherwise_less = word-shorter (codes "OTHERWISE")

pub header_less : (tokens rest : Tokens) (found : Header) → header tokens ≡ Ok (found, rest) → length rest ≤ length tokens
header_less tokens rest found is = let h = header-less tokens rest found is in omega arith

pub test_less : (tokens rest : Tokens) (found : Test) → test tokens ≡ Ok (found, rest) → length rest < length tokens
test_less = test-less

pub whens_less : (loops : Loops) (room : ℕ) (tokens rest : Tokens) (list : List When) → whens_form loops room tokens ≡ Ok (list, rest) → length rest ≤ length tokens
unfolding whens_form
whens_less loops room tokens rest list is = let h = whens-less (turns tokens) loops room tokens rest list is in omega arith

pub when_less : (loops : Loops) (room : ℕ) (tokens rest : Tokens) (one : When) → when_form loops room tokens ≡ Ok (one, rest) → length rest < length tokens
when_less loops room tokens rest one is =
    so-read {Is = λ one rest. length rest < length tokens} (when_form loops room tokens) one rest
    (sure-then _ _ (expression-sure s.Then tokens) (λ expr others fits. let c = fits-shorter fits in
    sure-some _ _ _ (λ none. refused _) (λ inside then_. let d = then-shorter others inside then_ in
    sure-then _ _ (as-read (clause_form loops room inside) (λ chosen rest read. clause_less loops room inside rest chosen read)) (λ chosen rest less.
    found (when expr chosen) rest (omega arith))))) is

abbrev is_word_start : Start → Bool
is_word_start (b.Word keyword) = true
is_word_start _ = false

no-word : {X : Type 0} → false ≡ true → X
no-word is = cc

pub start_same : (tokens rest : Tokens) (keyword : Keyword) → start tokens ≡ (b.Word keyword, rest) → rest ≡ tokens
unfolding start
start_same [] rest keyword is = no-word (ap (λ (p : Start × Tokens). is_word_start p.0) is)
start_same (t ∷ tokens) rest keyword is = go (begins_assignment (t ∷ tokens)) (assigned_at (t ∷ tokens)) is
  where
    go : (test : Bool) (found : Option (Assigned × Tokens))
        → (if test then (b.Assignment, t ∷ tokens) else sending_start found (if begins_label (t ∷ tokens) then b.Label else word_start (keyword_of t.kind)) (t ∷ tokens)) ≡ (b.Word keyword, rest)
        → rest ≡ t ∷ tokens
    go true found same = no-word (ap (λ (p : Start × Tokens). is_word_start p.0) same)
    go false None same = sym (ap (λ (p : Start × Tokens). p.1) same)
    go false (Some found) same = no-word (ap (λ (p : Start × Tokens). is_word_start p.0) same)

pub behind_fewer : (tokens : Tokens) → length (behind tokens) ≤ length tokens
behind_fewer [] = omega arith
behind_fewer (t ∷ tokens) = omega arith

pub without_last_is : (loops : Loops) (control : Option Name) → without_last (loops ++ control ∷ []) ≡ loops
without_last_is [] control = refl
without_last_is (loop ∷ []) control = refl
without_last_is (loop ∷ (next ∷ loops)) control = ap (λ l. loop ∷ l) (without_last_is (next ∷ loops) control)

pub popped : (old new : Loops) (result : Option (Option Name)) → MatchOption result ((old ≡ []) × (new ≡ [])) (λ last. old ≡ new ++ last ∷ []) → new ≡ without_last old
popped old new None is = is.1 ∙ sym (ap (λ l. without_last l) is.0)
popped old new (Some last) is = sym (ap (λ l. without_last l) is ∙ without_last_is new last)

-- ---- clauses, by what they begin with

abbrev is_sending : Start → Bool
is_sending (b.Sending receiver part) = true
is_sending _ = false

no-sending : {X : Type 0} → true ≡ false → X
no-sending is = cc

started-same : (tokens rest : Tokens) (begun : Start) → start tokens ≡ (begun, rest) → is_sending begun ≡ false → rest ≡ tokens
unfolding start
started-same [] rest begun is isnt = sym (ap (λ (p : Start × Tokens). p.1) is)
started-same (t ∷ tokens) rest begun is isnt = go (begins_assignment (t ∷ tokens)) (assigned_at (t ∷ tokens)) is
  where
    go : (test : Bool) (found : Option (Assigned × Tokens))
        → (if test then (b.Assignment, t ∷ tokens) else sending_start found (if begins_label (t ∷ tokens) then b.Label else word_start (keyword_of t.kind)) (t ∷ tokens)) ≡ (begun, rest)
        → rest ≡ t ∷ tokens
    go true found same = sym (ap (λ (p : Start × Tokens). p.1) same)
    go false None same = sym (ap (λ (p : Start × Tokens). p.1) same)
    go false (Some found) same = no-sending (ap (λ (p : Start × Tokens). is_sending p.0) same ∙ isnt)

by : (loops : Loops) (room : ℕ) (tokens rest : Tokens) (begun : Start) → start tokens ≡ (begun, rest)
    → clause_form loops room tokens ≡ by_start (λ keyword. instruction_form loops room keyword tokens) tokens begun rest
by loops room tokens rest begun is =
    clause_next loops room tokens ∙ ap (λ (p : Start × Tokens). by_start (λ keyword. instruction_form loops room keyword tokens) tokens p.0 p.1) is

pub assign_ok : (loops : Loops) (room : ℕ) (tokens rest behind : Tokens) (one : Simple) → start tokens ≡ (b.Assignment, rest) → assignment rest ≡ Ok (one, behind)
    → clause_form loops room tokens ≡ Ok (clause (line_of tokens) (x.Simple one), behind)
assign_ok loops room tokens rest behind one is p =
    by loops room tokens rest b.Assignment is ∙ ap (λ o. as_clause (line_of tokens) o) (ap (λ ts. assignment ts) (sym (started-same tokens rest b.Assignment is refl)) ∙ p)

pub assign_bad : (loops : Loops) (room : ℕ) (tokens rest : Tokens) (fault : Fault) → start tokens ≡ (b.Assignment, rest) → assignment rest ≡ Err fault
    → clause_form loops room tokens ≡ Err fault
assign_bad loops room tokens rest fault is p =
    by loops room tokens rest b.Assignment is ∙ ap (λ o. as_clause (line_of tokens) o) (ap (λ ts. assignment ts) (sym (started-same tokens rest b.Assignment is refl)) ∙ p)

pub send_ok : (loops : Loops) (room : ℕ) (tokens rest behind : Tokens) (receiver : Expr) (part : SendPart) (one : Simple) → start tokens ≡ (b.Sending receiver part, rest)
    → send_assign (receiver, part) rest ≡ Ok (one, behind) → clause_form loops room tokens ≡ Ok (clause (line_of tokens) (x.Simple one), behind)
send_ok loops room tokens rest behind receiver part one is p =
    by loops room tokens rest (b.Sending receiver part) is ∙ ap (λ o. as_clause (line_of tokens) o) p

pub send_bad : (loops : Loops) (room : ℕ) (tokens rest : Tokens) (receiver : Expr) (part : SendPart) (fault : Fault) → start tokens ≡ (b.Sending receiver part, rest)
    → send_assign (receiver, part) rest ≡ Err fault → clause_form loops room tokens ≡ Err fault
send_bad loops room tokens rest receiver part fault is p =
    by loops room tokens rest (b.Sending receiver part) is ∙ ap (λ o. as_clause (line_of tokens) o) p

pub label_bad : (loops : Loops) (room : ℕ) (tokens rest : Tokens) (fault : Fault) → start tokens ≡ (b.Label, rest) → fault ≡ lack 47 rest
    → clause_form loops room tokens ≡ Err fault
label_bad loops room tokens rest fault is same =
    by loops room tokens rest b.Label is ∙ ap (λ f. Err f) (ap (λ ts. lack 47 ts) (sym (started-same tokens rest b.Label is refl)) ∙ sym same)

pub word_ok : (loops : Loops) (room : ℕ) (tokens rest behind : Tokens) (keyword : Keyword) (kind : ClauseKind) → start tokens ≡ (b.Word keyword, rest)
    → instruction_form loops room keyword rest ≡ Ok (kind, behind) → clause_form loops room tokens ≡ Ok (clause (line_of tokens) kind, behind)
word_ok loops room tokens rest behind keyword kind is p =
    by loops room tokens rest (b.Word keyword) is
    ∙ ap (λ o. and_then o (λ kind rest. outcome (clause (line_of tokens) kind) rest))
    (ap (λ ts. instruction_form loops room keyword ts) (sym (started-same tokens rest (b.Word keyword) is refl)) ∙ p)

pub word_bad : (loops : Loops) (room : ℕ) (tokens rest : Tokens) (keyword : Keyword) (fault : Fault) → start tokens ≡ (b.Word keyword, rest)
    → instruction_form loops room keyword rest ≡ Err fault → clause_form loops room tokens ≡ Err fault
word_bad loops room tokens rest keyword fault is p =
    by loops room tokens rest (b.Word keyword) is
    ∙ ap (λ o. and_then o (λ kind rest. outcome (clause (line_of tokens) kind) rest))
    (ap (λ ts. instruction_form loops room keyword ts) (sym (started-same tokens rest (b.Word keyword) is refl)) ∙ p)

pub ends_bad : (loops : Loops) (room : ℕ) (tokens rest : Tokens) (fault : Fault) → start tokens ≡ (b.Other, rest) → ends_body rest ≡ true → fault ≡ lack 14 rest
    → clause_form loops room tokens ≡ Err fault
ends_bad loops room tokens rest fault is ends same =
    let e = sym (started-same tokens rest b.Other is refl) in
    let here : ends_body tokens ≡ true = ap (λ ts. ends_body ts) e ∙ ends in
    by loops room tokens rest b.Other is ∙ rw here refl ∙ ap (λ f. Err f) (ap (λ ts. lack 14 ts) e ∙ sym same)

pub message_ok : (loops : Loops) (room : ℕ) (tokens rest behind : Tokens) (one : Simple) → start tokens ≡ (b.Other, rest) → ends_body rest ≡ false
    → message rest ≡ Ok (one, behind) → clause_form loops room tokens ≡ Ok (clause (line_of tokens) (x.Simple one), behind)
message_ok loops room tokens rest behind one is isnt p =
    let e = sym (started-same tokens rest b.Other is refl) in
    let here : ends_body tokens ≡ false = ap (λ ts. ends_body ts) e ∙ isnt in
    by loops room tokens rest b.Other is ∙ rw here (ap (λ o. as_clause (line_of tokens) o) (ap (λ ts. message ts) e ∙ p))

pub message_bad : (loops : Loops) (room : ℕ) (tokens rest : Tokens) (fault : Fault) → start tokens ≡ (b.Other, rest) → ends_body rest ≡ false
    → message rest ≡ Err fault → clause_form loops room tokens ≡ Err fault
message_bad loops room tokens rest fault is isnt p =
    let e = sym (started-same tokens rest b.Other is refl) in
    let here : ends_body tokens ≡ false = ap (λ ts. ends_body ts) e ∙ isnt in
    by loops room tokens rest b.Other is ∙ rw here (ap (λ o. as_clause (line_of tokens) o) (ap (λ ts. message ts) e ∙ p))

-- ---- instructions

pub simple_ok : (loops : Loops) (room : ℕ) (word : Word) (tokens rest : Tokens) (one : Simple) → simple loops word (behind tokens) ≡ Ok (one, rest)
    → instruction_form loops room (w.Other word) tokens ≡ Ok (x.Simple one, rest)
simple_ok loops room word tokens rest one is = rw (simple_next loops room word tokens, is) refl

pub simple_bad : (loops : Loops) (room : ℕ) (word : Word) (tokens : Tokens) (fault : Fault) → simple loops word (behind tokens) ≡ Err fault
    → instruction_form loops room (w.Other word) tokens ≡ Err fault
simple_bad loops room word tokens fault is = rw (simple_next loops room word tokens, is) refl

abbrev by_test : {A : Type 0} → Tokens → A → Tokens → Bool → Outcome A
by_test here one behind test = if test then Ok (one, behind) else Err (lack 28 here)

abbrev read-as : {A : Type 0} → Loops → Tokens → (Option Name → A) → Outcome (Option Name) → Outcome A
read-as loops here make r = and_then r (λ one behind. by_test here (make one) behind (are_around one loops))

made : (loops : Loops) (make : Option Name → Simple) (tokens : Tokens) (r : Outcome (Option Name))
    → read-as loops tokens make r ≡ and_then (read-as loops tokens (λ one. one) r) (λ name rest. Ok (make name, rest))
made loops make tokens (Ok all) = go (are_around all.0 loops)
  where
    go : (test : Bool) → by_test tokens (make all.0) all.1 test ≡ and_then (by_test tokens all.0 all.1 test) (λ name rest. Ok (make name, rest))
    go true = refl
    go false = refl
made loops make tokens (Err fault) = refl

pub meant_ok : (loops : Loops) (make : Option Name → Simple) (tokens rest : Tokens) (name : Option Name) → meant loops tokens ≡ Ok (name, rest)
    → looping loops make tokens ≡ Ok (make name, rest)
meant_ok loops make tokens rest name is = made loops make tokens (loop_name tokens) ∙ ap (λ r. and_then r (λ one behind. Ok (make one, behind))) is

pub meant_bad : (loops : Loops) (make : Option Name → Simple) (tokens : Tokens) (fault : Fault) → meant loops tokens ≡ Err fault
    → looping loops make tokens ≡ Err fault
meant_bad loops make tokens fault is = made loops make tokens (loop_name tokens) ∙ ap (λ r. and_then r (λ one behind. Ok (make one, behind))) is

-- ---- blocks

pub choice_ok : (loops : Loops) (room : ℕ) (tokens after inside others rest : Tokens) (expr : Expr) (first : Clause) (other : Option Clause)
    → expression s.Then tokens ≡ Ok (expr, after) → behind_then after ≡ Some inside → clause_form loops room inside ≡ Ok (first, others)
    → else_form loops room others ≡ Ok (other, rest) → choice_form loops room tokens ≡ Ok (x.If expr first other, rest)
choice_ok loops room tokens after inside others rest expr first other p q r t = rw (choice_next loops room tokens, p, q, r, t) refl

pub choice_bad_test : (loops : Loops) (room : ℕ) (tokens : Tokens) (fault : Fault) → expression s.Then tokens ≡ Err fault
    → choice_form loops room tokens ≡ Err fault
choice_bad_test loops room tokens fault p = rw (choice_next loops room tokens, p) refl

pub choice_no_then : (loops : Loops) (room : ℕ) (tokens after : Tokens) (expr : Expr) (fault : Fault) → expression s.Then tokens ≡ Ok (expr, after)
    → behind_then after ≡ None → fault ≡ refusal 18 after → choice_form loops room tokens ≡ Err fault
choice_no_then loops room tokens after expr fault p q same = rw (same, choice_next loops room tokens, p, q) refl

pub choice_bad_first : (loops : Loops) (room : ℕ) (tokens after inside : Tokens) (expr : Expr) (fault : Fault) → expression s.Then tokens ≡ Ok (expr, after)
    → behind_then after ≡ Some inside → clause_form loops room inside ≡ Err fault → choice_form loops room tokens ≡ Err fault
choice_bad_first loops room tokens after inside expr fault p q r = rw (choice_next loops room tokens, p, q, r) refl

pub choice_bad_other : (loops : Loops) (room : ℕ) (tokens after inside others : Tokens) (expr : Expr) (first : Clause) (fault : Fault)
    → expression s.Then tokens ≡ Ok (expr, after) → behind_then after ≡ Some inside → clause_form loops room inside ≡ Ok (first, others)
    → else_form loops room others ≡ Err fault → choice_form loops room tokens ≡ Err fault
choice_bad_other loops room tokens after inside others expr first fault p q r t = rw (choice_next loops room tokens, p, q, r, t) refl

pub else_none : (loops : Loops) (room : ℕ) (tokens : Tokens) → behind_word (codes "ELSE") tokens ≡ None → else_form loops room tokens ≡ Ok (None, tokens)
else_none loops room tokens p = rw (else_next loops room tokens, p) refl

pub else_ok : (loops : Loops) (room : ℕ) (tokens inside rest : Tokens) (other : Clause) → behind_word (codes "ELSE") tokens ≡ Some inside
    → clause_form loops room inside ≡ Ok (other, rest) → else_form loops room tokens ≡ Ok (Some other, rest)
else_ok loops room tokens inside rest other p q = rw (else_next loops room tokens, p, q) refl

pub else_bad : (loops : Loops) (room : ℕ) (tokens inside : Tokens) (fault : Fault) → behind_word (codes "ELSE") tokens ≡ Some inside
    → clause_form loops room inside ≡ Err fault → else_form loops room tokens ≡ Err fault
else_bad loops room tokens inside fault p q = rw (else_next loops room tokens, p, q) refl

pub select_open : (loops : Loops) (room : ℕ) (tokens : Tokens) (fault : Fault) → behind_end tokens ≡ None → fault ≡ refusal 21 tokens
    → select_form loops room tokens ≡ Err fault
select_open loops room tokens fault p same = rw (same, select_next loops room tokens, p) refl

pub select_bad_whens : (loops : Loops) (room : ℕ) (tokens inside : Tokens) (fault : Fault) → behind_end tokens ≡ Some inside
    → whens_form loops room inside ≡ Err fault → select_form loops room tokens ≡ Err fault
select_bad_whens loops room tokens inside fault p q = rw (select_next loops room tokens, p, q) refl

pub select_none : (loops : Loops) (room : ℕ) (tokens inside after : Tokens) (list : List When) (fault : Fault) → behind_end tokens ≡ Some inside
    → whens_form loops room inside ≡ Ok (list, after) → list ≡ [] → fault ≡ lack (no_when after) after → select_form loops room tokens ≡ Err fault
select_none loops room tokens inside after list fault p q none same = rw (same, select_next loops room tokens, p, q, none) refl

some-whens : (list : List When) → (list ≡ [] → ⊥) → are_none list ≡ false
some-whens [] some = absurd (some refl)
some-whens (first ∷ list) some = refl

pub select_bad_other : (loops : Loops) (room : ℕ) (tokens inside after : Tokens) (list : List When) (fault : Fault) → behind_end tokens ≡ Some inside
    → whens_form loops room inside ≡ Ok (list, after) → (list ≡ [] → ⊥) → otherwise_form loops room after ≡ Err fault → select_form loops room tokens ≡ Err fault
select_bad_other loops room tokens inside after list fault p q some r = rw (select_next loops room tokens, p, q, some-whens list some, r) refl

ended-ok : (number : ℕ) (control : Option Name) (kind : ClauseKind) (tokens rest : Tokens) (u : Unit {0}) → block_end number control tokens ≡ Ok (u, rest)
    → ended number control kind tokens ≡ Ok (kind, rest)
ended-ok number control kind tokens rest u is = go (behind_block control tokens) is
  where
    go : (found : Option Tokens) → on_some found (Err (lack (unended number tokens) tokens)) (λ rest. Ok (tt, rest)) ≡ Ok (u, rest)
        → on_some found (Err (lack (unended number tokens) tokens)) (λ rest. Ok (kind, rest)) ≡ Ok (kind, rest)
    go None same = cc
    go (Some others) same = ap (λ (z : Outcome (Unit {0})). and_then z (λ one rest. outcome kind rest)) same

ended-bad : (number : ℕ) (control : Option Name) (kind : ClauseKind) (tokens : Tokens) (fault : Fault) → block_end number control tokens ≡ Err fault
    → ended number control kind tokens ≡ Err fault
ended-bad number control kind tokens fault is = go (behind_block control tokens) is
  where
    go : (found : Option Tokens)
        → (let r : Outcome (Unit {0}) = on_some found (Err (lack (unended number tokens) tokens)) (λ rest. Ok (tt, rest)) in r ≡ Err fault)
        → (let r : Outcome ClauseKind = on_some found (Err (lack (unended number tokens) tokens)) (λ rest. Ok (kind, rest)) in r ≡ Err fault)
    go None same = ap (λ (z : Outcome (Unit {0})). and_then z (λ one rest. outcome kind rest)) same
    go (Some others) same = cc

pub select_ends : (loops : Loops) (room : ℕ) (tokens inside after others : Tokens) (list : List When) (other : Option (List Clause)) → behind_end tokens ≡ Some inside
    → whens_form loops room inside ≡ Ok (list, after) → (list ≡ [] → ⊥) → otherwise_form loops room after ≡ Ok (other, others)
    → select_form loops room tokens ≡ ended 7 None (x.Select list other) others
select_ends loops room tokens inside after others list other p q some r = rw (select_next loops room tokens, p, q, some-whens list some, r) refl

pub select_ok : (loops : Loops) (room : ℕ) (tokens inside after others rest : Tokens) (list : List When) (other : Option (List Clause)) (u : Unit {0})
    → behind_end tokens ≡ Some inside → whens_form loops room inside ≡ Ok (list, after) → (list ≡ [] → ⊥)
    → otherwise_form loops room after ≡ Ok (other, others) → block_end 7 None others ≡ Ok (u, rest) → select_form loops room tokens ≡ Ok (x.Select list other, rest)
select_ok loops room tokens inside after others rest list other u p q some r t =
    select_ends loops room tokens inside after others list other p q some r ∙ ended-ok 7 None (x.Select list other) others rest u t

pub select_bad_end : (loops : Loops) (room : ℕ) (tokens inside after others : Tokens) (list : List When) (other : Option (List Clause)) (fault : Fault)
    → behind_end tokens ≡ Some inside → whens_form loops room inside ≡ Ok (list, after) → (list ≡ [] → ⊥)
    → otherwise_form loops room after ≡ Ok (other, others) → block_end 7 None others ≡ Err fault → select_form loops room tokens ≡ Err fault
select_bad_end loops room tokens inside after others list other fault p q some r t =
    select_ends loops room tokens inside after others list other p q some r ∙ ended-bad 7 None (x.Select list other) others fault t

pub whens_end : (loops : Loops) (room : ℕ) (list : List When) (tokens : Tokens) → behind_symbol (codes "WHEN") tokens ≡ None
    → prepended list (whens_form loops room tokens) ≡ Ok (list, tokens)
whens_end loops room list tokens p = rw (whens_next loops room tokens, p) (prepended_end list tokens)

when-then : (loops : Loops) (room : ℕ) (list : List When) (tokens after : Tokens) → behind_symbol (codes "WHEN") tokens ≡ Some after
    → prepended list (whens_form loops room tokens)
    ≡ prepended list (and_then (when_form loops room after) (λ one further. and_then (whens_form loops room further) (λ more rest. Ok (one ∷ more, rest))))
when-then loops room list tokens after p = rw (whens_next loops room tokens, p) (go (expression s.Then after))
  where
    last : (expr : Expr) (r : Outcome Clause)
        → prepended list (and_then r (λ first further. and_then (whens_form loops room further) (λ more rest. Ok (when expr first ∷ more, rest))))
        ≡ prepended list (and_then (and_then r (λ chosen rest. Ok (when expr chosen, rest))) (λ one further. and_then (whens_form loops room further) (λ more rest. Ok (one ∷ more, rest))))
    last expr (Ok all) = refl
    last expr (Err fault) = refl

    inner : (expr : Expr) (others : Tokens) (inside : Option Tokens)
        → prepended list (on_some inside (Err (refusal 18 others)) (λ inside. and_then (clause_form loops room inside) (λ first further. and_then (whens_form loops room further) (λ more rest. Ok (when expr first ∷ more, rest)))))
        ≡ prepended list (and_then (on_some inside (Err (refusal 18 others)) (λ inside. and_then (clause_form loops room inside) (λ chosen rest. Ok (when expr chosen, rest)))) (λ one further. and_then (whens_form loops room further) (λ more rest. Ok (one ∷ more, rest))))
    inner expr others None = refl
    inner expr others (Some inside) = last expr (clause_form loops room inside)

    go : (r : Outcome Expr)
        → prepended list (and_then r (λ expr others. on_some (behind_then others) (Err (refusal 18 others)) (λ inside. and_then (clause_form loops room inside) (λ first further. and_then (whens_form loops room further) (λ more rest. Ok (when expr first ∷ more, rest))))))
        ≡ prepended list (and_then (and_then r (λ expr others. on_some (behind_then others) (Err (refusal 18 others)) (λ inside. and_then (clause_form loops room inside) (λ chosen rest. Ok (when expr chosen, rest))))) (λ one further. and_then (whens_form loops room further) (λ more rest. Ok (one ∷ more, rest))))
    go (Ok all) = inner all.0 all.1 (behind_then all.1)
    go (Err fault) = refl

pub whens_more : (loops : Loops) (room : ℕ) (list : List When) (tokens after rest : Tokens) (one : When) → behind_symbol (codes "WHEN") tokens ≡ Some after
    → when_form loops room after ≡ Ok (one, rest) → prepended list (whens_form loops room tokens) ≡ prepended (list ++ one ∷ []) (whens_form loops room rest)
whens_more loops room list tokens after rest one p q = when-then loops room list tokens after p ∙ rw q (prepended_one list one (whens_form loops room rest))

pub whens_bad : (loops : Loops) (room : ℕ) (list : List When) (tokens after : Tokens) (fault : Fault) → behind_symbol (codes "WHEN") tokens ≡ Some after
    → when_form loops room after ≡ Err fault → prepended list (whens_form loops room tokens) ≡ Err fault
whens_bad loops room list tokens after fault p q = when-then loops room list tokens after p ∙ rw q refl

pub otherwise_none : (loops : Loops) (room : ℕ) (tokens : Tokens) → behind_word (codes "OTHERWISE") tokens ≡ None → otherwise_form loops room tokens ≡ Ok (None, tokens)
otherwise_none loops room tokens p = rw (otherwise_next loops room tokens, p) refl

pub otherwise_ok : (loops : Loops) (room : ℕ) (tokens inside rest : Tokens) (list : List Clause) → behind_word (codes "OTHERWISE") tokens ≡ Some inside
    → clauses_form loops room inside ≡ Ok (list, rest) → otherwise_form loops room tokens ≡ Ok (Some list, rest)
otherwise_ok loops room tokens inside rest list p q = rw (otherwise_next loops room tokens, p, q) refl

pub otherwise_bad : (loops : Loops) (room : ℕ) (tokens inside : Tokens) (fault : Fault) → behind_word (codes "OTHERWISE") tokens ≡ Some inside
    → clauses_form loops room inside ≡ Err fault → otherwise_form loops room tokens ≡ Err fault
otherwise_bad loops room tokens inside fault p q = rw (otherwise_next loops room tokens, p, q) refl

pub group_ends : (loops : Loops) (room : ℕ) (inside others : Tokens) (list : List Clause) → clauses_form loops room inside ≡ Ok (list, others)
    → group_form loops room inside ≡ ended 10 None (x.Group list) others
group_ends loops room inside others list p = rw (group_next loops room inside, p) refl

pub group_ok : (loops : Loops) (room : ℕ) (inside others rest : Tokens) (list : List Clause) (u : Unit {0}) → clauses_form loops room inside ≡ Ok (list, others)
    → block_end 10 None others ≡ Ok (u, rest) → group_form loops room inside ≡ Ok (x.Group list, rest)
group_ok loops room inside others rest list u p t = group_ends loops room inside others list p ∙ ended-ok 10 None (x.Group list) others rest u t

pub group_bad_end : (loops : Loops) (room : ℕ) (inside others : Tokens) (list : List Clause) (fault : Fault) → clauses_form loops room inside ≡ Ok (list, others)
    → block_end 10 None others ≡ Err fault → group_form loops room inside ≡ Err fault
group_bad_end loops room inside others list fault p t = group_ends loops room inside others list p ∙ ended-bad 10 None (x.Group list) others fault t

pub group_bad : (loops : Loops) (room : ℕ) (inside : Tokens) (fault : Fault) → clauses_form loops room inside ≡ Err fault → group_form loops room inside ≡ Err fault
group_bad loops room inside fault p = rw (group_next loops room inside, p) refl

pub loop_ends : (loops : Loops) (room : ℕ) (tokens after inside others : Tokens) (head : Header) (tested : Test) (list : List Clause)
    → header tokens ≡ Ok (head, after) → test after ≡ Ok (tested, inside) → clauses_form (loops ++ control_of head ∷ []) room inside ≡ Ok (list, others)
    → loop_form loops room tokens ≡ ended 10 (control_of head) (x.Loop head tested list) others
loop_ends loops room tokens after inside others head tested list p q r = rw (loop_next loops room tokens, p, q, r) refl

pub loop_ok : (loops : Loops) (room : ℕ) (tokens after inside others rest : Tokens) (head : Header) (tested : Test) (list : List Clause) (u : Unit {0})
    → header tokens ≡ Ok (head, after) → test after ≡ Ok (tested, inside) → clauses_form (loops ++ control_of head ∷ []) room inside ≡ Ok (list, others)
    → block_end 10 (control_of head) others ≡ Ok (u, rest) → loop_form loops room tokens ≡ Ok (x.Loop head tested list, rest)
loop_ok loops room tokens after inside others rest head tested list u p q r t =
    loop_ends loops room tokens after inside others head tested list p q r ∙ ended-ok 10 (control_of head) (x.Loop head tested list) others rest u t

pub loop_bad_end : (loops : Loops) (room : ℕ) (tokens after inside others : Tokens) (head : Header) (tested : Test) (list : List Clause) (fault : Fault)
    → header tokens ≡ Ok (head, after) → test after ≡ Ok (tested, inside) → clauses_form (loops ++ control_of head ∷ []) room inside ≡ Ok (list, others)
    → block_end 10 (control_of head) others ≡ Err fault → loop_form loops room tokens ≡ Err fault
loop_bad_end loops room tokens after inside others head tested list fault p q r t =
    loop_ends loops room tokens after inside others head tested list p q r ∙ ended-bad 10 (control_of head) (x.Loop head tested list) others fault t

pub loop_bad_header : (loops : Loops) (room : ℕ) (tokens : Tokens) (fault : Fault) → header tokens ≡ Err fault → loop_form loops room tokens ≡ Err fault
loop_bad_header loops room tokens fault p = rw (loop_next loops room tokens, p) refl

pub loop_bad_test : (loops : Loops) (room : ℕ) (tokens after : Tokens) (head : Header) (fault : Fault) → header tokens ≡ Ok (head, after) → test after ≡ Err fault
    → loop_form loops room tokens ≡ Err fault
loop_bad_test loops room tokens after head fault p q = rw (loop_next loops room tokens, p, q) refl

pub loop_bad_clauses : (loops : Loops) (room : ℕ) (tokens after inside : Tokens) (head : Header) (tested : Test) (fault : Fault)
    → header tokens ≡ Ok (head, after) → test after ≡ Ok (tested, inside) → clauses_form (loops ++ control_of head ∷ []) room inside ≡ Err fault
    → loop_form loops room tokens ≡ Err fault
loop_bad_clauses loops room tokens after inside head tested fault p q r = rw (loop_next loops room tokens, p, q, r) refl

pub clauses_end : (loops : Loops) (room : ℕ) (list : List Clause) (tokens : Tokens) → begins_word (codes "END") tokens ≡ true
    → prepended list (clauses_form loops room tokens) ≡ Ok (list, tokens)
clauses_end loops room list tokens p = rw (clauses_next loops room tokens, p) (prepended_end list tokens)

pub clauses_more : (loops : Loops) (room : ℕ) (list : List Clause) (tokens rest : Tokens) (one : Clause) → begins_word (codes "END") tokens ≡ false
    → clause_form loops room tokens ≡ Ok (one, rest) → prepended list (clauses_form loops room tokens) ≡ prepended (list ++ one ∷ []) (clauses_form loops room rest)
clauses_more loops room list tokens rest one p q = rw (clauses_next loops room tokens, p, q) (prepended_one list one (clauses_form loops room rest))

pub clauses_bad : (loops : Loops) (room : ℕ) (list : List Clause) (tokens : Tokens) (fault : Fault) → begins_word (codes "END") tokens ≡ false
    → clause_form loops room tokens ≡ Err fault → prepended list (clauses_form loops room tokens) ≡ Err fault
clauses_bad loops room list tokens fault p q = rw (clauses_next loops room tokens, p, q) refl

pub ruleset meants = (meant_ok, meant_bad)

pub ruleset clauses = (assign_ok, assign_bad, send_ok, send_bad, label_bad, word_ok, word_bad, ends_bad, message_ok, message_bad, start_same)

pub ruleset instructions = (simple_ok, simple_bad, procedure_next, expose_next, deep_next, block_next, behind_fewer)

pub ruleset choices = (choice_ok, choice_bad_test, choice_no_then, choice_bad_first, choice_bad_other, expression_less, then_less, clause_less)

pub ruleset elses = (else_none, else_ok, else_bad, else_less)

pub ruleset selects = (select_open, select_bad_whens, select_none, select_bad_other, select_ok, select_bad_end, end_less, whens_less)

pub ruleset when_lists = (prepended_start, whens_end, whens_more, whens_bad, when_less, word_less)

pub ruleset whens = (expression_less, then_less)

pub ruleset others = (otherwise_none, otherwise_ok, otherwise_bad, otherwise_less)

pub ruleset groups = (group_ok, group_bad_end, group_bad)

pub ruleset repetitions = (loop_ok, loop_bad_end, loop_bad_header, loop_bad_test, loop_bad_clauses, header_less, test_less, without_last_is)

pub ruleset clause_lists = (prepended_start, clauses_end, clauses_more, clauses_bad, clause_less)
