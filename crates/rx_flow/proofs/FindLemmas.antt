-- What is next at a place, by what stands there.
use Rattle.std.proofs.Common.{◌≡◌, ℕ, zero, suc, ◌+◌, ◌<◌, ◌≤◌, Bool, true, false, List, [], ◌∷◌, ◌++◌, length, slice_get, Option, Some, None, if◌then◌else◌, refl, ap, sym, ◌∙◌, subst, inl, inr, arith}
use Rattle.std.proofs.lemmas.Option.{slice_get_within}
use Rattle.rx_tree.specs.declared.name.Name.{Name}
use Rattle.rx_clause_tree.specs.declared.simple.Simple.TheVariants as simple
use Rattle.rx_clause_tree.specs.declared.clause.Clause.{Clause}
use Rattle.rx_clause_tree.specs.declared.clause.When.{When}
use Rattle.rx_clause_tree.specs.declared.clause.ClauseKind.{ClauseKind, out-ClauseKind}
use Rattle.rx_clause_tree.specs.declared.clause.ClauseKind.TheVariants as kind
use Rattle.rx_clause_tree.specs.declared.clause.ClauseKind.TheOpen.{ClauseKind-F}
use Rattle.rx_frames.specs.declared.position.Loop.{Loop}
use Rattle.rx_frames.specs.declared.position.LoopState.{LoopState}
use Rattle.rx_flow.specs.declared.code.Op.{Op}
use Rattle.rx_flow.specs.declared.code.Op.TheVariants as op
use Rattle.rx_flow.specs.declared.code.Code.{Code}
use Rattle.rx_flow.specs.declared.found.Found.{Found}
use Rattle.rx_flow.specs.declared.finding.TurnOp.{TurnOp}
use Rattle.rx_flow.specs.Rules.{Rule, Does, Begins, Asks, Loops, Fails, rule, rule_of, made}
use Rattle.rx_flow.specs.Todo.{Item, Whole, Again, wholes, is_label, past_labels, is_meant_loop}
use Rattle.rx_flow.specs.Kept.{kept_of, kept_layer}
use Rattle.rx_flow.specs.Spots.{Spot, Doing, Turning, clauses_at, spot_at}
use Rattle.rx_flow.specs.Places.{behind, loop_item, left_at, todo_at, first_of, tail_of, clause_at, rest_at, turning, loop_at}
use Rattle.rx_flow.specs.Stands.{view, LeadsTo, ClauseHere, repeated, Stands}
use Rattle.rx_flow.specs.Finds.{Leads, IsNext, IsEnd, IsTurn, IsNoTurn}
use Rattle.rx_flow.specs.Looks.{jump_of, turn_of, is_label_entry}
use Rattle.rx_flow.proofs.BodyLemmas.{fits_at}

-- ---- what is kept of a clause tells what the clause is

label-layer : (line : ℕ) (x : ClauseKind-F ClauseKind Clause When) → is_label (rule (kept_layer line x)) ≡ is_label (rule_of line x)
label-layer line (ClauseKind-F.Simple s) = ap (λ k. is_label (rule_of line k)) (kind.outs-Simple s)
label-layer line (ClauseKind-F.If test chosen other) =
    ap (λ k. is_label (rule_of line k)) (kind.outs-If test (made line (kind.Simple simple.Nop)) None)
label-layer line (ClauseKind-F.Select [] None) = ap (λ k. is_label (rule_of line k)) (kind.outs-Select [] None)
label-layer line (ClauseKind-F.Select [] (Some others)) = ap (λ k. is_label (rule_of line k)) (kind.outs-Select [] (Some []))
label-layer line (ClauseKind-F.Select (when ∷ whens) others) =
    ap (λ k. is_label (rule_of line k)) (kind.outs-If when.test (made line (kind.Simple simple.Nop)) None)
label-layer line (ClauseKind-F.Group clauses) = ap (λ k. is_label (rule_of line k)) (kind.outs-Group [])
label-layer line (ClauseKind-F.Loop header test clauses) = ap (λ k. is_label (rule_of line k)) (kind.outs-Loop header test [])

pub label-kept : (clause : Clause) → is_label (rule (kept_of clause)) ≡ is_label (rule clause)
label-kept clause = label-layer clause.line (out-ClauseKind clause.kind)

meant-layer : (wanted : Option Name) (line : ℕ) (x : ClauseKind-F ClauseKind Clause When)
    → is_meant_loop wanted (rule (kept_layer line x)) ≡ is_meant_loop wanted (rule_of line x)
meant-layer wanted line (ClauseKind-F.Simple s) = ap (λ k. is_meant_loop wanted (rule_of line k)) (kind.outs-Simple s)
meant-layer wanted line (ClauseKind-F.If test chosen other) =
    ap (λ k. is_meant_loop wanted (rule_of line k)) (kind.outs-If test (made line (kind.Simple simple.Nop)) None)
meant-layer wanted line (ClauseKind-F.Select [] None) = ap (λ k. is_meant_loop wanted (rule_of line k)) (kind.outs-Select [] None)
meant-layer wanted line (ClauseKind-F.Select [] (Some others)) =
    ap (λ k. is_meant_loop wanted (rule_of line k)) (kind.outs-Select [] (Some []))
meant-layer wanted line (ClauseKind-F.Select (when ∷ whens) others) =
    ap (λ k. is_meant_loop wanted (rule_of line k)) (kind.outs-If when.test (made line (kind.Simple simple.Nop)) None)
meant-layer wanted line (ClauseKind-F.Group clauses) = ap (λ k. is_meant_loop wanted (rule_of line k)) (kind.outs-Group [])
meant-layer wanted line (ClauseKind-F.Loop header test clauses) = ap (λ k. is_meant_loop wanted (rule_of line k)) (kind.outs-Loop header test [])

pub meant-kept : (wanted : Option Name) (clause : Clause) → is_meant_loop wanted (rule (kept_of clause)) ≡ is_meant_loop wanted (rule clause)
meant-kept wanted clause = meant-layer wanted clause.line (out-ClauseKind clause.kind)

-- ---- the end of the innermost list

-- loops have no label before them
past_labels-behind : (body : List Clause) (loops : List Loop) → past_labels (behind body loops) ≡ behind body loops
past_labels-behind body [] = refl
past_labels-behind body (loop ∷ loops) =
    elim (spot_at body loop.turn)
    as (λ s. past_labels (loop_item loop.state (behind body loops) s) ≡ loop_item loop.state (behind body loops) s) [
      | Doing clauses ↦ refl
      | Turning clause after ↦ refl
    ]

ended : (body : List Clause) (place : ℕ) → left_at body place ≡ [] → IsEnd body place
ended body place e = λ loops. ap (λ (xs : List Clause). past_labels (wholes xs ++ behind body loops)) e ∙ past_labels-behind body loops

none_past : {A : Type 0} (xs : List A) (n : ℕ) → slice_get xs n ≡ None → length xs ≤ n
none_past [] n e = omega arith
none_past (x ∷ xs) zero e = cc
none_past (x ∷ xs) (suc n) e = let h = none_past xs n e in omega arith

pub code_ends : (code : Code) (body : List Clause) (place : ℕ) → Stands code body → slice_get code.ops place ≡ None → IsEnd body place
code_ends code body place stands e = ended body place (ap clauses_at (stands.last place (none_past code.ops place e)))

pub turn_ends : (code : Code) (body : List Clause) (place number end : ℕ) → Stands code body → slice_get code.ops place ≡ Some (op.Turn number end)
    → IsEnd body place
turn_ends code body place number end stands e = ended body place (ap clauses_at (fits_at code body place (op.Turn number end) stands e).here)

-- ---- jumps

pub jump_forth : (code : Code) (body : List Clause) (place to : ℕ) → Stands code body → slice_get code.ops place ≡ Some (op.Jump to)
    → (loops : List Loop) → past_labels (todo_at body place loops) ≡ past_labels (todo_at body to loops)
jump_forth code body place to stands e loops =
    ap (λ (xs : List Clause). past_labels (wholes xs ++ behind body loops)) (ap clauses_at (fits_at code body place (op.Jump to) stands e).here)

jump_is : (o : Option Op) (n : ℕ) → jump_of o ≡ Some n → o ≡ Some (op.Jump n)
jump_is None n e = cc
jump_is (Some (op.Clause number)) n e = cc
jump_is (Some (op.Test number otherwise)) n e = cc
jump_is (Some (op.Jump to)) n e = let same : to ≡ n = cc in ap (λ (m : ℕ). Some (op.Jump m)) same
jump_is (Some (op.Header number)) n e = cc
jump_is (Some (op.Turn number end)) n e = cc
jump_is (Some (op.NoWhen number)) n e = cc

pub jump_back : (code : Code) (body : List Clause) (place to next : ℕ) → Stands code body → slice_get code.ops place ≡ Some (op.Jump to)
    → jump_of (slice_get code.ops to) ≡ Some next → (loops : List Loop) → past_labels (todo_at body place loops) ≡ past_labels (todo_at body next loops)
jump_back code body place to next stands e f loops =
    jump_forth code body place to stands e loops ∙ jump_forth code body to next stands (jump_is (slice_get code.ops to) next f) loops

pub jump_ends : (code : Code) (body : List Clause) (place to : ℕ) → Stands code body → slice_get code.ops place ≡ Some (op.Jump to)
    → (place < to → ⊥) → ((next : ℕ) → jump_of (slice_get code.ops to) ≡ Some next → place < next → ⊥) → IsEnd body place
jump_ends code body place to stands e near far =
    let fits = fits_at code body place (op.Jump to) stands e in
    elim fits.ends [
      | inl forth ↦ absurd (near forth)
      | inr (inl turn) ↦ ended body place (ap clauses_at fits.here ∙ ap clauses_at turn.there)
      | inr (inr jump) ↦ absurd (far jump.next (ap jump_of jump.there) jump.onward)
    ]

-- ---- clauses

pub wholes-append : (xs ys : List Clause) (rest : List Item) → wholes (xs ++ ys) ++ rest ≡ wholes xs ++ (wholes ys ++ rest)
wholes-append [] ys rest = refl
wholes-append (x ∷ xs) ys rest = ap (λ (zs : List Item). Whole x ∷ zs) (wholes-append xs ys rest)

-- the lists to which a clause leads, by the clauses that are left there
leads_todo : (code : Code) (body : List Clause) (found : Found) (loops : List Loop) (clause : Clause) (after : List Clause) (r : Rule)
    → clause ≡ clause_at body found.at → LeadsTo (view code body) clause after found.next found.otherwise r
    → Leads body found loops (wholes after ++ behind body loops) r
leads_todo code body found loops clause after (Does s) same h = ap (λ (xs : List Clause). wholes xs ++ behind body loops) h
leads_todo code body found loops clause after (Begins clauses) same h =
    ap (λ (xs : List Clause). wholes xs ++ behind body loops) h ∙ wholes-append clauses after (behind body loops)
leads_todo code body found loops clause after (Asks test one other) same h = (
  ap (λ (xs : List Clause). wholes xs ++ behind body loops) h.0 ∙ wholes-append one after (behind body loops),
  ap (λ (xs : List Clause). wholes xs ++ behind body loops) h.1 ∙ wholes-append other after (behind body loops),
)
leads_todo code body found loops clause after (Loops header test clauses) same h = λ state.
    ap (λ (s : Spot). wholes (clauses_at s) ++ loop_item state (behind body loops) s) h
    ∙ ap (λ (c : Clause). Again c state ∷ (wholes after ++ behind body loops)) same
leads_todo code body found loops clause after Fails same h = tt

-- a clause that is no label
pub next_here : (code : Code) (body : List Clause) (place number next otherwise : ℕ) → Stands code body
    → (h : ClauseHere (view code body) place number next otherwise) → is_label (rule h.clause) ≡ false
    → IsNext body place (record { at = place; number = number; next = next; otherwise = otherwise })
next_here code body place number next otherwise stands h step =
    let found : Found = record { at = place; number = number; next = next; otherwise = otherwise } in
    let same : h.clause ≡ clause_at body place = sym (ap first_of h.here) in
    let first : (loops : List Loop) → todo_at body place loops ≡ Whole (clause_at body place) ∷ rest_at body place loops =
    λ loops. ap (λ (xs : List Clause). wholes xs ++ behind body loops) h.here
    ∙ ap (λ (xs : List Clause). Whole (first_of xs) ∷ (wholes (tail_of xs) ++ behind body loops)) (sym h.here) in
    let unlabelled : is_label (rule (clause_at body place)) ≡ false = ap (λ (c : Clause). is_label (rule c)) (sym same) ∙ step in
    record {
      passed = λ loops.
          ap past_labels (first loops)
          ∙ ap (λ (b : Bool). if b then past_labels (rest_at body place loops) else Whole (clause_at body place) ∷ rest_at body place loops) unlabelled
          ∙ sym (first loops);
      first = first;
      step = unlabelled;
      kept = ap (λ (xs : List Clause). slice_get xs number) (sym stands.kept) ∙ h.entry ∙ ap (λ (c : Clause). Some (kept_of c)) same;
      leads = λ loops.
          subst (λ (xs : List Clause). Leads body found loops (wholes (tail_of xs) ++ behind body loops) (rule (first_of xs))) (sym h.here)
          (leads_todo code body found loops h.clause h.after (rule h.clause) same h.leads);
    }

pub test_next : (code : Code) (body : List Clause) (place number otherwise : ℕ) → Stands code body
    → slice_get code.ops place ≡ Some (op.Test number otherwise)
    → IsNext body place (record { at = place; number = number; next = place + 1; otherwise = otherwise })
test_next code body place number otherwise stands e =
    let h = fits_at code body place (op.Test number otherwise) stands e in next_here code body place number (place + 1) otherwise stands h.stands h.step

pub header_next : (code : Code) (body : List Clause) (place number : ℕ) → Stands code body → slice_get code.ops place ≡ Some (op.Header number)
    → IsNext body place (record { at = place; number = number; next = place + 1; otherwise = place + 1 })
header_next code body place number stands e =
    let h = fits_at code body place (op.Header number) stands e in next_here code body place number (place + 1) (place + 1) stands h.stands h.step

pub no_when_next : (code : Code) (body : List Clause) (place number : ℕ) → Stands code body → slice_get code.ops place ≡ Some (op.NoWhen number)
    → IsNext body place (record { at = place; number = number; next = place + 1; otherwise = place + 1 })
no_when_next code body place number stands e =
    let h = fits_at code body place (op.NoWhen number) stands e in next_here code body place number (place + 1) (place + 1) stands h.stands h.step

entry_label : (entry : Option Clause) (clause : Clause) → entry ≡ Some (kept_of clause) → is_label_entry entry ≡ is_label (rule clause)
entry_label entry clause e = ap is_label_entry e ∙ label-kept clause

pub clause_next : (code : Code) (body : List Clause) (place number : ℕ) → Stands code body → slice_get code.ops place ≡ Some (op.Clause number)
    → is_label_entry (slice_get code.clauses number) ≡ false
    → IsNext body place (record { at = place; number = number; next = place + 1; otherwise = place + 1 })
clause_next code body place number stands e f =
    let h = fits_at code body place (op.Clause number) stands e in
    next_here code body place number (place + 1) (place + 1) stands h (sym (entry_label _ h.clause h.entry) ∙ f)

label_leads : (code : Code) (body : List Clause) (clause : Clause) (after : List Clause) (next otherwise : ℕ) (r : Rule)
    → is_label r ≡ true → LeadsTo (view code body) clause after next otherwise r → left_at body next ≡ after
label_leads code body clause after next otherwise (Does s) e h = h
label_leads code body clause after next otherwise (Begins clauses) e h = cc
label_leads code body clause after next otherwise (Asks test one other) e h = cc
label_leads code body clause after next otherwise (Loops header test clauses) e h = cc
label_leads code body clause after next otherwise Fails e h = cc

pub label_passed : (code : Code) (body : List Clause) (place number : ℕ) → Stands code body → slice_get code.ops place ≡ Some (op.Clause number)
    → is_label_entry (slice_get code.clauses number) ≡ true
    → (loops : List Loop) → past_labels (todo_at body place loops) ≡ past_labels (todo_at body (place + 1) loops)
label_passed code body place number stands e f loops =
    let h = fits_at code body place (op.Clause number) stands e in
    let label : is_label (rule h.clause) ≡ true = sym (entry_label _ h.clause h.entry) ∙ f in
    ap (λ (xs : List Clause). past_labels (wholes xs ++ behind body loops)) h.here
    ∙ ap (λ (b : Bool). if b then past_labels (wholes h.after ++ behind body loops) else Whole h.clause ∷ (wholes h.after ++ behind body loops)) label
    ∙ ap (λ (xs : List Clause). past_labels (wholes xs ++ behind body loops))
    (sym (label_leads code body h.clause h.after (place + 1) (place + 1) (rule h.clause) label h.leads))

-- from a place on, past labels and jumps
pub next_passed : (body : List Clause) (place at : ℕ) (found : Found)
    → ((loops : List Loop) → past_labels (todo_at body place loops) ≡ past_labels (todo_at body at loops)) → IsNext body at found → IsNext body place found
next_passed body place at found e h =
    record { passed = λ loops. e loops ∙ h.passed loops; first = h.first; step = h.step; kept = h.kept; leads = h.leads }

-- ---- turns

pub turn_is : (o : Option Op) (t : TurnOp) → turn_of o ≡ Some t → o ≡ Some (op.Turn t.number t.end)
turn_is None t e = cc
turn_is (Some (op.Clause number)) t e = cc
turn_is (Some (op.Test number otherwise)) t e = cc
turn_is (Some (op.Jump to)) t e = cc
turn_is (Some (op.Header number)) t e = cc
turn_is (Some (op.Turn number end)) t e =
    let q : TurnOp = record { number = number; end = end } in
    let same : q ≡ t = cc in
    ap (λ (u : TurnOp). Some (op.Turn u.number u.end)) same
turn_is (Some (op.NoWhen number)) t e = cc

pub turn_there : (code : Code) (body : List Clause) (place : ℕ) (t : TurnOp) → Stands code body → turn_of (slice_get code.ops place) ≡ Some t
    → IsTurn body place (record { number = t.number; body = place + 1; end = t.end })
turn_there code body place t stands e =
    let h = fits_at code body place (op.Turn t.number t.end) stands (turn_is (slice_get code.ops place) t e) in
    let loop : h.clause ≡ loop_at body place = sym (ap turning h.here) in
    record {
      first = λ state loops.
          ap (λ (s : Spot). wholes (clauses_at s) ++ loop_item state (behind body loops) s) h.here
          ∙ ap (λ (c : Clause). Again c state ∷ (wholes h.after ++ behind body loops)) loop
          ∙ ap (λ (xs : List Clause). Again (loop_at body place) state ∷ (wholes xs ++ behind body loops)) (sym h.there);
      kept = ap (λ (xs : List Clause). slice_get xs t.number) (sym stands.kept) ∙ h.entry ∙ ap (λ (c : Clause). Some (kept_of c)) loop;
      again = λ loops.
          ap (λ (xs : List Clause). wholes xs ++ behind body loops) h.again
          ∙ ap (λ (c : Clause). wholes (repeated (rule c)) ++ behind body loops) loop;
      nothing_left = ap clauses_at h.here;
    }

pub turn_room : (ops : List Op) (place : ℕ) (t : TurnOp) → turn_of (slice_get ops place) ≡ Some t → place < length ops
turn_room ops place t e = slice_get_within ops place (op.Turn t.number t.end) (turn_is (slice_get ops place) t e)

-- where clauses are left, no loop stands
no_loop : (s : Spot) (state : LoopState) (rest : List Item) (clause : Clause) (after : List Clause) → clauses_at s ≡ clause ∷ after
    → loop_item state rest s ≡ []
no_loop (Doing clauses) state rest clause after e = refl
no_loop (Turning loop behind_it) state rest clause after e = cc

no_turn : (code : Code) (body : List Clause) (place : ℕ) (o : Option Op) → Stands code body → slice_get code.ops place ≡ o → turn_of o ≡ None
    → IsNoTurn body place
no_turn code body place None stands e f = λ state loops.
    ap (λ (s : Spot). loop_item state (behind body loops) s) (stands.last place (none_past code.ops place e))
no_turn code body place (Some (op.Clause number)) stands e f = λ state loops.
    let a = fits_at code body place (op.Clause number) stands e in no_loop (spot_at body place) state (behind body loops) a.clause a.after a.here
no_turn code body place (Some (op.Test number otherwise)) stands e f = λ state loops.
    let a = fits_at code body place (op.Test number otherwise) stands e in
    no_loop (spot_at body place) state (behind body loops) a.stands.clause a.stands.after a.stands.here
no_turn code body place (Some (op.Jump to)) stands e f = λ state loops.
    ap (λ (s : Spot). loop_item state (behind body loops) s) (fits_at code body place (op.Jump to) stands e).here
no_turn code body place (Some (op.Header number)) stands e f = λ state loops.
    let a = fits_at code body place (op.Header number) stands e in
    no_loop (spot_at body place) state (behind body loops) a.stands.clause a.stands.after a.stands.here
no_turn code body place (Some (op.Turn number end)) stands e f = cc
no_turn code body place (Some (op.NoWhen number)) stands e f = λ state loops.
    let a = fits_at code body place (op.NoWhen number) stands e in
    no_loop (spot_at body place) state (behind body loops) a.stands.clause a.stands.after a.stands.here

pub turn_nowhere : (code : Code) (body : List Clause) (place : ℕ) → Stands code body → turn_of (slice_get code.ops place) ≡ None → IsNoTurn body place
turn_nowhere code body place stands e = no_turn code body place (slice_get code.ops place) stands refl e
