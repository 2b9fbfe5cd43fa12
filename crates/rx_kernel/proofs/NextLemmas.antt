-- The clause that a frame does next.
use Rattle.std.proofs.Common.{◌≡◌, ℕ, List, [], ◌∷◌, None, Some, refl, sym, ◌∙◌, ap, subst}
use Rattle.std.specs.Prelude.{reverse, slice_get}
use Rattle.rx_clause_tree.specs.declared.clause.Clause.{Clause}
use Rattle.rx_clause_tree.specs.declared.clause.When.{When}
use Rattle.rx_clause_tree.specs.declared.clause.ClauseKind.{ClauseKind, out-ClauseKind}
use Rattle.rx_clause_tree.specs.declared.clause.ClauseKind.TheVariants as kind
use Rattle.rx_clause_tree.specs.declared.clause.ClauseKind.TheOpen.{ClauseKind-F}
use Rattle.rx_clause_tree.specs.declared.package.Package.{Package}
use Rattle.rx_clause_tree.specs.declared.simple.Simple.{Simple}
use Rattle.rx_clause_tree.specs.declared.simple.Simple.TheVariants as simple
use Rattle.rx_frames.specs.declared.position.Loop.{Loop}
use Rattle.rx_frames.specs.declared.position.Position.{Position}
use Rattle.rx_frames.specs.Frames.{Frame}
use Rattle.rx_flow.specs.declared.found.Found.{Found}
use Rattle.rx_flow.specs.Finds.{IsEnd, Leads}
use Rattle.rx_flow.specs.Finds as finds
use Rattle.rx_flow.specs.Kept.{all_kept, kept_layer, kept_of}
use Rattle.rx_flow.specs.Places.{behind, clause_at, rest_at, todo_at}
use Rattle.rx_flow.specs.Rules.{Rule, Does, Begins, Asks, Loops, Fails, made, rule, rule_of}
use Rattle.rx_flow.specs.Todo.{Item, past_labels}
use Rattle.rx_codes.specs.Codes.{done_by}
use Rattle.rx_machine.specs.Todo.{clauses_in}
use Rattle.rx_kernel.specs.declared.stepped.Next.{Next}
use Rattle.rx_kernel.specs.Stepping.{IsDone, IsNext}

-- ---- what is kept of a clause tells what the clause does

done-layer : (line : ℕ) (x : ClauseKind-F ClauseKind Clause When) → done_by (rule (kept_layer line x)) ≡ done_by (rule_of line x)
done-layer line (ClauseKind-F.Simple s) = ap (λ k. done_by (rule_of line k)) (kind.outs-Simple s)
done-layer line (ClauseKind-F.If test chosen other) =
    ap (λ k. done_by (rule_of line k)) (kind.outs-If test (made line (kind.Simple simple.Nop)) None)
done-layer line (ClauseKind-F.Select [] None) = ap (λ k. done_by (rule_of line k)) (kind.outs-Select [] None)
done-layer line (ClauseKind-F.Select [] (Some others)) = ap (λ k. done_by (rule_of line k)) (kind.outs-Select [] (Some []))
done-layer line (ClauseKind-F.Select (when ∷ whens) others) =
    ap (λ k. done_by (rule_of line k)) (kind.outs-If when.test (made line (kind.Simple simple.Nop)) None)
done-layer line (ClauseKind-F.Group clauses) = ap (λ k. done_by (rule_of line k)) (kind.outs-Group [])
done-layer line (ClauseKind-F.Loop header test clauses) = ap (λ k. done_by (rule_of line k)) (kind.outs-Loop header test [])

line-layer : (line : ℕ) (x : ClauseKind-F ClauseKind Clause When) → (kept_layer line x).line ≡ line
line-layer line (ClauseKind-F.Simple s) = refl
line-layer line (ClauseKind-F.If test chosen other) = refl
line-layer line (ClauseKind-F.Select [] others) = refl
line-layer line (ClauseKind-F.Select (when ∷ whens) others) = refl
line-layer line (ClauseKind-F.Group clauses) = refl
line-layer line (ClauseKind-F.Loop header test clauses) = refl

done-is : (one : Rule) (does : Simple) → done_by one ≡ Some does → one ≡ Does does
done-is (Does other) does is = let same : other ≡ does = cc (is) in ap Does same
done-is (Begins clauses) does is = let wrong : None ≡ Some does = is in cc
done-is (Asks test one other) does is = let wrong : None ≡ Some does = is in cc
done-is (Loops header test clauses) does is = let wrong : None ≡ Some does = is in cc
done-is Fails does is = let wrong : None ≡ Some does = is in cc

-- ---- what is found

-- the clause that flat code finds is the frame's next
pub is-next : (program : Package) (frame : Frame Position) (body : List Clause) (found : Found) (kept : Clause) (does : Simple) (next : Next)
    → body ≡ clauses_in program frame.body → finds.IsNext body frame.todo.place found → slice_get (all_kept body) found.number ≡ Some kept
    → done_by (rule kept) ≡ Some does → next.here.line ≡ kept.line → next.here.at ≡ found.at → next.here.next ≡ found.next → next.number ≡ found.number
    → IsNext program frame next does
is-next program frame body found kept does next whose is got done line at behind number =
    let loops : List Loop = reverse frame.todo.loops in
    let clause : Clause = clause_at body found.at in
    let rest : List Item = rest_at body found.at loops in
    let same : kept ≡ kept_of clause = let one : Some kept ≡ Some (kept_of clause) = sym got ∙ is.kept in cc in
    let does_so : rule clause ≡ Does does =
    done-is (rule clause) does (sym (done-layer clause.line (out-ClauseKind clause.kind)) ∙ ap (λ (c : Clause). done_by (rule c)) (sym same) ∙ done) in
    let from : (place : ℕ) → todo_at body place loops ≡ todo_at (clauses_in program frame.body) place loops = λ place.
    ap (λ (clauses : List Clause). todo_at clauses place loops) whose in
    record {
      clause = clause;
      rest = rest;
      first = sym (ap past_labels (from frame.todo.place)) ∙ is.passed loops ∙ is.first loops;
      its_line = sym (line-layer clause.line (out-ClauseKind clause.kind)) ∙ ap (λ (c : Clause). c.line) (sym same) ∙ sym line;
      does = does_so;
      at = ap (λ (place : ℕ). todo_at (clauses_in program frame.body) place loops) at ∙ sym (from found.at) ∙ is.first loops;
      behind = ap (λ (place : ℕ). todo_at (clauses_in program frame.body) place loops) behind ∙ sym (from found.next)
          ∙ subst (λ one. Leads body found loops rest one) does_so (is.leads loops);
      kept = record {
        clause = kept;
        kept = ap (λ (clauses : List Clause). slice_get (all_kept clauses) next.number) (sym whose)
            ∙ ap (λ (place : ℕ). slice_get (all_kept body) place) number ∙ got;
        does = done-is (rule kept) does done;
      };
    }

-- where it finds none, and the frame is in no loop, nothing is left
pub is-done : (program : Package) (frame : Frame Position) (body : List Clause) → body ≡ clauses_in program frame.body → IsEnd body frame.todo.place
    → frame.todo.loops ≡ [] → IsDone program frame
is-done program frame body whose end none =
    ap (λ (clauses : List Clause). past_labels (todo_at clauses frame.todo.place (reverse frame.todo.loops))) (sym whose)
    ∙ end (reverse frame.todo.loops)
    ∙ ap (λ (loops : List Loop). behind body (reverse loops)) none
