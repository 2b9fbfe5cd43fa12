-- What `execute` did at a place in the loop of `compute`.
use Rattle.std.proofs.Common.{◌≡◌, ℕ, ◌+◌, ◌≤◌, ⊎_elim, Bool, true, if◌then◌else◌, List, [], length, reverse, slice_get, Some, None, ap, sym, ◌∙◌, subst}
use Rattle.std.proofs.lemmas.List.{reverse-reverse}
use Rattle.std.proofs.lemmas.Option.{slice_get_cases}
use Rattle.rx_tree.specs.declared.value.Value.{Value}
use Rattle.rx_eval.specs.declared.code.Instr.{Instr}
use Rattle.rx_eval.specs.Reading.{Scene}
use Rattle.rx_eval.specs.declared.step.Step.{Step}
use Rattle.rx_eval.specs.declared.call.Pending.{Pending}
use Rattle.rx_eval.specs.Evaluation.{AllFound, AllDone, AllCall, evaluate_all}
use Rattle.rx_eval.specs.Machine.{Calls, is_kept, move}
use Rattle.rx_eval.specs.Steps.{moved}
use Rattle.rx_eval.specs.Places.{fits, rest_at, partial, IsPlace, with_hole, with_answer}
use Rattle.rx_eval.proofs.At.{IsStepped, stepped, ended_at}

pub executed : (scene : Scene) (code : List Instr) (at : ℕ) (instr : Instr) (old new : List Value) (did is : Step)
    → fits scene.body code [] ≡ true → slice_get code at ≡ Some instr → IsPlace code at old → moved did new ≡ move scene.facts instr old → did ≡ is
    → IsStepped scene code at (evaluate_all scene (partial code at old)) (moved is new)
executed scene code at instr old new did is h get place m e =
    subst (λ x. IsStepped scene code at (evaluate_all scene (partial code at old)) x) (sym m ∙ ap (λ x. moved x new) e) (stepped scene code at instr old h get place)

past : (code : List Instr) (at : ℕ) → slice_get code at ≡ None → length code ≤ at
past code at h =
    ⊎_elim (λ t. let p : Some t.0 ≡ None = sym t.2 ∙ h in cc) (λ t. t.0) (slice_get_cases code at).1

pub called : (scene : Scene) (code : List Instr) (at place : ℕ) (sent : Pending) (again : Bool) (new values : List Value) (all : AllFound)
    → IsStepped scene code at all (Calls sent again new) → place ≡ (if again then at else at + 1) → values ≡ reverse new
    → (all ≡ AllCall sent (rest_at code place (with_hole (is_kept sent.awaited) (reverse values)))) × ((answer : Value) → IsPlace code place (with_answer (is_kept sent.awaited) answer (reverse values)))
called scene code at place sent again new values all h p v =
    let turned : new ≡ reverse values = sym (reverse-reverse new) ∙ ap reverse (sym v) in (
      h.1 ∙ ap (λ n. AllCall sent (rest_at code n (with_hole (is_kept sent.awaited) new))) (sym p) ∙ ap (λ vs. AllCall sent (rest_at code place (with_hole (is_kept sent.awaited) vs))) turned,
      λ answer. subst (λ vs. IsPlace code place (with_answer (is_kept sent.awaited) answer vs)) turned (subst (λ n. IsPlace code n (with_answer (is_kept sent.awaited) answer new)) (sym p) (h.0 answer)),
    )

pub done : (scene : Scene) (code : List Instr) (at : ℕ) (new values : List Value) → slice_get code at ≡ None → IsPlace code at new → values ≡ reverse new
    → evaluate_all scene (partial code at new) ≡ AllDone values
done scene code at new values h place v = ended_at scene code at new (past code at h) place ∙ ap AllDone (sym v)
