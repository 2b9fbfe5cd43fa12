-- Runs of frames that share all variables stay counted.
use Rattle.std.proofs.Common.{◌≡◌, ◌<◌, ◌≤◌, inl, inr, ℕ, zero, suc, ◌+◌, ◌-◌, Option, Some, None, List, [], ◌∷◌, ◌++◌, length, take, drop, reverse, get_or, subst, sym, ap, ◌∙◌, arith}
use Rattle.std.specs.Prelude.{slice_get, slice_set}
use Rattle.std.proofs.lemmas.List.{length-append, length-set, length-take, set-get_or}
use Rattle.std.proofs.lemmas.Bool.{cases_lt}
use Rattle.std.proofs.lemmas.Option.{slice_get-get_or, slice_get_within}
use Rattle.rx_frames.specs.declared.position.Position.{Position}
use Rattle.rx_tree.specs.declared.value.Value.{Value}
use Rattle.rx_tree.specs.declared.name.Derived.{Derived}
use Rattle.rx_frames.specs.Frames.{Frame, IsShared, with_answer, with_value}
use Rattle.rx_frames.specs.Activities.{ShareAll}
use Rattle.rx_frames.specs.Runs.{AreRuns, IsKept, IsRun}
use Rattle.rx_frames.proofs.FoundLemmas.{found-append, found-before, found-drop, found-more, found-reverse, found-set, found-take}

pub kept-none : IsKept [] []
kept-none = record { few = omega arith; counted = record { short = omega arith; within = λ k run found. cc; shared = λ k run found. cc } }

-- ---- a further run

pub AreRuns-more : (runs : List ℕ) (frames : List (Frame Position)) (place run : ℕ) → AreRuns runs frames → place ≡ length runs → place < length frames
    → run ≤ place + 1 → IsRun frames place run → AreRuns (runs ++ run ∷ []) frames
AreRuns-more runs frames place run are next within few is = record {
  short = omega (arith, length-append runs (run ∷ []), are.short);
  within = λ k other found. elim (found-more runs run k other found) [
    | inl same ↦ are.within k other same
    | inr last ↦ let e : run ≡ other = cc (last.1) in omega (arith, last.0)
  ];
  shared = λ k other found. elim (found-more runs run k other found) [
    | inl same ↦ are.shared k other same
    | inr last ↦ let e : run ≡ other = cc (last.1) in let p : place ≡ k = next ∙ sym last.0 in rw (← e, ← p) is
  ];
}

pub IsRun-none : (frames : List (Frame Position)) (place : ℕ) → IsRun frames place 0
IsRun-none frames place = λ j frame below above found. absurd (omega (arith, below, above))

IsRun-step : (frames : List (Frame Position)) (place : ℕ) (frame : Frame Position) (run : ℕ) → IsRun frames place run → slice_get frames (suc place) ≡ Some frame → IsShared frame.variables
    → IsRun frames (suc place) (run + 1)
IsRun-step frames place frame run are there is = λ j other below above at. elim (cases_lt place j) [
  | inl more ↦
      let e : suc place ≡ j = omega arith in
      let same : Some frame ≡ Some other = sym there ∙ ap (slice_get frames) e ∙ at in
      let one : frame ≡ other = cc (same) in
      subst (λ (f : Frame Position). IsShared f.variables) one is
  | inr fits ↦ are j other fits (omega arith) at
]

-- the frame itself, and those beneath it
pub IsRun-more : (runs : List ℕ) (frames : List (Frame Position)) (place : ℕ) (frame : Frame Position) (last : Option ℕ) (run : ℕ) → AreRuns runs frames → place ≡ length runs
    → slice_get frames place ≡ Some frame → IsShared frame.variables → last ≡ slice_get runs (length runs - 1) → last ≡ Some run → IsRun frames place (run + 1)
IsRun-more runs frames zero frame last run are next there is found some = λ j other below above at.
    absurd (omega (arith, slice_get_within runs (length runs - 1) run (sym found ∙ some)))
IsRun-more runs frames (suc place) frame last run are next there is found some = λ j other below above at.
    IsRun-step frames place frame run (are.shared place run (ap (slice_get runs) (omega arith) ∙ sym found ∙ some)) there is j other below above at

-- where no run stands before it
pub IsRun-first : (runs : List ℕ) (frames : List (Frame Position)) (place : ℕ) (frame : Frame Position) → place ≡ length runs → slice_get runs (length runs - 1) ≡ None
    → slice_get frames place ≡ Some frame → IsShared frame.variables → IsRun frames place 1
IsRun-first [] frames place frame next none there is = λ j other below above at.
    let e : place ≡ j = omega (arith, next) in
    let same : Some frame ≡ Some other = sym there ∙ ap (slice_get frames) e ∙ at in
    let one : frame ≡ other = cc (same) in
    subst (λ (f : Frame Position). IsShared f.variables) one is
IsRun-first (run ∷ runs) frames place frame next none there is =
    let some = slice_get-get_or (run ∷ runs) (length (run ∷ runs) - 1) run (omega arith) in
    let e : None ≡ Some (get_or (run ∷ runs) (length (run ∷ runs) - 1) run) = sym none ∙ some in cc

-- ---- frames that come, go and change

pub kept-pushed : (runs : List ℕ) (frames : List (Frame Position)) (frame : Frame Position) → AreRuns runs frames → length frames < 1000 → IsKept runs (frames ++ frame ∷ [])
kept-pushed runs frames frame are few = record {
  few = omega (arith, length-append frames (frame ∷ []));
  counted = record {
    short = omega (arith, length-append frames (frame ∷ []), are.short);
    within = are.within;
    shared = λ k run found j other below above at.
        are.shared k run found j other below above
        (found-before frames (frame ∷ []) j other (omega (arith, are.short, slice_get_within runs k run found)) at);
  };
}

pub kept-popped : (runs : List ℕ) (frames new gone : List (Frame Position)) (size : ℕ) → IsKept runs frames → frames ≡ new ++ gone → size ≡ length new → IsKept (take size runs) new
kept-popped runs frames new gone size is left counted = record {
  few = omega (arith, is.few, ap length left, length-append new gone);
  counted = record {
    short = omega (arith, length-take size runs, counted);
    within = λ k run found. is.counted.within k run (found-take size runs k run found).1;
    shared = λ k run found j other below above at.
        is.counted.shared k run (found-take size runs k run found).1 j other below above
        (ap (λ fs. slice_get fs j) left ∙ found-append new gone j other at);
  };
}

pub kept-lent : (runs : List ℕ) (frames : List (Frame Position)) (place : ℕ) (w : Frame Position) → IsKept runs frames → IsKept (take place runs) (slice_set frames place w)
kept-lent runs frames place w is = record {
  few = omega (arith, is.few, length-set frames place w);
  counted = record {
    short = omega (arith, length-take place runs, length-set frames place w, is.counted.short);
    within = λ k run found. is.counted.within k run (found-take place runs k run found).1;
    shared = λ k run found j other below above at.
        let there = found-take place runs k run found in
        elim (found-set frames place w j other at) [
          | inl same ↦ is.counted.shared k run there.1 j other below above same
          | inr written ↦ absurd (omega (arith, there.0, written.0, below))
        ];
  };
}

kept-written : (runs : List ℕ) (frames : List (Frame Position)) (place : ℕ) (x w : Frame Position) → IsKept runs frames → slice_get frames place ≡ Some x
    → (IsShared x.variables → IsShared w.variables) → IsKept runs (slice_set frames place w)
kept-written runs frames place x w is there stays = record {
  few = omega (arith, is.few, length-set frames place w);
  counted = record {
    short = omega (arith, length-set frames place w, is.counted.short);
    within = is.counted.within;
    shared = λ k run found j other below above at.
        elim (found-set frames place w j other at) [
          | inl same ↦ is.counted.shared k run found j other below above same
          | inr written ↦
              let before : slice_get frames j ≡ Some x = ap (slice_get frames) (sym written.0) ∙ there in
              let one : w ≡ other = cc (written.1) in
              subst (λ (f : Frame Position). IsShared f.variables) one (stays (is.counted.shared k run found j x below above before))
        ];
  };
}

pub kept-valued : (runs : List ℕ) (frames : List (Frame Position)) (place : ℕ) (x w : Frame Position) (name : Derived) (value : Option Value) → IsKept runs frames
    → place < length frames → x ≡ get_or frames place x → w ≡ with_value name value x → IsKept runs (slice_set frames place w)
kept-valued runs frames place x w name value is within there valued =
    kept-written runs frames place x w is (slice_get-get_or frames place x within ∙ ap (λ f. Some f) (sym there))
    (λ shared. subst (λ (f : Frame Position). IsShared f.variables) (sym valued) shared)

pub kept-answered : (runs : List ℕ) (frames : List (Frame Position)) (place : ℕ) (x w : Frame Position) (answer : Option Value) → IsKept runs frames
    → place < length frames → x ≡ get_or frames place x → w ≡ with_answer answer x → IsKept runs (slice_set frames place w)
kept-answered runs frames place x w answer is within there answered =
    kept-written runs frames place x w is (slice_get-get_or frames place x within ∙ ap (λ f. Some f) (sym there))
    (λ shared. subst (λ (f : Frame Position). IsShared f.variables) (sym answered) shared)

pub kept-same : (runs : List ℕ) (frames : List (Frame Position)) (place : ℕ) (x w : Frame Position) → IsKept runs frames
    → x ≡ get_or frames place x → w ≡ x → IsKept runs (slice_set frames place w)
kept-same runs frames place x w is there same =
    subst (IsKept runs) (sym (ap (slice_set frames place) (same ∙ there) ∙ set-get_or frames place x)) is

-- ---- what a run says of the frames with the top first

pub share-all : (runs : List ℕ) (items frames : List (Frame Position)) (place down run : ℕ) → AreRuns runs items → frames ≡ reverse items → place + down + 1 ≡ length items
    → slice_get runs place ≡ Some run → ShareAll (drop down frames) run
share-all runs items frames place down run are is fits found = λ k frame below at.
    let few : k ≤ place = omega (arith, are.within place run found) in
    are.shared place run found (place - k) frame (omega arith) (omega arith)
    (found-reverse items (place - k) (down + k) frame (omega arith)
    (ap (λ fs. slice_get fs (down + k)) (sym is) ∙ sym (found-drop down frames k) ∙ at))
