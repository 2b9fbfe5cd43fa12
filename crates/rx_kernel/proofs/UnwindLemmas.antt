-- Frames that end by an error.
use Rattle.std.proofs.Common.{◌≡◌, ℕ, ◌<◌, List, [], ◌∷◌, drop, length, Option, None, Some, refl, sym, ◌∙◌, ap, arith}
use Rattle.std.specs.Prelude.{◌++◌, ◌==◌, if◌then◌else◌, option_map, slice_get}
use Rattle.rx_tree.specs.declared.note.Note.{Note}
use Rattle.rx_tree.specs.declared.note.Note.TheVariants.{Error}
use Rattle.rx_tree.specs.Object.{Object}
use Rattle.rx_tree.specs.declared.class.ClassDef.{ClassDef}
use Rattle.rx_tree.specs.declared.activity.Outcome.TheVariants as outcome
use Rattle.rx_clause_tree.specs.declared.package.Package.{Package}
use Rattle.rx_native.specs.Fitting.{Fits}
use Rattle.rx_frames.specs.declared.activity.Wait.TheVariants as wait
use Rattle.rx_frames.specs.declared.position.Position.{Position}
use Rattle.rx_frames.specs.Frames.{Frame}
use Rattle.rx_frames.specs.Activities.{Activity, activity_at, first_message, frames_at, frames_of, waiting, with_change_at, with_frames}
use Rattle.rx_sends.specs.Sending.{completed}
use Rattle.rx_sends.proofs.MessageFits.{completed-fits}
use Rattle.rx_machine.specs.Raising as machine
use Rattle.rx_machine.specs.Todo.{Todo}
use Rattle.rx_machine.specs.World.{World, Ending, Failed}
use Rattle.rx_kernel.specs.Readings.{CodesFit, fixed_for_body, fixed_for_code, reading}
use Rattle.rx_kernel.specs.Unwinding.{ended, unwound}
use Rattle.rx_kernel.specs.Views.{Reading, activities_view, frames_view}
use Rattle.rx_kernel.proofs.ChangeLemmas.{change-twice, changed-at}
use Rattle.rx_kernel.proofs.ViewLemmas.{view-changed, view-first, view-frames}

-- ---- while the frames are taken off

frames-with : (found : Option (Activity Position)) (frame : Frame Position) (rest : List (Frame Position)) → frames_of found ≡ frame ∷ rest
    → frames_of (option_map (with_frames rest) found) ≡ rest
frames-with None frame rest is = cc
frames-with (Some x) frame rest is = refl

pub popped-frames : (old : List (Activity Position)) (a : ℕ) (frame : Frame Position) (rest : List (Frame Position)) → frames_at old a ≡ frame ∷ rest
    → frames_at (with_change_at old a (with_frames rest)) a ≡ rest
popped-frames old a frame rest is =
    ap frames_of (changed-at old a (with_frames rest)) ∙ frames-with (activity_at old a) frame rest is

first-of : (frames : List (Frame Position)) (frame : Frame Position) → Some frame ≡ slice_get frames 0 → frames ≡ frame ∷ drop 1 frames
first-of [] frame is = cc
first-of (one ∷ frames) frame is = let e : frame ≡ one = cc in ap (λ (f : Frame Position). f ∷ frames) (sym e)

-- the next frame is taken off, and its Message is completed
pub unwound-next : (old next : List (Activity Position)) (a number : ℕ) (objects after last : List Object) (frame : Frame Position)
    → Some frame ≡ slice_get (frames_at old a) 0 → next ≡ with_change_at old a (with_frames (drop 1 (frames_at old a)))
    → after ≡ completed objects frame.completes (outcome.Failed number)
    → last ≡ unwound objects (frames_at old a) number → last ≡ unwound after (frames_at next a) number
unwound-next old next a number objects after last frame top is completes come =
    let frames : frames_at old a ≡ frame ∷ drop 1 (frames_at old a) = first-of (frames_at old a) frame top in
    let rest : frames_at next a ≡ drop 1 (frames_at old a) =
    ap (λ (as_they : List (Activity Position)). frames_at as_they a) is ∙ popped-frames old a frame (drop 1 (frames_at old a)) frames in
    come ∙ ap (λ (fs : List (Frame Position)). unwound objects fs number) frames
    ∙ ap (λ (os : List Object). unwound os (drop 1 (frames_at old a)) number) (sym completes)
    ∙ ap (λ (fs : List (Frame Position)). unwound after fs number) (sym rest)

pub ended-next : (old next : List (Activity Position)) (a : ℕ) (change : Activity Position → Activity Position) → next ≡ with_change_at old a change
    → with_change_at next a ended ≡ with_change_at old a ended
ended-next old next a change is = ap (λ (as_they : List (Activity Position)). with_change_at as_they a ended) is ∙ change-twice old a change ended

none-left : (frames : List (Frame Position)) → None ≡ slice_get frames 0 → frames ≡ []
none-left [] is = refl
none-left (frame ∷ frames) is = cc

-- all frames were taken off
pub unwound-last : (old : List (Activity Position)) (a number : ℕ) (objects last : List Object) → None ≡ slice_get (frames_at old a) 0
    → last ≡ unwound objects (frames_at old a) number → last ≡ objects
unwound-last old a number objects last none come = come ∙ ap (λ (fs : List (Frame Position)). unwound objects fs number) (none-left (frames_at old a) none)

pub ended-last : (old next : List (Activity Position)) (a : ℕ) → None ≡ slice_get (frames_at old a) 0
    → next ≡ with_change_at old a (with_frames (drop 1 (frames_at old a)))
    → with_change_at next a (λ (x : Activity Position). waiting wait.Nothing x.frames) ≡ with_change_at old a ended
ended-last old next a none is =
    ap (λ (as_they : List (Activity Position)). with_change_at as_they a (λ (x : Activity Position). waiting wait.Nothing x.frames)) is
    ∙ change-twice old a (with_frames (drop 1 (frames_at old a))) (λ (x : Activity Position). waiting wait.Nothing x.frames)
    ∙ ap (λ (fs : List (Frame Position)). with_change_at old a (λ (x : Activity Position). waiting wait.Nothing (drop 1 fs))) (none-left (frames_at old a) none)

pub popped-shorter : (old next : List (Activity Position)) (a : ℕ) (frame : Frame Position) → Some frame ≡ slice_get (frames_at old a) 0
    → next ≡ with_change_at old a (with_frames (drop 1 (frames_at old a))) → length (frames_at next a) < length (frames_at old a)
popped-shorter old next a frame top is =
    let frames : frames_at old a ≡ frame ∷ drop 1 (frames_at old a) = first-of (frames_at old a) frame top in
    let rest : frames_at next a ≡ drop 1 (frames_at old a) =
    ap (λ (as_they : List (Activity Position)). frames_at as_they a) is ∙ popped-frames old a frame (drop 1 (frames_at old a)) frames in
    omega (arith, ap length rest, ap length frames)

-- ---- views

pub view-unwound : (objects : List Object) (frames : List (Frame Position)) (number : ℕ) (program : Package)
    → machine.unwound objects (frames_view (reading program) frames) number ≡ unwound objects frames number
view-unwound objects [] number program = refl
view-unwound objects (frame ∷ frames) number program = view-unwound (completed objects frame.completes (outcome.Failed number)) frames number program

pub view-ended : {T : Type 0} (read : Reading T) (activities : List (Activity Position)) (a : ℕ)
    → with_change_at (activities_view read activities) a (λ (x : Activity T). waiting wait.Nothing []) ≡ activities_view read (with_change_at activities a ended)
view-ended read activities a = view-changed read activities a ended _ (λ x. refl)

pub unwound-fits : (classes : List ClassDef) (objects : List Object) (frames : List (Frame Position)) (number : ℕ) → Fits classes objects
    → Fits classes (unwound objects frames number)
unwound-fits classes objects [] number fits = fits
unwound-fits classes objects (frame ∷ frames) number fits =
    unwound-fits classes (completed objects frame.completes (outcome.Failed number)) frames number
    (completed-fits classes objects frame.completes (outcome.Failed number) fits)

pub ended-codes : (program : Package) (activities : List (Activity Position)) (a : ℕ) → CodesFit program activities → CodesFit program (with_change_at activities a ended)
ended-codes program activities a fits =
    sym (view-ended (fixed_for_code program) activities a)
    ∙ ap (λ as_they. with_change_at as_they a (λ x. waiting wait.Nothing [])) fits
    ∙ view-ended (fixed_for_body program) activities a

-- ---- the world

objects-unwound : (objects : List Object) (stacks : List (Activity Position)) (a number : ℕ) (program : Package)
    → machine.unwound (completed objects (first_message (activity_at (activities_view (reading program) stacks) a)) (outcome.Failed number))
    (frames_at (activities_view (reading program) stacks) a) number
    ≡ unwound (completed objects (first_message (activity_at stacks a)) (outcome.Failed number)) (frames_at stacks a) number
objects-unwound objects stacks a number program =
    ap (λ (message : Option ℕ). machine.unwound (completed objects message (outcome.Failed number)) (frames_at (activities_view (reading program) stacks) a) number)
    (view-first (reading program) stacks a)
    ∙ ap (λ (fs : List (Frame Todo)). machine.unwound (completed objects (first_message (activity_at stacks a)) (outcome.Failed number)) fs number)
    (view-frames (reading program) stacks a)
    ∙ view-unwound (completed objects (first_message (activity_at stacks a)) (outcome.Failed number)) (frames_at stacks a) number program

-- an error was raised
pub raised-is : (w : World) (program : Package) (stacks after : List (Activity Position)) (objects : List Object) (notes : List Note) (main : Ending) (a number line : ℕ)
    → w.activities ≡ activities_view (reading program) stacks → after ≡ with_change_at stacks a ended
    → objects ≡ unwound (completed w.objects (first_message (activity_at stacks a)) (outcome.Failed number)) (frames_at stacks a) number
    → notes ≡ w.notes ++ Error number line a ∷ [] → main ≡ (if a == 1 then Failed number else w.main)
    → record w { objects = objects; activities = activities_view (reading program) after; notes = notes; main = main } ≡ machine.raised w a number line
unfolding machine.raised
raised-is w program stacks after objects notes main a number line are after_is objects_are notes_are main_is =
    let old : List (Activity Todo) = activities_view (reading program) stacks in
    let given : List (Activity Todo) → World = λ activities. record w {
      objects = machine.unwound (completed w.objects (first_message (activity_at activities a)) (outcome.Failed number)) (frames_at activities a) number;
      activities = with_change_at activities a machine.over;
      notes = w.notes ++ Error number line a ∷ [];
      main = if a == 1 then Failed number else w.main;
    } in
    ap (λ (as_they : List (Activity Position)). record w { objects = objects; activities = activities_view (reading program) as_they; notes = notes; main = main }) after_is
    ∙ ap (λ (as_they : List (Activity Todo)). record w { objects = objects; activities = as_they; notes = notes; main = main }) (sym (view-ended (reading program) stacks a))
    ∙ ap (λ (os : List Object). record w { objects = os; activities = with_change_at old a machine.over; notes = notes; main = main })
    (objects_are ∙ sym (objects-unwound w.objects stacks a number program))
    ∙ ap (λ (ns : List Note). record (given old) { notes = ns; main = main }) notes_are
    ∙ ap (λ (m : Ending). record (given old) { main = m }) main_is
    ∙ ap given (sym are)
