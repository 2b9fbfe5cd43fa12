-- Frames that end.
use Rattle.std.proofs.Common.{◌≡◌, ℕ, List, [], ◌∷◌, drop, Option, refl, sym, ◌∙◌, ap}
use Rattle.std.specs.Prelude.{◌==◌, if◌then◌else◌}
use Rattle.rx_tree.specs.Object.{Object}
use Rattle.rx_tree.specs.declared.activity.Outcome.TheVariants as outcome
use Rattle.rx_tree.specs.declared.value.Value.{Value}
use Rattle.rx_clause_tree.specs.declared.package.Package.{Package}
use Rattle.rx_eval.specs.Bodies.{Body}
use Rattle.rx_native.specs.Outcomes.{or_nil}
use Rattle.rx_frames.specs.declared.position.Position.{Position}
use Rattle.rx_frames.specs.Frames.{Frame, positions}
use Rattle.rx_frames.specs.Activities.{Activity, frames_at, frames_of, with_change_at, with_frames}
use Rattle.rx_sends.specs.Sending.{answered_above, completed}
use Rattle.rx_machine.specs.Ending.{ended, ending_of, handed, without_top}
use Rattle.rx_machine.specs.Todo.{Todo, by_clauses}
use Rattle.rx_machine.specs.World.{World, Ending}
use Rattle.rx_kernel.specs.Endings.{given_by, handed_to, main_with}
use Rattle.rx_kernel.specs.Readings.{CodesFit, by_bodies, fixed_for_body, fixed_for_code, reading}
use Rattle.rx_kernel.specs.Views.{Reading, activities_view, activity_view, frame_view, frames_view}
use Rattle.rx_kernel.proofs.ChangeLemmas.{change-same}
use Rattle.rx_kernel.proofs.ReadingLemmas.{body-is, code-is, reading-is}
use Rattle.rx_kernel.proofs.ViewLemmas.{answered-view, drop-map, frames-view, view-changed, view-frames}

-- ---- the top frame is taken off

abbrev pub popped : List (Activity Position) → ℕ → List (Activity Position)
popped activities a = with_change_at activities a (with_frames (drop 1 (frames_at activities a)))

popped-one : (old : List (Activity Position)) (a : ℕ) → with_change_at old a (λ (x : Activity Position). with_frames (drop 1 x.frames) x) ≡ popped old a
popped-one old a = change-same old a _ _ (λ x at. ap (λ (found : Option (Activity Position)). with_frames (drop 1 (frames_of found)) x) (sym at))

pub view-popped : {T : Type 0} (read : Reading T) (old : List (Activity Position)) (a : ℕ)
    → with_change_at (activities_view read old) a (λ (x : Activity T). with_frames (drop 1 x.frames) x) ≡ activities_view read (popped old a)
view-popped {T} read old a =
    view-changed read old a (λ (x : Activity Position). with_frames (drop 1 x.frames) x) (λ (x : Activity T). with_frames (drop 1 x.frames) x)
    (λ x. ap (λ (fs : List (Frame T)). with_frames fs (activity_view read x)) (drop-map (frame_view read) 1 x.frames) ∙ frames-view read (drop 1 x.frames) x)
    ∙ ap (activities_view read) (popped-one old a)

pub popped-codes : (program : Package) (old : List (Activity Position)) (a : ℕ) → CodesFit program old → CodesFit program (popped old a)
popped-codes program old a fits =
    sym (view-popped (fixed_for_code program) old a)
    ∙ ap (λ (as_they : List (Activity Body)). with_change_at as_they a (λ (x : Activity Body). with_frames (drop 1 x.frames) x)) fits
    ∙ view-popped (fixed_for_body program) old a

-- ---- the frame beneath has the value

pub answered-codes : (program : Package) (old : List (Activity Position)) (a : ℕ) (value : Option Value) → CodesFit program old
    → CodesFit program (answered_above positions old a value)
answered-codes program old a value fits =
    sym (answered-view (by_bodies program) (fixed_for_code program) (code-is program) old a value)
    ∙ ap (λ (as_they : List (Activity Body)). answered_above (by_bodies program) as_they a value) fits
    ∙ answered-view (by_bodies program) (fixed_for_body program) (body-is program) old a value

pub handed-codes : (program : Package) (old : List (Activity Position)) (a : ℕ) (value : Option Value) (frames : List (Frame Position)) → CodesFit program old
    → CodesFit program (handed_to old a value frames)
handed-codes program old a value [] fits = fits
handed-codes program old a value (frame ∷ frames) fits = answered-codes program old a value fits

-- ---- the world

handed-by : (w : World) (program : Package) (stacks : List (Activity Position)) (a : ℕ) (value : Option Value) (frames : List (Frame Position)) → w.program ≡ program
    → w.activities ≡ activities_view (reading program) stacks
    → record w { activities = activities_view (reading program) (handed_to stacks a value frames); main = main_with frames a value w.main }
    ≡ handed w a value (frames_view (reading program) frames)
handed-by w program stacks a value [] is are = ap (λ (as_they : List (Activity Todo)). record w { activities = as_they; main = if a == 1 then ending_of value else w.main }) (sym are)
handed-by w program stacks a value (frame ∷ frames) is are =
    ap (λ (as_they : List (Activity Todo)). record w { activities = as_they }) (sym (answered-view (by_clauses program) (reading program) (reading-is program) stacks a value))
    ∙ ap (λ (as_they : List (Activity Todo)). record w { activities = answered_above (by_clauses program) as_they a value }) (sym are)
    ∙ ap (λ (p : Package). record w { activities = answered_above (by_clauses p) w.activities a value }) (sym is)

-- a frame has ended
pub ended-is : (w : World) (program : Package) (stacks after last : List (Activity Position)) (objects : List Object) (main : Ending) (a : ℕ)
    (frame : Frame Position) (value given : Option Value) → w.program ≡ program → w.activities ≡ activities_view (reading program) stacks → after ≡ popped stacks a
    → given ≡ given_by frame value → objects ≡ completed w.objects frame.completes (outcome.Given (or_nil given))
    → last ≡ handed_to after a given (frames_at after a) → main ≡ main_with (frames_at after a) a given w.main
    → record w { objects = objects; activities = activities_view (reading program) last; main = main } ≡ ended w a (frame_view (reading program) frame) value
unfolding ended
ended-is w program stacks after last objects main a frame value given is are after_is given_is objects_are last_is main_is =
    let old : List (Activity Todo) = activities_view (reading program) stacks in
    let mid : World = record w { objects = objects; activities = activities_view (reading program) after } in
    let by : Option Value → List (Activity Todo) → World = λ v activities.
    let next : World = record w { objects = completed w.objects frame.completes (outcome.Given (or_nil v)); activities = activities } in
    handed next a v (frames_at next.activities a) in
    ap (λ (as_they : List (Activity Position)). record w { objects = objects; activities = activities_view (reading program) as_they; main = main }) last_is
    ∙ ap (λ (m : Ending). record w { objects = objects; activities = activities_view (reading program) (handed_to after a given (frames_at after a)); main = m }) main_is
    ∙ handed-by mid program after a given (frames_at after a) is refl
    ∙ ap (handed mid a given) (sym (view-frames (reading program) after a))
    ∙ ap (λ (os : List Object). handed (record w { objects = os; activities = activities_view (reading program) after }) a given (frames_at (activities_view (reading program) after) a)) objects_are
    ∙ ap (λ (as_they : List (Activity Position)). by given (activities_view (reading program) as_they)) after_is
    ∙ ap (by given) (sym (view-popped (reading program) stacks a))
    ∙ ap (λ (as_they : List (Activity Todo)). by given (with_change_at as_they a without_top)) (sym are)
    ∙ ap (λ (v : Option Value). by v (with_change_at w.activities a without_top)) given_is
