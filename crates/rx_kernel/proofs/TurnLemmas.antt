-- The frame on top goes on, waits, or takes its pool.
use Rattle.std.proofs.Common.{◌≡◌, ℕ, Bool, true, false, List, Option, Some, refl, sym, ◌∙◌, ap, subst}
use Rattle.std.specs.Bool.{OnFalse}
use Rattle.std.specs.Prelude.{IsTrue, option_map, slice_get}
use Rattle.rx_tree.specs.declared.activity.Awaited.{Awaited}
use Rattle.rx_clause_tree.specs.declared.package.Package.{Package}
use Rattle.rx_eval.specs.Bodies.{Body}
use Rattle.rx_eval.specs.Pauses.{Pause}
use Rattle.rx_frames.specs.declared.position.Position.{Position}
use Rattle.rx_frames.specs.Frames.{Frame}
use Rattle.rx_frames.specs.Activities.{Activity, IsBegun, frames_at, with_frame}
use Rattle.rx_machine.specs.Scenes.{body_of}
use Rattle.rx_machine.specs.Todo.{Todo}
use Rattle.rx_machine.specs.World.{World, with_top}
use Rattle.rx_kernel.specs.Readings.{CodesFit, fixed_for_body, fixed_for_code, reading}
use Rattle.rx_kernel.specs.Turning.{IsTop, awaiting, taken}
use Rattle.rx_kernel.specs.Views.{Reading, activities_view, frame_view}
use Rattle.rx_kernel.proofs.ChangeLemmas.{begun-still, view-top}
use Rattle.rx_kernel.proofs.ViewLemmas.{get-map, view-frames}

-- another frame is on top
pub top-world : (w : World) (program : Package) (stacks after : List (Activity Position)) (a : ℕ) (frame : Frame Position)
    → w.activities ≡ activities_view (reading program) stacks → after ≡ with_frame stacks a 0 frame
    → record w { activities = activities_view (reading program) after } ≡ with_top w a (frame_view (reading program) frame)
top-world w program stacks after a frame are is =
    ap (λ (as_they : List (Activity Position)). record w { activities = activities_view (reading program) as_they }) is
    ∙ ap (λ (as_they : List (Activity Todo)). record w { activities = as_they }) (sym (view-top (reading program) stacks a frame))
    ∙ ap (λ (as_they : List (Activity Todo)). record w { activities = with_frame as_they a 0 (frame_view (reading program) frame) }) (sym are)

-- its code is that of its body
pub top-codes : (program : Package) (old after : List (Activity Position)) (a : ℕ) (frame : Frame Position) → after ≡ with_frame old a 0 frame
    → frame_view (fixed_for_code program) frame ≡ frame_view (fixed_for_body program) frame → CodesFit program old → CodesFit program after
top-codes program old after a frame is same fits =
    subst (CodesFit program) (sym is)
    (sym (view-top (fixed_for_code program) old a frame)
    ∙ ap (λ (f : Frame Body). with_frame (activities_view (fixed_for_code program) old) a 0 f) same
    ∙ ap (λ (as_they : List (Activity Body)). with_frame as_they a 0 (frame_view (fixed_for_body program) frame)) fits
    ∙ view-top (fixed_for_body program) old a frame)

pub waits-in : (program : Package) (frame : Frame Position) (place : ℕ) (pause : Pause) (how : Awaited) → pause.code.body ≡ body_of program frame.body
    → frame_view (fixed_for_code program) (awaiting place pause how frame) ≡ frame_view (fixed_for_body program) (awaiting place pause how frame)
waits-in program frame place pause how is = ap (λ (body : Body). record (frame_view (fixed_for_body program) frame) { todo = body }) is

pub top-begun : (old after : List (Activity Position)) (a : ℕ) (frame : Frame Position) → after ≡ with_frame old a 0 frame → IsBegun old a → IsBegun after a
top-begun old after a frame is begun = subst (λ as_they. IsBegun as_they a) (sym is) (begun-still old a a _ begun)

-- the code that the frame on top goes on with is that of its body
pub top-fits : (program : Package) (old : List (Activity Position)) (a : ℕ) (frame : Frame Position) → IsTop old a frame → CodesFit program old
    → frame_view (fixed_for_code program) frame ≡ frame_view (fixed_for_body program) frame
top-fits program old a frame top fits =
    let by : Reading Body → Option (Frame Body) = λ read. slice_get (frames_at (activities_view read old) a) 0 in
    let at : (read : Reading Body) → Some (frame_view read frame) ≡ by read = λ read.
    ap (option_map (frame_view read)) (sym top) ∙ sym (get-map (frame_view read) (frames_at old a) 0)
    ∙ ap (λ (fs : List (Frame Body)). slice_get fs 0) (sym (view-frames read old a)) in
    let same : Some (frame_view (fixed_for_code program) frame) ≡ Some (frame_view (fixed_for_body program) frame) =
    at (fixed_for_code program) ∙ ap (λ (as_they : List (Activity Body)). slice_get (frames_at as_they a) 0) fits ∙ sym (at (fixed_for_body program)) in
    cc

takes-in : (program : Package) (frame : Frame Position) → frame_view (fixed_for_code program) frame ≡ frame_view (fixed_for_body program) frame
    → frame_view (fixed_for_code program) (taken frame) ≡ frame_view (fixed_for_body program) (taken frame)
takes-in program frame same = ap (λ (f : Frame Body). record f { asks = false; reserves = true }) same

-- so it is where it asked for its pool, and where it didn't
pub takes-codes : (program : Package) (old after : List (Activity Position)) (a : ℕ) (frame : Frame Position) (asked : Bool) → IsTop old a frame → CodesFit program old
    → (IsTrue asked → after ≡ with_frame old a 0 (taken frame)) → OnFalse asked (after ≡ old) → CodesFit program after
takes-codes program old after a frame true top fits takes same =
    top-codes program old after a (taken frame) (takes refl) (takes-in program frame (top-fits program old a frame top fits)) fits
takes-codes program old after a frame false top fits takes same = subst (CodesFit program) (sym same) fits

pub same-frame : (one other : Frame Position) (found : Option (Frame Position)) → Some one ≡ found → found ≡ Some other → one ≡ other
same-frame one other found first second = let same : Some one ≡ Some other = first ∙ second in cc
