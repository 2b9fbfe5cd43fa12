-- Changes of the frame on top of an activity.
use Rattle.std.proofs.Common.{◌≡◌, ℕ, zero, suc, Bool, true, false, List, [], ◌∷◌, Option, None, Some, refl, sym, ◌∙◌, ap}
use Rattle.std.specs.Bool.{OnFalse}
use Rattle.std.specs.Prelude.{slice_get, slice_set}
use Rattle.rx_vars.specs.Variables.{Variables}
use Rattle.rx_frames.specs.declared.position.Position.{Position}
use Rattle.rx_frames.specs.Frames.{Frame}
use Rattle.rx_frames.specs.Activities.{Activity, activity_at, frames_at, frames_of, with_change_at, with_change_of, with_frame, with_top_changed}
use Rattle.rx_kernel.proofs.ChangeLemmas.{change-same}

set-same : {A : Type 0} (xs : List A) (i : ℕ) (x : A) → slice_get xs i ≡ Some x → slice_set xs i x ≡ xs
set-same [] i x is = refl
set-same (y ∷ xs) zero x is = let same : x ≡ y = cc (is) in ap (λ z. z ∷ xs) same
set-same (y ∷ xs) (suc i) x is = ap (λ ys. y ∷ ys) (set-same xs i x is)

nothing-of : {T : Type 0} (old : List (Activity T)) (place : ℕ) (found : Option (Activity T)) → slice_get old place ≡ found
    → with_change_of old place (λ (x : Activity T). x) found ≡ old
nothing-of old place None is = refl
nothing-of old place (Some x) is = set-same old place x is

change-nothing : {T : Type 0} (old : List (Activity T)) (a : ℕ) → with_change_at old a (λ (x : Activity T). x) ≡ old
change-nothing old zero = refl
change-nothing old (suc place) = nothing-of old place (slice_get old place) refl

-- the frame on top of the activity that is there
top-there : {T : Type 0} (old : List (Activity T)) (a : ℕ) (x : Activity T) (top : Option (Frame T)) → slice_get (frames_at old a) 0 ≡ top
    → activity_at old a ≡ Some x → slice_get x.frames 0 ≡ top
top-there {T} old a x top is there = ap (λ (found : Option (Activity T)). slice_get (frames_of found) 0) (sym there) ∙ is

-- the same frame is on top
pub top-same : {T : Type 0} (old : List (Activity T)) (a : ℕ) (frame : Frame T) → slice_get (frames_at old a) 0 ≡ Some frame → with_frame old a 0 frame ≡ old
top-same {T} old a frame is =
    change-same old a (λ (x : Activity T). record x { frames = slice_set x.frames 0 frame }) (λ (x : Activity T). x)
    (λ x there. ap (λ (fs : List (Frame T)). record x { frames = fs }) (set-same x.frames 0 frame (top-there old a x (Some frame) is there)))
    ∙ change-nothing old a

-- its variables are the same
pub top-kept : (old : List (Activity Position)) (a : ℕ) (frame : Frame Position) (variables : Variables) → slice_get (frames_at old a) 0 ≡ Some frame
    → variables ≡ frame.variables → with_frame old a 0 (record frame { variables = variables }) ≡ old
top-kept old a frame variables there is =
    ap (λ (vs : Variables). with_frame old a 0 (record frame { variables = vs })) is ∙ top-same old a frame there

-- there is no frame
pub top-none : {T : Type 0} (old : List (Activity T)) (a : ℕ) (change : Frame T → Frame T) → slice_get (frames_at old a) 0 ≡ None
    → with_change_at old a (with_top_changed change) ≡ old
top-none {T} old a change is =
    change-same old a (with_top_changed change) (λ (x : Activity T). x)
    (λ x there. ap (λ (found : Option (Frame T)). record x { frames = with_change_of x.frames 0 change found }) (top-there old a x None is there))
    ∙ change-nothing old a

pub OnFalse-map : (b : Bool) (P Q : Type 0) → (P → Q) → OnFalse b P → OnFalse b Q
OnFalse-map true P Q f h = tt
OnFalse-map false P Q f h = f h
