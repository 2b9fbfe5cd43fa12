-- Activities of which one has changed.
use Rattle.std.proofs.Common.{◌≡◌, ℕ, zero, suc, ◌≤◌, List, [], ◌∷◌, length, Option, None, Some, refl, sym, ◌∙◌, ap, subst}
use Rattle.std.specs.Prelude.{option_map, slice_get, slice_set}
use Rattle.rx_frames.specs.Frames.{Frame}
use Rattle.rx_frames.specs.Activities.{Activity, IsBegun, activity_at, with_change_at, with_change_of, with_frame}
use Rattle.rx_frames.specs.declared.position.Position.{Position}
use Rattle.rx_kernel.specs.Views.{Reading, activities_view, activity_view, frame_view}
use Rattle.rx_kernel.proofs.ViewLemmas.{set-map, view-changed}

-- ---- lists

pub get-set : {A : Type 0} (xs : List A) (i : ℕ) (x u : A) → slice_get xs i ≡ Some x → slice_get (slice_set xs i u) i ≡ Some u
get-set [] i x u is = cc
get-set (y ∷ xs) zero x u is = refl
get-set (y ∷ xs) (suc i) x u is = get-set xs i x u is

pub set-twice : {A : Type 0} (xs : List A) (i : ℕ) (u v : A) → slice_set (slice_set xs i u) i v ≡ slice_set xs i v
set-twice [] i u v = refl
set-twice (x ∷ xs) zero u v = refl
set-twice (x ∷ xs) (suc i) u v = ap (λ ys. x ∷ ys) (set-twice xs i u v)

pub set-length : {A : Type 0} (xs : List A) (i : ℕ) (u : A) → length (slice_set xs i u) ≡ length xs
set-length [] i u = refl
set-length (x ∷ xs) zero u = refl
set-length (x ∷ xs) (suc i) u = ap suc (set-length xs i u)

-- ---- changes of one activity

twice-of : {T : Type 0} (old : List (Activity T)) (place : ℕ) (first second : Activity T → Activity T) (found : Option (Activity T)) → slice_get old place ≡ found
    → with_change_of (with_change_of old place first found) place second (slice_get (with_change_of old place first found) place)
    ≡ with_change_of old place (λ (x : Activity T). second (first x)) found
twice-of old place first second None is = ap (with_change_of old place second) is
twice-of old place first second (Some x) is =
    ap (with_change_of (slice_set old place (first x)) place second) (get-set old place x (first x) is) ∙ set-twice old place (first x) (second (first x))

-- two changes of one activity are one
pub change-twice : {T : Type 0} (old : List (Activity T)) (a : ℕ) (first second : Activity T → Activity T)
    → with_change_at (with_change_at old a first) a second ≡ with_change_at old a (λ (x : Activity T). second (first x))
change-twice old zero first second = refl
change-twice old (suc place) first second = twice-of old place first second (slice_get old place) refl

same-of : {T : Type 0} (old : List (Activity T)) (place : ℕ) (one other : Activity T → Activity T) (found : Option (Activity T))
    → ((x : Activity T) → found ≡ Some x → one x ≡ other x) → with_change_of old place one found ≡ with_change_of old place other found
same-of old place one other None same = refl
same-of old place one other (Some x) same = ap (slice_set old place) (same x refl)

-- changes that do the same to the activity that is there
pub change-same : {T : Type 0} (old : List (Activity T)) (a : ℕ) (one other : Activity T → Activity T)
    → ((x : Activity T) → activity_at old a ≡ Some x → one x ≡ other x) → with_change_at old a one ≡ with_change_at old a other
change-same old zero one other same = refl
change-same old (suc place) one other same = same-of old place one other (slice_get old place) same

length-of : {T : Type 0} (old : List (Activity T)) (place : ℕ) (change : Activity T → Activity T) (found : Option (Activity T))
    → length (with_change_of old place change found) ≡ length old
length-of old place change None = refl
length-of old place change (Some x) = set-length old place (change x)

-- as many activities are there
pub change-length : {T : Type 0} (old : List (Activity T)) (a : ℕ) (change : Activity T → Activity T) → length (with_change_at old a change) ≡ length old
change-length old zero change = refl
change-length old (suc place) change = length-of old place change (slice_get old place)

pub begun-still : {T : Type 0} (old : List (Activity T)) (a b : ℕ) (change : Activity T → Activity T) → IsBegun old b → IsBegun (with_change_at old a change) b
begun-still old a b change begun = (begun.0, subst (λ n. b ≤ n) (sym (change-length old a change)) begun.1)

at-of : {T : Type 0} (old : List (Activity T)) (place : ℕ) (change : Activity T → Activity T) (found : Option (Activity T)) → slice_get old place ≡ found
    → slice_get (with_change_of old place change found) place ≡ option_map change found
at-of old place change None is = is
at-of old place change (Some x) is = get-set old place x (change x) is

-- the activity that was changed
pub changed-at : {T : Type 0} (old : List (Activity T)) (a : ℕ) (change : Activity T → Activity T)
    → activity_at (with_change_at old a change) a ≡ option_map change (activity_at old a)
changed-at old zero change = refl
changed-at old (suc place) change = at-of old place change (slice_get old place) refl

-- ---- the frame on top

pub view-top : {T : Type 0} (read : Reading T) (activities : List (Activity Position)) (a : ℕ) (frame : Frame Position)
    → with_frame (activities_view read activities) a 0 (frame_view read frame) ≡ activities_view read (with_frame activities a 0 frame)
view-top {T} read activities a frame =
    view-changed read activities a (λ (x : Activity Position). record x { frames = slice_set x.frames 0 frame })
    (λ (x : Activity T). record x { frames = slice_set x.frames 0 (frame_view read frame) })
    (λ x. ap (λ (fs : List (Frame T)). record (activity_view read x) { frames = fs }) (set-map (frame_view read) x.frames 0 frame))
