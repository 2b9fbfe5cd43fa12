-- An activity's frames with the top last are its frames with the top first.
use Rattle.std.proofs.Common.{◌≡◌, ◌<◌, ℕ, zero, suc, ◌+◌, ◌-◌, Option, Some, None, List, [], ◌∷◌, ◌++◌, length, drop, reverse, get_or, refl, sym, ap, ◌∙◌, arith}
use Rattle.std.specs.Prelude.{slice_get, slice_set, option_to_list, MatchOption}
use Rattle.std.proofs.Math.Seq.{set-append_seam}
use Rattle.std.proofs.lemmas.Grind.{reverse_onto}
use Rattle.std.proofs.lemmas.List.{get_or-reverse, length-reverse, reverse-append, set-append_left}
use Rattle.std.proofs.lemmas.Option.{slice_get-get_or}
use Rattle.rx_frames.specs.declared.activity.Wait.{Wait as Given}
use Rattle.rx_frames.specs.declared.activity.Wait.TheVariants as given
use Rattle.rx_frames.specs.Frames.{Frame}
use Rattle.rx_frames.specs.Activities.{Activity, IsBegun, activity_at, frames_at, frames_of, waiting, with_change_at, with_change_of, with_frames}

pub waiting-frames : {T : Type 0} (wait : Given) (frames : List (Frame T)) → (waiting wait frames).frames ≡ frames
waiting-frames given.Nothing frames = refl
waiting-frames (given.First message) frames = refl
waiting-frames (given.Message message) frames = refl
waiting-frames given.Guard frames = refl
waiting-frames (given.NotLive message) frames = refl

waiting-with_frames : {T : Type 0} (wait : Given) (old new : List (Frame T)) → waiting wait new ≡ with_frames new (waiting wait old)
waiting-with_frames given.Nothing [] new = refl
waiting-with_frames given.Nothing (frame ∷ frames) new = refl
waiting-with_frames (given.First message) old new = refl
waiting-with_frames (given.Message message) old new = refl
waiting-with_frames given.Guard old new = refl
waiting-with_frames (given.NotLive message) old new = refl

waiting-set : {T : Type 0} (wait : Given) (frames : List (Frame T)) (down : ℕ) (w : Frame T)
    → waiting wait (slice_set frames down w) ≡ record (waiting wait frames) { frames = slice_set (waiting wait frames).frames down w }
waiting-set given.Nothing [] down w = refl
waiting-set given.Nothing (frame ∷ frames) zero w = refl
waiting-set given.Nothing (frame ∷ frames) (suc down) w = refl
waiting-set (given.First message) frames down w = refl
waiting-set (given.Message message) frames down w = refl
waiting-set given.Guard frames down w = refl
waiting-set (given.NotLive message) frames down w = refl

pub waiting-length : {T : Type 0} (wait : Given) (items : List (Frame T)) (old : Activity T) → waiting wait (reverse items) ≡ old → length items ≡ length old.frames
waiting-length wait items old is = sym (length-reverse items) ∙ ap length (sym (waiting-frames wait (reverse items))) ∙ ap (λ a. length a.frames) is

-- ---- one frame more, one less

pub waiting-pushed : {T : Type 0} (wait : Given) (items new : List (Frame T)) (frame : Frame T) (old : Activity T)
    → waiting wait (reverse items) ≡ old → new ≡ items ++ frame ∷ [] → waiting wait (reverse new) ≡ with_frames (frame ∷ old.frames) old
waiting-pushed wait items new frame old is pushed =
    ap (λ fs. waiting wait (reverse fs)) pushed
    ∙ ap (waiting wait) (reverse-append items (frame ∷ []))
    ∙ waiting-with_frames wait (reverse items) (frame ∷ reverse items)
    ∙ ap (λ fs. with_frames (frame ∷ fs) (waiting wait (reverse items))) (sym (waiting-frames wait (reverse items)))
    ∙ ap (λ a. with_frames (frame ∷ a.frames) a) is

-- nothing was taken from no items, or the last one from some
pub waiting-popped : {T : Type 0} (wait : Given) (items new : List (Frame T)) (result : Option (Frame T)) (old : Activity T) (last : ℕ)
    → waiting wait (reverse items) ≡ old → items ≡ new ++ option_to_list result → last ≡ length new
    → MatchOption result (last ≡ 0) (λ frame. Unit {0}) → waiting wait (reverse new) ≡ with_frames (drop 1 old.frames) old
waiting-popped wait items [] None old last is left number found =
    waiting-with_frames wait [] []
    ∙ ap (λ fs. with_frames (drop 1 fs) (waiting wait [])) (sym (waiting-frames wait []))
    ∙ ap (λ fs. with_frames (drop 1 (waiting wait (reverse fs)).frames) (waiting wait (reverse fs))) (sym left)
    ∙ ap (λ a. with_frames (drop 1 a.frames) a) is
waiting-popped wait items (frame ∷ frames) None old last is left number found =
    let e : 0 ≡ suc (length frames) = sym found ∙ number in cc
waiting-popped wait items new (Some frame) old last is left number found =
    waiting-with_frames wait (frame ∷ reverse new) (reverse new)
    ∙ ap (λ fs. with_frames (drop 1 fs) (waiting wait (frame ∷ reverse new))) (sym (waiting-frames wait (frame ∷ reverse new)))
    ∙ ap (λ fs. with_frames (drop 1 (waiting wait fs).frames) (waiting wait fs)) (sym (ap reverse left ∙ reverse-append new (frame ∷ [])))
    ∙ ap (λ a. with_frames (drop 1 a.frames) a) is

-- ---- a frame that is written

set-reverse : {A : Type 0} (xs : List A) (place down : ℕ) (w : A) → place + down + 1 ≡ length xs → reverse (slice_set xs place w) ≡ slice_set (reverse xs) down w
set-reverse [] place down w fits = let e : suc (place + down) ≡ 0 = omega arith in cc
set-reverse (x ∷ xs) zero down w fits =
    let e : length (reverse xs) ≡ down = omega (arith, length-reverse xs) in
    reverse_onto xs w []
    ∙ sym (set-append_seam (reverse xs) x [] w)
    ∙ ap (λ n. slice_set (reverse xs ++ x ∷ []) n w) e
    ∙ ap (λ ys. slice_set ys down w) (sym (reverse_onto xs x []))
set-reverse (x ∷ xs) (suc place) down w fits =
    let e : place + down + 1 ≡ length xs = omega arith in
    let below : down < length (reverse xs) = omega (arith, length-reverse xs) in
    reverse_onto (slice_set xs place w) x []
    ∙ ap (λ ys. ys ++ x ∷ []) (set-reverse xs place down w e)
    ∙ sym (set-append_left (reverse xs) (x ∷ []) down w below)
    ∙ ap (λ ys. slice_set ys down w) (sym (reverse_onto xs x []))

abbrev with_written : {T : Type 0} → ℕ → Frame T → Activity T → Activity T
with_written down w activity = record activity { frames = slice_set activity.frames down w }

pub waiting-written : {T : Type 0} (wait : Given) (items : List (Frame T)) (old : Activity T) (size down : ℕ) (w : Frame T)
    → waiting wait (reverse items) ≡ old → down < length old.frames → size ≡ length items
    → waiting wait (reverse (slice_set items (size - 1 - down) w)) ≡ record old { frames = slice_set old.frames down w }
waiting-written wait items old size down w is within counted =
    let below : down < length (reverse items) = rw (← waiting-frames wait (reverse items), is) within in
    ap (waiting wait) (set-reverse items (size - 1 - down) down w (omega (arith, length-reverse items)))
    ∙ waiting-set wait (reverse items) down w
    ∙ ap (with_written down w) is

pub waiting-read : {T : Type 0} (wait : Given) (items : List (Frame T)) (old : Activity T) (size down : ℕ) (x : Frame T)
    → waiting wait (reverse items) ≡ old → down < length old.frames → size ≡ length items → x ≡ get_or items (size - 1 - down) x
    → slice_get old.frames down ≡ Some x
waiting-read wait items old size down x is within counted there =
    let below : down < length (reverse items) = rw (← waiting-frames wait (reverse items), is) within in
    ap (λ a. slice_get a.frames down) (sym is)
    ∙ ap (λ fs. slice_get fs down) (waiting-frames wait (reverse items))
    ∙ slice_get-get_or (reverse items) down x below
    ∙ ap (λ f. Some f) (get_or-reverse items down x (omega (arith, length-reverse items)) ∙ ap (λ n. get_or items (n - 1 - down) x) (sym counted) ∙ sym there)

-- ---- a variable that is set

abbrev with_changed : {T : Type 0} → Activity T → ℕ → (Frame T → Frame T) → Option (Frame T) → Activity T
with_changed activity down change frame = record activity { frames = with_change_of activity.frames down change frame }

pub waiting-valued : {T : Type 0} (wait : Given) (items : List (Frame T)) (old : Activity T) (place down : ℕ) (x new : Frame T) (change : Frame T → Frame T)
    → waiting wait (reverse items) ≡ old → place + down + 1 ≡ length items → x ≡ get_or items place x → new ≡ change x
    → waiting wait (reverse (slice_set items place new)) ≡ record old { frames = with_change_of old.frames down change (slice_get old.frames down) }
waiting-valued wait items old place down x new change is fits there changed =
    let at : length items - 1 - down ≡ place = omega arith in
    let found : slice_get (waiting wait (reverse items)).frames down ≡ Some x =
    ap (λ fs. slice_get fs down) (waiting-frames wait (reverse items))
    ∙ slice_get-get_or (reverse items) down x (omega (arith, length-reverse items))
    ∙ ap (λ f. Some f) (get_or-reverse items down x (omega arith) ∙ ap (λ n. get_or items n x) at ∙ sym there) in
    ap (waiting wait) (set-reverse items place down new fits)
    ∙ waiting-set wait (reverse items) down new
    ∙ ap (λ f. with_written down f (waiting wait (reverse items))) changed
    ∙ ap (with_changed (waiting wait (reverse items)) down change) (sym found)
    ∙ ap (λ a. with_changed a down change (slice_get a.frames down)) is

-- ---- an activity by its number

pub activity_at-begun : {T : Type 0} (items old : List (Activity T)) (a : ℕ) (x : Activity T)
    → items ≡ old → IsBegun old a → x ≡ get_or items (a - 1) x → activity_at old a ≡ Some x
activity_at-begun items old zero x is begun there = absurd (omega (arith, begun.0))
activity_at-begun items old (suc place) x is begun there =
    let e : suc place - 1 ≡ place = omega arith in
    slice_get-get_or old place x (omega (arith, begun.1))
    ∙ ap (λ f. Some f) (ap (λ xs. get_or xs place x) (sym is) ∙ ap (λ n. get_or items n x) (sym e) ∙ sym there)

pub frames_at-begun : {T : Type 0} (items old : List (Activity T)) (a : ℕ) (x : Activity T)
    → items ≡ old → IsBegun old a → x ≡ get_or items (a - 1) x → frames_at old a ≡ x.frames
frames_at-begun items old a x is begun there = ap frames_of (activity_at-begun items old a x is begun there)

pub with_change_at-begun : {T : Type 0} (items old : List (Activity T)) (a : ℕ) (x new : Activity T) (change : Activity T → Activity T)
    → items ≡ old → IsBegun old a → x ≡ get_or items (a - 1) x → new ≡ change x → slice_set items (a - 1) new ≡ with_change_at old a change
with_change_at-begun items old zero x new change is begun there changed = absurd (omega (arith, begun.0))
with_change_at-begun items old (suc place) x new change is begun there changed =
    let e : suc place - 1 ≡ place = omega arith in
    let found : slice_get old place ≡ Some x = activity_at-begun items old (suc place) x is begun there in
    ap (λ n. slice_set items n new) e
    ∙ ap (λ xs. slice_set xs place new) is
    ∙ ap (λ y. slice_set old place y) changed
    ∙ rw found refl
