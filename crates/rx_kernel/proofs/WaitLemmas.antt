-- What the activities wait for, one by one.
use Rattle.std.proofs.Common.{◌≡◌, ℕ, ◌+◌, ◌<◌, ◌≤◌, Bool, true, false, List, [], ◌∷◌, ◌++◌, drop, length, Option, None, Some, refl, sym, ◌∙◌, ap, add-one}
use Rattle.std.specs.Prelude.{if◌then◌else◌, option_map, slice_get}
use Rattle.std.proofs.Math.ListN.{drop_of_length-le}
use Rattle.std.proofs.lemmas.List.{append-nil}
use Rattle.rx_tree.specs.declared.class.ClassDef.{ClassDef}
use Rattle.rx_frames.specs.declared.activity.Look.{Look}
use Rattle.rx_frames.specs.declared.activity.Look.TheVariants as look
use Rattle.rx_frames.specs.declared.parts.Own.{Own}
use Rattle.rx_frames.specs.declared.position.Position.{Position}
use Rattle.rx_frames.specs.Frames.{Frame}
use Rattle.rx_frames.specs.Activities.{Activity, State, NotLive, Live, Over, Wait, Nothing, First, Message, Guard, activity_at, asked, frames_at, frames_of, look_by, seen, seen_of}
use Rattle.rx_machine.specs.declared.waits.Cause.{Cause}
use Rattle.rx_machine.specs.declared.waits.WaitRow.{WaitRow}
use Rattle.rx_machine.specs.Enabled.{holder_before, holder_from, holder_of, is_live}
use Rattle.rx_machine.specs.End.{cause_by, cause_of, row_before, waits, waits_from}
use Rattle.rx_machine.specs.Todo.{Todo}
use Rattle.rx_machine.specs.World.{World}
use Rattle.rx_kernel.specs.Views.{Reading, activities_view, activity_view}
use Rattle.rx_kernel.specs.Waiting.{cause_at, cause_if, own_if, row_at}
use Rattle.rx_kernel.proofs.PickLemmas.{IsIn, asked-view, is-in}
use Rattle.rx_kernel.proofs.ViewLemmas.{view-at}

-- ---- the cause of one

-- what is waited for, by what is seen and the own object, scope and pool of the frame on top
abbrev pub cause_seen : World → ℕ → Option Own → Look → Option Cause
cause_seen w a own (look.Asks pool) = cause_by w.program.classes own (holder_from 1 w.activities a pool)
cause_seen w a own _ = None

cause-with : (w : World) (a : ℕ) (state : State) (own top : Option Own) (wait : Wait) → ((one : Own) → own ≡ Some one → top ≡ Some one)
    → (if is_live state then cause_by w.program.classes own (holder_of w.activities a own) else None) ≡ cause_seen w a top (look_by state own wait)
cause-with w a NotLive own top wait same = refl
cause-with w a Live (Some own) top wait same =
    ap (λ (one : Option Own). cause_by w.program.classes one (holder_from 1 w.activities a own.pool)) (sym (same own refl))
cause-with w a Live None top Nothing same = refl
cause-with w a Live None top (First message) same = refl
cause-with w a Live None top (Message message) same = refl
cause-with w a Live None top Guard same = refl
cause-with w a Over own top wait same = refl

if-own : (asks : Bool) (own : Option Own) (one : Own) → (if asks then own else None) ≡ Some one → own ≡ Some one
if-own true own one is = is
if-own false own one is = cc

-- what the frame on top asks for is its own
asked-own : (frames : List (Frame Position)) (one : Own) → asked frames ≡ Some one → own_if (slice_get frames 0) ≡ Some one
asked-own [] one is = cc
asked-own (frame ∷ frames) one is = if-own frame.asks frame.own one is

cause-seen-if : (w : World) (a : ℕ) (read : Reading Todo) (found : Option (Activity Position))
    → cause_if w a (option_map (activity_view read) found) ≡ cause_seen w a (own_if (slice_get (frames_of found) 0)) (seen_of found)
unfolding holder_before
cause-seen-if w a read None = refl
cause-seen-if w a read (Some activity) =
    ap (λ (own : Option Own). if is_live activity.state then cause_by w.program.classes own (holder_of w.activities a own) else None) (asked-view read activity.frames)
    ∙ cause-with w a activity.state (asked activity.frames) (own_if (slice_get activity.frames 0)) activity.wait (asked-own activity.frames)

pub cause-by : (w : World) (a : ℕ) (read : Reading Todo) (stacks : List (Activity Position)) (one : Look) → w.activities ≡ activities_view read stacks
    → one ≡ seen_of (activity_at stacks a) → cause_seen w a (own_if (slice_get (frames_at stacks a) 0)) one ≡ cause_at w a
cause-by w a read stacks one are is =
    ap (cause_seen w a (own_if (slice_get (frames_at stacks a) 0))) is ∙ sym (cause-seen-if w a read (activity_at stacks a))
    ∙ ap (cause_if w a) (sym (view-at read stacks a)) ∙ ap (λ (xs : List (Activity Todo)). cause_if w a (activity_at xs a)) (sym are)

-- where no other holds the pool, nothing is waited for
pub cause-none : (classes : List ClassDef) (own : Option Own) (holder : Option ℕ) → None ≡ holder → cause_by classes own holder ≡ None
cause-none classes None holder is = refl
cause-none classes (Some own) holder is = ap (cause_by classes (Some own)) (sym is)

-- ---- the rows of all

row-first : (w : World) (a : ℕ) (live : Bool) (cause : Option Cause) (rows : List WaitRow)
    → (if live then row_before a cause rows else rows) ≡ row_before a (if live then cause else None) [] ++ rows
row-first w a true None rows = refl
row-first w a true (Some cause) rows = refl
row-first w a false cause rows = refl

waits-here : (w : World) (place : ℕ) → place < length w.activities
    → waits_from w (place + 1) (drop place w.activities) ≡ row_at w (place + 1) ++ waits_from w (place + 1 + 1) (drop (place + 1) w.activities)
waits-here w place within =
    let it : IsIn w.activities place = is-in w.activities place within in
    let cause : cause_at w (place + 1) ≡ cause_if w (place + 1) (Some it.item) =
    ap (λ (n : ℕ). cause_if w (place + 1) (activity_at w.activities n)) (add-one place) ∙ ap (cause_if w (place + 1)) it.at in
    ap (λ (ys : List (Activity Todo)). waits_from w (place + 1) ys) (it.here ∙ ap (λ (n : ℕ). it.item ∷ drop n w.activities) (sym (add-one place)))
    ∙ row-first w (place + 1) (is_live it.item.state) (cause_of w (place + 1) it.item) (waits_from w (place + 1 + 1) (drop (place + 1) w.activities))
    ∙ ap (λ (one : Option Cause). row_before (place + 1) one [] ++ waits_from w (place + 1 + 1) (drop (place + 1) w.activities)) (sym cause)

append-assoc : {A : Type 0} (xs ys zs : List A) → (xs ++ ys) ++ zs ≡ xs ++ (ys ++ zs)
append-assoc [] ys zs = refl
append-assoc {A} (x ∷ xs) ys zs = ap (λ (rest : List A). x ∷ rest) (append-assoc xs ys zs)

-- one more has its row
pub rows-here : (w : World) (place : ℕ) (rows more : List WaitRow) → place < length w.activities → more ≡ rows ++ row_at w (place + 1)
    → more ++ waits_from w (place + 1 + 1) (drop (place + 1) w.activities) ≡ rows ++ waits_from w (place + 1) (drop place w.activities)
rows-here w place rows more within is =
    ap (λ (some : List WaitRow). some ++ waits_from w (place + 1 + 1) (drop (place + 1) w.activities)) is
    ∙ append-assoc rows (row_at w (place + 1)) (waits_from w (place + 1 + 1) (drop (place + 1) w.activities))
    ∙ ap (λ (some : List WaitRow). rows ++ some) (sym (waits-here w place within))

-- all have theirs
pub rows-end : (w : World) (place : ℕ) (rows : List WaitRow) → length w.activities ≤ place
    → rows ++ waits_from w (place + 1) (drop place w.activities) ≡ rows
rows-end w place rows past =
    ap (λ (ys : List (Activity Todo)). rows ++ waits_from w (place + 1) ys) (drop_of_length-le w.activities past) ∙ append-nil rows

pub rows-begin : (w : World) (rows : List WaitRow) → rows ≡ [] → rows ++ waits_from w 1 w.activities ≡ waits w
unfolding waits
rows-begin w rows is = ap (λ (some : List WaitRow). some ++ waits_from w 1 w.activities) is

-- one that doesn't wait has no row
pub row-none : (w : World) (a : ℕ) (rows : List WaitRow) → None ≡ cause_at w a → rows ≡ rows ++ row_at w a
row-none w a rows is = sym (append-nil rows) ∙ ap (λ (one : Option Cause). rows ++ row_before a one []) is
