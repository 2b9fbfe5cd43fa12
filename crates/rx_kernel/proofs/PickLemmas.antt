-- Activities and frames, one by one: who holds a pool, and who may step.
use Rattle.std.proofs.Common.{◌≡◌, ℕ, zero, suc, ◌+◌, ◌<◌, ◌≤◌, Bool, true, false, cond, not, List, [], ◌∷◌, drop, length, Option, None, Some, refl, sym, ◌∙◌, ap, arith, add-one, nat_lt}
use Rattle.std.specs.Prelude.{◌==◌, ◌&&◌, ◌||◌, is_none, option_map, slice_get}
use Rattle.std.proofs.Math.ListN.{drop_of_length-le}
use Rattle.std.proofs.lemmas.Bool.{lt-ltb}
use Rattle.std.proofs.lemmas.List.Sums.{sum_by-cons}
use Rattle.rx_frames.specs.declared.activity.Look.{Look}
use Rattle.rx_frames.specs.declared.activity.Look.TheVariants as look
use Rattle.rx_frames.specs.declared.parts.Own.{Own}
use Rattle.rx_frames.specs.declared.position.Position.{Position}
use Rattle.rx_frames.specs.Frames.{Frame}
use Rattle.rx_frames.specs.Activities.{Activity, State, NotLive, Live, Over, Wait, Nothing, First, Message, Guard, activity_at, asked, frames_at, frames_of, look_by, seen, seen_of}
use Rattle.rx_machine.specs.declared.end.End.{End}
use Rattle.rx_machine.specs.Enabled.{depth, enabled, holder_before, holder_from, holder_of, holds, is_live, least_enabled, least_from, may_step, may_step_at, or_else, reserves_pool, robin}
use Rattle.rx_machine.specs.End.{any_live, end, end_among}
use Rattle.rx_machine.specs.Todo.{Todo}
use Rattle.rx_machine.specs.World.{World}
use Rattle.rx_kernel.specs.Picking.{is_live_if, may_step_by, reserves, reserves_if, tells_live}
use Rattle.rx_kernel.specs.Views.{Reading, activities_view, activity_view, frame_view, frames_view}
use Rattle.rx_kernel.proofs.ViewLemmas.{length-map, view-at}

-- ---- lists

-- an item that is there, with those behind it
pub record IsIn {A : Type 0} (xs : List A) (place : ℕ) : Type 0 where
  pub item : A
  pub here : drop place xs ≡ item ∷ drop (suc place) xs
  pub at : slice_get xs place ≡ Some item

pub is-in : {A : Type 0} (xs : List A) (place : ℕ) → place < length xs → IsIn xs place
is-in [] place within = absurd (omega (arith, within))
is-in (x ∷ xs) zero within = record { item = x; here = refl; at = refl }
is-in {A} (x ∷ xs) (suc place) within =
    let rest : IsIn xs place = is-in xs place (omega (arith, within)) in
    record { item = rest.item; here = rest.here; at = rest.at }

-- ---- frames

first-or-others : (first : Bool) (others : ℕ) → nat_lt 0 (cond first 1 0 + others) ≡ (first || nat_lt 0 others)
first-or-others true others = let some : 0 < 1 + others = omega arith in lt-ltb 0 (1 + others) some
first-or-others false others = let same : 0 + others ≡ others = omega arith in ap (nat_lt 0) same

-- frames hold a pool where the first does, or the others do
holds-cons : (frame : Frame Todo) (frames : List (Frame Todo)) (pool : ℕ) → holds (frame ∷ frames) pool ≡ (reserves_pool pool frame || holds frames pool)
holds-cons frame frames pool =
    ap (nat_lt 0) (sum_by-cons (λ (f : Frame Todo). cond (reserves_pool pool f) 1 0) frame frames)
    ∙ first-or-others (reserves_pool pool frame) (depth frames pool)

holds-drop : (read : Reading Todo) (frames : List (Frame Position)) (down pool : ℕ)
    → holds (drop down (frames_view read frames)) pool ≡ (reserves_if pool (slice_get frames down) || holds (drop (suc down) (frames_view read frames)) pool)
holds-drop read [] zero pool = refl
holds-drop read [] (suc down) pool = refl
holds-drop read (frame ∷ frames) zero pool = holds-cons (frame_view read frame) (frames_view read frames) pool
holds-drop read (frame ∷ frames) (suc down) pool = holds-drop read frames down pool

-- from a frame on: it reserves the pool, or one of those beneath it does
pub holds-here : (read : Reading Todo) (frames : List (Frame Position)) (view : List (Frame Todo)) (down pool : ℕ) (one : Bool) → view ≡ frames_view read frames
    → one ≡ reserves_if pool (slice_get frames down) → holds (drop down view) pool ≡ (one || holds (drop (down + 1) view) pool)
holds-here read frames view down pool one is one_is =
    ap (λ (fs : List (Frame Todo)). holds (drop down fs) pool) is ∙ holds-drop read frames down pool
    ∙ ap (λ (b : Bool). b || holds (drop (suc down) (frames_view read frames)) pool) (sym one_is)
    ∙ ap (λ (fs : List (Frame Todo)). one || holds (drop (suc down) fs) pool) (sym is)
    ∙ ap (λ (n : ℕ). one || holds (drop n view) pool) (sym (add-one down))

pub holds-end : (read : Reading Todo) (frames : List (Frame Position)) (view : List (Frame Todo)) (down pool : ℕ) → view ≡ frames_view read frames
    → length frames ≤ down → holds (drop down view) pool ≡ false
holds-end read frames view down pool is past =
    let none : length view ≤ down = omega (arith, past, ap length is, length-map (frame_view read) frames) in
    ap (λ (fs : List (Frame Todo)). holds fs pool) (drop_of_length-le view none)

-- ---- holders

pub holder-here : (xs : List (Activity Todo)) (place a pool : ℕ) (one : Bool) → place < length xs
    → one ≡ (not (place + 1 == a) && holds (frames_at xs (place + 1)) pool)
    → holder_from (place + 1) (drop place xs) a pool ≡ cond one (Some (place + 1)) (holder_from (place + 1 + 1) (drop (place + 1) xs) a pool)
holder-here xs place a pool one within is =
    let it : IsIn xs place = is-in xs place within in
    let frames : frames_at xs (place + 1) ≡ it.item.frames = ap (frames_at xs) (add-one place) ∙ ap frames_of it.at in
    ap (λ (ys : List (Activity Todo)). holder_from (place + 1) ys a pool) (it.here ∙ ap (λ (n : ℕ). it.item ∷ drop n xs) (sym (add-one place)))
    ∙ ap (λ (b : Bool). cond b (Some (place + 1)) (holder_from (place + 1 + 1) (drop (place + 1) xs) a pool))
    (ap (λ (fs : List (Frame Todo)). not (place + 1 == a) && holds fs pool) (sym frames) ∙ sym is)

pub holder-end : (xs : List (Activity Todo)) (place a pool : ℕ) → length xs ≤ place → holder_from (place + 1) (drop place xs) a pool ≡ None
holder-end xs place a pool past = ap (λ (ys : List (Activity Todo)). holder_from (place + 1) ys a pool) (drop_of_length-le xs past)

-- ---- who may step

may-with : (w : World) (a : ℕ) (state : State) (own : Option Own) (wait : Wait)
    → (is_live state && is_none (holder_of w.activities a own)) ≡ may_step_by w a (look_by state own wait)
may-with w a NotLive own wait = refl
may-with w a Live (Some own) wait = refl
may-with w a Live None Nothing = refl
may-with w a Live None (First message) = refl
may-with w a Live None (Message message) = refl
may-with w a Live None Guard = refl
may-with w a Over own wait = refl

pub asked-view : {T : Type 0} (read : Reading T) (frames : List (Frame Position)) → asked (frames_view read frames) ≡ asked frames
asked-view read [] = refl
asked-view read (frame ∷ frames) = refl

may-seen : (w : World) (a : ℕ) (read : Reading Todo) (activity : Activity Position) → may_step w a (activity_view read activity) ≡ may_step_by w a (seen activity)
unfolding holder_before
may-seen w a read activity =
    ap (λ (own : Option Own). is_live activity.state && is_none (holder_of w.activities a own)) (asked-view read activity.frames)
    ∙ may-with w a activity.state (asked activity.frames) activity.wait

may-seen-if : (w : World) (a : ℕ) (read : Reading Todo) (found : Option (Activity Position))
    → may_step_at w a (option_map (activity_view read) found) ≡ may_step_by w a (seen_of found)
may-seen-if w a read None = refl
may-seen-if w a read (Some activity) = may-seen w a read activity

-- whether an activity may take a step, by what is seen of it
pub enabled-by : (w : World) (a : ℕ) (read : Reading Todo) (stacks : List (Activity Position)) (one : Look) (may : Bool) → w.activities ≡ activities_view read stacks
    → one ≡ seen_of (activity_at stacks a) → may ≡ may_step_by w a one → may ≡ enabled w a
enabled-by w a read stacks one may are is may_is =
    may_is ∙ ap (may_step_by w a) is ∙ sym (may-seen-if w a read (activity_at stacks a))
    ∙ ap (may_step_at w a) (sym (view-at read stacks a)) ∙ ap (λ (xs : List (Activity Todo)). may_step_at w a (activity_at xs a)) (sym are)

pub least-here : (w : World) (place : ℕ) (one : Bool) → place < length w.activities → one ≡ enabled w (place + 1)
    → least_from w (place + 1) (drop place w.activities) ≡ cond one (Some (place + 1)) (least_from w (place + 1 + 1) (drop (place + 1) w.activities))
least-here w place one within is =
    let it : IsIn w.activities place = is-in w.activities place within in
    let may : enabled w (place + 1) ≡ may_step w (place + 1) it.item =
    ap (λ (n : ℕ). may_step_at w (place + 1) (activity_at w.activities n)) (add-one place) ∙ ap (may_step_at w (place + 1)) it.at in
    ap (λ (ys : List (Activity Todo)). least_from w (place + 1) ys) (it.here ∙ ap (λ (n : ℕ). it.item ∷ drop n w.activities) (sym (add-one place)))
    ∙ ap (λ (b : Bool). cond b (Some (place + 1)) (least_from w (place + 1 + 1) (drop (place + 1) w.activities))) (sym (is ∙ may))

pub least-end : (w : World) (place : ℕ) → length w.activities ≤ place → least_from w (place + 1) (drop place w.activities) ≡ None
least-end w place past = ap (λ (ys : List (Activity Todo)). least_from w (place + 1) ys) (drop_of_length-le w.activities past)

-- the next in a circle, by the least above and the least of all
pub robin-is : (w : World) (last : ℕ) (above least : Option ℕ) → above ≡ least_from w (last + 1) (drop last w.activities) → least ≡ least_enabled w
    → or_else above least ≡ robin w last
robin-is w last above least above_is least_is =
    ap (λ (one : Option ℕ). or_else one least) above_is ∙ ap (λ (one : Option ℕ). or_else (least_from w (last + 1) (drop last w.activities)) one) least_is

-- ---- who is live

live-with : (state : State) (own : Option Own) (wait : Wait) → tells_live (look_by state own wait) ≡ is_live state
live-with NotLive own wait = refl
live-with Live (Some own) wait = refl
live-with Live None Nothing = refl
live-with Live None (First message) = refl
live-with Live None (Message message) = refl
live-with Live None Guard = refl
live-with Over own wait = refl

live-if : (read : Reading Todo) (found : Option (Activity Position)) → tells_live (seen_of found) ≡ is_live_if (option_map (activity_view read) found)
live-if read None = refl
live-if read (Some activity) = live-with activity.state (asked activity.frames) activity.wait

pub live-by : (w : World) (a : ℕ) (read : Reading Todo) (stacks : List (Activity Position)) (one : Look) → w.activities ≡ activities_view read stacks
    → one ≡ seen_of (activity_at stacks a) → tells_live one ≡ is_live_if (activity_at w.activities a)
live-by w a read stacks one are is =
    ap tells_live is ∙ live-if read (activity_at stacks a) ∙ ap is_live_if (sym (view-at read stacks a))
    ∙ ap (λ (xs : List (Activity Todo)). is_live_if (activity_at xs a)) (sym are)

pub live-here : (xs : List (Activity Todo)) (place : ℕ) (one : Bool) → place < length xs → one ≡ is_live_if (activity_at xs (place + 1))
    → any_live (drop place xs) ≡ (one || any_live (drop (place + 1) xs))
live-here xs place one within is =
    let it : IsIn xs place = is-in xs place within in
    let live : is_live_if (activity_at xs (place + 1)) ≡ is_live it.item.state = ap (λ (n : ℕ). is_live_if (activity_at xs n)) (add-one place) ∙ ap is_live_if it.at in
    ap any_live (it.here ∙ ap (λ (n : ℕ). it.item ∷ drop n xs) (sym (add-one place)))
    ∙ ap (λ (b : Bool). b || any_live (drop (place + 1) xs)) (sym (is ∙ live))

pub live-end : (xs : List (Activity Todo)) (place : ℕ) → length xs ≤ place → any_live (drop place xs) ≡ false
live-end xs place past = ap any_live (drop_of_length-le xs past)

-- how a world stands, by whether an activity is live and the least that is enabled
pub end-is : (w : World) (live : Bool) (least : Option ℕ) (one : End) → live ≡ any_live w.activities → least ≡ least_enabled w
    → one ≡ end_among w live least → one ≡ end w
end-is w live least one live_is least_is is =
    is ∙ ap (λ (b : Bool). end_among w b least) live_is ∙ ap (end_among w (any_live w.activities)) least_is
