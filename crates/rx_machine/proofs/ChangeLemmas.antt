-- Changes of activities that keep worlds sound: none holds a pool that it didn't hold, and all are still as they should be.
use Rattle.std.proofs.Common.{◌≡◌, ℕ, zero, suc, ◌+◌, Bool, true, false, ◌&&◌, ◌⊎◌, inl, inr, List, [], ◌∷◌, ◌++◌, drop, Option, None, Some, refl, sym, ◌∙◌, ap, subst}
use Rattle.std.specs.Prelude.{slice_get, slice_set}
use Rattle.std.proofs.lemmas.Bool.{false≢true}
use Rattle.rx_frames.specs.declared.activity.Wait.TheVariants as given
use Rattle.rx_frames.specs.Frames.{Frame}
use Rattle.rx_frames.specs.Activities.{Activity, State, NotLive, Live, Over, Wait, Nothing, First, Message, Guard, activity_at, live_by, state_with, waiting, with_change_at, with_change_of, with_frames}
use Rattle.rx_frames.proofs.FoundLemmas.{found-more, found-set}
use Rattle.rx_machine.specs.Todo.{Todo}
use Rattle.rx_machine.specs.World.{World}
use Rattle.rx_machine.specs.Enabled.{holds, is_on, reserves_pool}
use Rattle.rx_machine.specs.Sound.{AsksRightly, FramesFit, MayBegin, NoneAsks, OnlyTopAsks, Sound}
use Rattle.rx_machine.proofs.HoldLemmas.{holds-cases, holds-first, holds-others}

-- ---- an activity that becomes another

pub record Fine (x y : Activity Todo) : Type 0 where
  pub kept : (pool : ℕ) → holds y.frames pool ≡ true → holds x.frames pool ≡ true
  pub asks : OnlyTopAsks x.frames → OnlyTopAsks y.frames
  pub fits : FramesFit x.state x.frames x.wait → FramesFit y.state y.frames y.wait

pub fine-same : (x : Activity Todo) → Fine x x
fine-same x = record { kept = λ pool held. held; asks = λ asks. asks; fits = λ fits. fits }

fine-then : (x y z : Activity Todo) → Fine x y → Fine y z → Fine x z
fine-then x y z first second = record {
  kept = λ pool held. first.kept pool (second.kept pool held);
  asks = λ asks. second.asks (first.asks asks);
  fits = λ fits. second.fits (first.fits fits);
}

-- one that was begun
pub record IsNew (y : Activity Todo) : Type 0 where
  pub none : (pool : ℕ) → holds y.frames pool ≡ true → ⊥
  pub asks : OnlyTopAsks y.frames
  pub fits : FramesFit y.state y.frames y.wait

new-then : (y z : Activity Todo) → IsNew y → Fine y z → IsNew z
new-then y z new fine = record {
  none = λ pool held. new.none pool (fine.kept pool held);
  asks = fine.asks new.asks;
  fits = fine.fits new.fits;
}

-- ---- activities that become others

abbrev pub Keeps : List (Activity Todo) → List (Activity Todo) → Type 0
Keeps old new = (n : ℕ) (y : Activity Todo) → activity_at new n ≡ Some y → ((x : Activity Todo) × (activity_at old n ≡ Some x) × Fine x y) ⊎ IsNew y

pub keeps-same : (old : List (Activity Todo)) → Keeps old old
keeps-same old n y at = inl (y, at, fine-same y)

pub keeps-then : (old mid new : List (Activity Todo)) → Keeps old mid → Keeps mid new → Keeps old new
keeps-then old mid new first second n y at = elim (second n y at) [
  | inl came ↦ elim (first n came.0 came.1) [
    | inl before ↦ inl (before.0, before.1, fine-then before.0 came.0 y before.2 came.2)
    | inr begun ↦ inr (new-then came.0 y begun came.2)
  ]
  | inr begun ↦ inr begun
]

keeps-set : (old : List (Activity Todo)) (place : ℕ) (x new : Activity Todo) → slice_get old place ≡ Some x → Fine x new → Keeps old (slice_set old place new)
keeps-set old place x new is fine zero y at = cc
keeps-set old place x new is fine (suc q) y at = elim (found-set old place new q y at) [
  | inl same ↦ inl (y, same, fine-same y)
  | inr here ↦ let e : new ≡ y = cc (here.1) in inl (x, ap (slice_get old) (sym here.0) ∙ is, subst (Fine x) e fine)
]

keeps-changed-of : (old : List (Activity Todo)) (place : ℕ) (change : Activity Todo → Activity Todo) (found : Option (Activity Todo)) → slice_get old place ≡ found
    → ((x : Activity Todo) → slice_get old place ≡ Some x → Fine x (change x)) → Keeps old (with_change_of old place change found)
keeps-changed-of old place change None is fine = keeps-same old
keeps-changed-of old place change (Some x) is fine = keeps-set old place x (change x) is (fine x is)

-- one activity has changed
pub keeps-changed : (old : List (Activity Todo)) (a : ℕ) (change : Activity Todo → Activity Todo)
    → ((x : Activity Todo) → activity_at old a ≡ Some x → Fine x (change x)) → Keeps old (with_change_at old a change)
keeps-changed old zero change fine = keeps-same old
keeps-changed old (suc place) change fine = keeps-changed-of old place change (slice_get old place) refl fine

-- one more was begun
pub keeps-more : (old : List (Activity Todo)) (new : Activity Todo) → IsNew new → Keeps old (old ++ new ∷ [])
keeps-more old new begun zero y at = cc
keeps-more old new begun (suc place) y at = elim (found-more old new place y at) [
  | inl same ↦ inl (y, same, fine-same y)
  | inr last ↦ let e : new ≡ y = cc (last.1) in inr (subst IsNew e begun)
]

-- ---- sound worlds

pub sound-kept : (old new : World) → Keeps old.activities new.activities → Sound old → Sound new
sound-kept old new keeps sound = record {
  one_holder = λ a b x y pool at_a at_b held_a held_b. elim (keeps a x at_a) [
    | inl left ↦ elim (keeps b y at_b) [
      | inl right ↦ sound.one_holder a b left.0 right.0 pool left.1 right.1 (left.2.kept pool held_a) (right.2.kept pool held_b)
      | inr begun ↦ absurd (begun.none pool held_b)
    ]
    | inr begun ↦ absurd (begun.none pool held_a)
  ];
  only_top_asks = λ a x at. elim (keeps a x at) [
    | inl came ↦ came.2.asks (sound.only_top_asks a came.0 came.1)
    | inr begun ↦ begun.asks
  ];
  live_has_frames = λ a x at. elim (keeps a x at) [
    | inl came ↦ came.2.fits (sound.live_has_frames a came.0 came.1)
    | inr begun ↦ begun.fits
  ];
}

-- ---- frames that hold what they held

-- a frame in place of another that reserves and asks as it did
pub record Alike (old new : Frame Todo) : Type 0 where
  pub reserved : (pool : ℕ) → reserves_pool pool new ≡ reserves_pool pool old
  pub asked : new.asks ≡ old.asks
  pub rightly : AsksRightly old → AsksRightly new

-- so is each frame of some others
pub record AllAlike (old new : List (Frame Todo)) : Type 0 where
  pub kept : (pool : ℕ) → holds new pool ≡ true → holds old pool ≡ true
  pub none : NoneAsks old → NoneAsks new
  pub asks : OnlyTopAsks old → OnlyTopAsks new
  pub begun : (wait : Wait) → MayBegin old wait → MayBegin new wait
  pub empty : old ≡ [] → new ≡ []

alike-same : (frames : List (Frame Todo)) → AllAlike frames frames
alike-same frames = record {
  kept = λ pool held. held;
  none = λ none. none;
  asks = λ asks. asks;
  begun = λ wait may. may;
  empty = λ is. is;
}

first-alike : (old new : Frame Todo) (frames : List (Frame Todo)) → Alike old new → AllAlike (old ∷ frames) (new ∷ frames)
first-alike old new frames alike = record {
  kept = λ pool held. elim (holds-cases new frames pool held) [
    | inl first ↦ holds-first old frames pool (sym (alike.reserved pool) ∙ first)
    | inr others ↦ holds-others old frames pool others
  ];
  none = λ none. (alike.asked ∙ none.0, none.1);
  asks = λ asks. (λ on. alike.rightly (asks.0 (sym alike.asked ∙ on)), asks.1);
  begun = λ wait may. may;
  empty = λ is. cc;
}

others-alike : (frame : Frame Todo) (old new : List (Frame Todo)) → AllAlike old new → AllAlike (frame ∷ old) (frame ∷ new)
others-alike frame old new alike = record {
  kept = λ pool held. elim (holds-cases frame new pool held) [
    | inl first ↦ holds-first frame old pool first
    | inr others ↦ holds-others frame old pool (alike.kept pool others)
  ];
  none = λ none. (none.0, alike.none none.1);
  asks = λ asks. (asks.0, alike.none asks.1);
  begun = λ wait may. may;
  empty = λ is. cc;
}

-- a frame that was changed, so that it is as it was in this
change-cons : (frame : Frame Todo) (frames : List (Frame Todo)) (down : ℕ) (change : Frame Todo → Frame Todo) (found : Option (Frame Todo))
    → AllAlike frames (with_change_of frames down change found) → AllAlike (frame ∷ frames) (with_change_of (frame ∷ frames) (suc down) change found)
change-cons frame frames down change None alike = others-alike frame frames frames alike
change-cons frame frames down change (Some x) alike = others-alike frame frames (slice_set frames down (change x)) alike

pub changed-alike : (frames : List (Frame Todo)) (down : ℕ) (change : Frame Todo → Frame Todo) → ((x : Frame Todo) → Alike x (change x))
    → AllAlike frames (with_change_of frames down change (slice_get frames down))
changed-alike [] down change alike = alike-same []
changed-alike (frame ∷ frames) zero change alike = first-alike frame (change frame) frames (alike frame)
changed-alike (frame ∷ frames) (suc down) change alike =
    change-cons frame frames down change (slice_get frames down) (changed-alike frames down change alike)

pub set-alike : (frames : List (Frame Todo)) (old new : Frame Todo) (rest : List (Frame Todo)) → frames ≡ old ∷ rest → Alike old new
    → AllAlike frames (slice_set frames 0 new)
set-alike frames old new rest is alike = subst (λ (fs : List (Frame Todo)). AllAlike fs (slice_set fs 0 new)) (sym is) (first-alike old new rest alike)

fits-alike : (state : State) (old new : List (Frame Todo)) (wait : Wait) → AllAlike old new → FramesFit state old wait → FramesFit state new wait
fits-alike NotLive old new wait alike fits = alike.empty fits
fits-alike Live old new wait alike fits = alike.begun wait fits
fits-alike Over old new wait alike fits = (alike.empty fits.0, fits.1)

-- an activity that has such frames in place of its own
pub fine-alike : (x : Activity Todo) (frames : List (Frame Todo)) → AllAlike x.frames frames → Fine x (record x { frames = frames })
fine-alike x frames alike = record {
  kept = alike.kept;
  asks = alike.asks;
  fits = fits-alike x.state x.frames frames x.wait alike;
}

-- ---- activities that are over, or have a frame less, or one more

pub fine-over : (x : Activity Todo) → Fine x (waiting given.Nothing [])
fine-over x = record {
  kept = λ pool held. absurd (false≢true held);
  asks = λ asks. tt;
  fits = λ fits. (refl, refl);
}

none-only : (frames : List (Frame Todo)) → NoneAsks frames → OnlyTopAsks frames
none-only [] none = tt
none-only (frame ∷ frames) none = (λ on. absurd (false≢true (sym none.0 ∙ on)), none.1)

popped-fits : (state : State) (frames : List (Frame Todo)) (wait : Wait) → FramesFit state frames wait
    → FramesFit (state_with state wait (drop 1 frames)) (drop 1 frames) wait
popped-fits NotLive [] wait fits = fits
popped-fits NotLive (frame ∷ frames) wait fits = cc
popped-fits Live [] Nothing fits = (refl, refl)
popped-fits Live [] (First message) fits = (message, refl)
popped-fits Live [] (Message message) fits = fits
popped-fits Live [] Guard fits = fits
popped-fits Live (frame ∷ []) wait fits = subst (λ (on : Wait). FramesFit (state_with {Todo = Todo} Live on []) [] on) (sym fits) (refl, refl)
popped-fits Live (frame ∷ (next ∷ frames)) wait fits = subst (λ (on : Wait). FramesFit (state_with Live on (next ∷ frames)) (next ∷ frames) on) (sym fits) refl
popped-fits Over [] wait fits = subst (λ (on : Wait). FramesFit (state_with {Todo = Todo} Over on []) [] on) (sym fits.1) (refl, refl)
popped-fits Over (frame ∷ frames) wait fits = cc

popped-kept : (frames : List (Frame Todo)) (pool : ℕ) → holds (drop 1 frames) pool ≡ true → holds frames pool ≡ true
popped-kept [] pool held = held
popped-kept (frame ∷ frames) pool held = holds-others frame frames pool held

popped-asks : (frames : List (Frame Todo)) → OnlyTopAsks frames → OnlyTopAsks (drop 1 frames)
popped-asks [] asks = tt
popped-asks (frame ∷ frames) asks = none-only frames asks.1

pub fine-popped : (x : Activity Todo) → Fine x (with_frames (drop 1 x.frames) x)
fine-popped x = record {
  kept = popped-kept x.frames;
  asks = popped-asks x.frames;
  fits = popped-fits x.state x.frames x.wait;
}

-- a frame that doesn't reserve is pushed on frames of which none asks, and the activity waits for nothing
pub fine-pushed : (x : Activity Todo) (frame : Frame Todo) (frames : List (Frame Todo)) → frames ≡ frame ∷ x.frames → NoneAsks x.frames
    → frame.reserves ≡ false → (frame.asks ≡ true → AsksRightly frame) → Fine x (waiting given.Nothing frames)
fine-pushed x frame frames is none free rightly =
    subst (λ (fs : List (Frame Todo)). Fine x (waiting given.Nothing fs)) (sym is) (record {
      kept = λ pool held. elim (holds-cases frame x.frames pool held) [
        | inl first ↦ absurd (false≢true (sym (ap (λ (b : Bool). b && is_on pool frame.own) free) ∙ first))
        | inr others ↦ others
      ];
      asks = λ asks. (rightly, none);
      fits = λ fits. refl;
    })

resting-fits : (frames : List (Frame Todo)) → FramesFit (live_by frames) frames Nothing
resting-fits [] = (refl, refl)
resting-fits (frame ∷ frames) = refl

-- it waits for nothing any more
pub fine-resting : (x : Activity Todo) → Fine x (waiting given.Nothing x.frames)
fine-resting x = record { kept = λ pool held. held; asks = λ asks. asks; fits = λ fits. resting-fits x.frames }

-- ---- two changes of one activity

set-twice : (xs : List (Activity Todo)) (i : ℕ) (u v : Activity Todo) → slice_set (slice_set xs i u) i v ≡ slice_set xs i v
set-twice [] i u v = refl
set-twice (x ∷ xs) zero u v = refl
set-twice (x ∷ xs) (suc i) u v = ap (λ (ys : List (Activity Todo)). x ∷ ys) (set-twice xs i u v)

get-set : (xs : List (Activity Todo)) (i : ℕ) (x u : Activity Todo) → slice_get xs i ≡ Some x → slice_get (slice_set xs i u) i ≡ Some u
get-set [] i x u is = cc
get-set (y ∷ xs) zero x u is = refl
get-set (y ∷ xs) (suc i) x u is = get-set xs i x u is

twice-of : (old : List (Activity Todo)) (place : ℕ) (first second : Activity Todo → Activity Todo) (found : Option (Activity Todo)) → slice_get old place ≡ found
    → with_change_of (with_change_of old place first found) place second (slice_get (with_change_of old place first found) place)
    ≡ with_change_of old place (λ (x : Activity Todo). second (first x)) found
twice-of old place first second None is = ap (with_change_of old place second) is
twice-of old place first second (Some x) is =
    ap (with_change_of (slice_set old place (first x)) place second) (get-set old place x (first x) is) ∙ set-twice old place (first x) (second (first x))

pub change-twice : (old : List (Activity Todo)) (a : ℕ) (first second : Activity Todo → Activity Todo)
    → with_change_at (with_change_at old a first) a second ≡ with_change_at old a (λ (x : Activity Todo). second (first x))
change-twice old zero first second = refl
change-twice old (suc place) first second = twice-of old place first second (slice_get old place) refl

changed-of : (old : List (Activity Todo)) (place : ℕ) (change : Activity Todo → Activity Todo) (found : Option (Activity Todo)) (y : Activity Todo) → slice_get old place ≡ found
    → slice_get (with_change_of old place change found) place ≡ Some y → (x : Activity Todo) × (slice_get old place ≡ Some x) × (y ≡ change x)
changed-of old place change None y is at = let e : None ≡ Some y = sym is ∙ at in cc
changed-of old place change (Some x) y is at =
    let e : Some (change x) ≡ Some y = sym (get-set old place x (change x) is) ∙ at in
    let same : change x ≡ y = cc in
    (x, is, sym same)

-- what a changed activity was
pub changed-at : (old : List (Activity Todo)) (a : ℕ) (change : Activity Todo → Activity Todo) (y : Activity Todo)
    → activity_at (with_change_at old a change) a ≡ Some y → (x : Activity Todo) × (activity_at old a ≡ Some x) × (y ≡ change x)
changed-at old zero change y at = cc
changed-at old (suc place) change y at = changed-of old place change (slice_get old place) y refl at

cases-of : (old : List (Activity Todo)) (place q : ℕ) (change : Activity Todo → Activity Todo) (found : Option (Activity Todo)) (y : Activity Todo) → slice_get old place ≡ found
    → slice_get (with_change_of old place change found) q ≡ Some y
    → (slice_get old q ≡ Some y) ⊎ ((suc q ≡ suc place) × (x : Activity Todo) × (slice_get old place ≡ Some x) × (y ≡ change x))
cases-of old place q change None y is at = inl at
cases-of old place q change (Some x) y is at = elim (found-set old place (change x) q y at) [
  | inl same ↦ inl same
  | inr here ↦ let e : change x ≡ y = cc (here.1) in inr (ap suc (sym here.0), x, is, sym e)
]

-- an activity is as before, or it is the one that was changed
pub change-cases : (old : List (Activity Todo)) (a n : ℕ) (change : Activity Todo → Activity Todo) (y : Activity Todo) → activity_at (with_change_at old a change) n ≡ Some y
    → (activity_at old n ≡ Some y) ⊎ ((n ≡ a) × (x : Activity Todo) × (activity_at old a ≡ Some x) × (y ≡ change x))
change-cases old zero n change y at = inl at
change-cases old (suc place) zero change y at = cc
change-cases old (suc place) (suc q) change y at = cases-of old place q change (slice_get old place) y refl at
