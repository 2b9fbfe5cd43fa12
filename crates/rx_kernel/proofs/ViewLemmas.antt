-- Frames that tell by clauses what is still to be done do as those do that tell it by positions.
use Rattle.std.proofs.Common.{◌≡◌, ℕ, zero, suc, ◌+◌, Bool, true, false, List, [], ◌∷◌, ◌++◌, drop, length, map, Option, None, Some, refl, sym, ◌∙◌, ap}
use Rattle.std.specs.Prelude.{◌==◌, if◌then◌else◌, option_map, slice_get, slice_set, unwrap_or}
use Rattle.rx_tree.specs.declared.activity.Outcome.TheVariants as outcome
use Rattle.rx_tree.specs.declared.value.Value.{Value}
use Rattle.rx_tree.specs.declared.value.Value.TheVariants.{Ref}
use Rattle.rx_builtin.specs.declared.facts.Facts.{Facts}
use Rattle.rx_frames.specs.declared.activity.Wait.{Wait as Given}
use Rattle.rx_frames.specs.declared.activity.Wait.TheVariants as given_wait
use Rattle.rx_frames.specs.declared.position.Position.{Position}
use Rattle.rx_frames.specs.Frames.{Doing, Frame, beginning, positions, with_answer, with_todo}
use Rattle.rx_frames.specs.Activities.{Activity, State, NotLive, Live, Over, Wait, Nothing, First, Message, Guard, activity_at, first_message, frames_at, frames_of, live_by, live_with, state_with, waiting, with_change_at, with_change_of, with_frames, with_top_changed}
use Rattle.rx_names.specs.Homes.{variables_at, variables_of}
use Rattle.rx_pools.specs.Pools.{Pools, pool_number, with_pool}
use Rattle.rx_native.specs.Outcomes.{or_nil}
use Rattle.rx_sends.specs.declared.call.Call.{Call}
use Rattle.rx_sends.specs.declared.parts.Sent.{Sent}
use Rattle.rx_sends.specs.declared.reply.Reply.{Reply}
use Rattle.rx_sends.specs.declared.reply.Reply.TheVariants.{Gives, Calls, Starts}
use Rattle.rx_sends.specs.declared.sender.Sender.{Sender}
use Rattle.rx_sends.specs.Calls.{frame_of}
use Rattle.rx_sends.specs.Delivering.{delivery}
use Rattle.rx_sends.specs.Parts.{Parts}
use Rattle.rx_sends.specs.Refusals.{method_not_found}
use Rattle.rx_sends.specs.Replies.{Delivery}
use Rattle.rx_sends.specs.Replies as d
use Rattle.rx_sends.specs.Senders.{most_activities, most_frames, object_of, sender_of, sender_with}
use Rattle.rx_sends.specs.Sending.{Done, NoMethod, Raises, Sending, answered_above, begun, completed, given, given_to, sending_by, sent, started, traps_no_method, with_reply, with_top, with_wait}
use Rattle.rx_sends.specs.Settings.{setting}
use Rattle.rx_kernel.specs.Views.{IsReading, Reading, activities_view, activity_view, frame_view, frames_view, parts_view}

-- ---- lists

pub get-map : {A B : Type 0} (f : A → B) (xs : List A) (i : ℕ) → slice_get (map f xs) i ≡ option_map f (slice_get xs i)
get-map f [] i = refl
get-map f (x ∷ xs) zero = refl
get-map f (x ∷ xs) (suc i) = get-map f xs i

pub set-map : {A B : Type 0} (f : A → B) (xs : List A) (i : ℕ) (x : A) → slice_set (map f xs) i (f x) ≡ map f (slice_set xs i x)
set-map f [] i x = refl
set-map f (y ∷ xs) zero x = refl
set-map f (y ∷ xs) (suc i) x = ap (λ ys. f y ∷ ys) (set-map f xs i x)

pub drop-map : {A B : Type 0} (f : A → B) (n : ℕ) (xs : List A) → drop n (map f xs) ≡ map f (drop n xs)
drop-map f zero xs = refl
drop-map f (suc n) [] = refl
drop-map f (suc n) (x ∷ xs) = drop-map f n xs

append-map : {A B : Type 0} (f : A → B) (xs ys : List A) → map f xs ++ map f ys ≡ map f (xs ++ ys)
append-map f [] ys = refl
append-map f (x ∷ xs) ys = ap (λ zs. f x ∷ zs) (append-map f xs ys)

pub length-map : {A B : Type 0} (f : A → B) (xs : List A) → length (map f xs) ≡ length xs
length-map f [] = refl
length-map f (x ∷ xs) = ap suc (length-map f xs)

-- one item is changed on both sides
change-of-map : {A B : Type 0} (f : A → B) (xs : List A) (i : ℕ) (change : A → A) (other : B → B) (found : Option A)
    → ((x : A) → other (f x) ≡ f (change x)) → with_change_of (map f xs) i other (option_map f found) ≡ map f (with_change_of xs i change found)
change-of-map f xs i change other None same = refl
change-of-map f xs i change other (Some x) same = ap (slice_set (map f xs) i) (same x) ∙ set-map f xs i (change x)

pub change-map : {A B : Type 0} (f : A → B) (xs : List A) (i : ℕ) (change : A → A) (other : B → B) → ((x : A) → other (f x) ≡ f (change x))
    → with_change_of (map f xs) i other (slice_get (map f xs) i) ≡ map f (with_change_of xs i change (slice_get xs i))
change-map f xs i change other same =
    ap (with_change_of (map f xs) i other) (get-map f xs i) ∙ change-of-map f xs i change other (slice_get xs i) same

-- ---- activities

pub view-at : {T : Type 0} (read : Reading T) (activities : List (Activity Position)) (a : ℕ)
    → activity_at (activities_view read activities) a ≡ option_map (activity_view read) (activity_at activities a)
view-at read activities zero = refl
view-at read activities (suc place) = get-map (activity_view read) activities place

view-frames-of : {T : Type 0} (read : Reading T) (found : Option (Activity Position)) → frames_of (option_map (activity_view read) found) ≡ frames_view read (frames_of found)
view-frames-of read None = refl
view-frames-of read (Some activity) = refl

pub view-frames : {T : Type 0} (read : Reading T) (activities : List (Activity Position)) (a : ℕ)
    → frames_at (activities_view read activities) a ≡ frames_view read (frames_at activities a)
view-frames read activities a = ap frames_of (view-at read activities a) ∙ view-frames-of read (activity_at activities a)

pub view-variables-of : {T : Type 0} (read : Reading T) (frames : List (Frame Position)) → variables_of (frames_view read frames) ≡ variables_of frames
view-variables-of read [] = refl
view-variables-of read (frame ∷ frames) = ap (λ vs. frame.variables ∷ vs) (view-variables-of read frames)

pub view-variables : {T : Type 0} (read : Reading T) (activities : List (Activity Position)) (a : ℕ)
    → variables_at (activities_view read activities) a ≡ variables_at activities a
view-variables read activities a = ap variables_of (view-frames read activities a) ∙ view-variables-of read (frames_at activities a)

pub view-changed : {T : Type 0} (read : Reading T) (activities : List (Activity Position)) (a : ℕ) (change : Activity Position → Activity Position) (other : Activity T → Activity T)
    → ((x : Activity Position) → other (activity_view read x) ≡ activity_view read (change x))
    → with_change_at (activities_view read activities) a other ≡ activities_view read (with_change_at activities a change)
view-changed read activities zero change other same = refl
view-changed read activities (suc place) change other same = change-map (activity_view read) activities place change other same

view-first-of : {T : Type 0} (read : Reading T) (found : Option (Activity Position)) → first_message (option_map (activity_view read) found) ≡ first_message found
view-first-of read None = refl
view-first-of read (Some activity) = refl

pub view-first : {T : Type 0} (read : Reading T) (activities : List (Activity Position)) (a : ℕ)
    → first_message (activity_at (activities_view read activities) a) ≡ first_message (activity_at activities a)
view-first read activities a = ap first_message (view-at read activities a) ∙ view-first-of read (activity_at activities a)

-- ---- frames of an activity

live-view : {T : Type 0} (read : Reading T) (frames : List (Frame Position)) → live_by (frames_view read frames) ≡ live_by frames
live-view read [] = refl
live-view read (frame ∷ frames) = refl

pub waiting-view : {T : Type 0} (read : Reading T) (wait : Given) (frames : List (Frame Position)) → waiting wait (frames_view read frames) ≡ activity_view read (waiting wait frames)
waiting-view read given_wait.Nothing [] = refl
waiting-view read given_wait.Nothing (frame ∷ frames) = refl
waiting-view read (given_wait.First message) frames = refl
waiting-view read (given_wait.Message message) frames = refl
waiting-view read given_wait.Guard frames = refl
waiting-view read (given_wait.NotLive message) frames = refl

live-with-view : {T : Type 0} (read : Reading T) (wait : Wait) (frames : List (Frame Position)) → live_with wait (frames_view read frames) ≡ live_with wait frames
live-with-view read Nothing frames = live-view read frames
live-with-view read (First message) frames = refl
live-with-view read (Message message) frames = refl
live-with-view read Guard frames = refl

state-view : {T : Type 0} (read : Reading T) (state : State) (wait : Wait) (frames : List (Frame Position)) → state_with state wait (frames_view read frames) ≡ state_with state wait frames
state-view read NotLive wait frames = refl
state-view read Live wait frames = live-with-view read wait frames
state-view read Over wait frames = live-with-view read wait frames

pub frames-view : {T : Type 0} (read : Reading T) (frames : List (Frame Position)) (activity : Activity Position)
    → with_frames (frames_view read frames) (activity_view read activity) ≡ activity_view read (with_frames frames activity)
frames-view {T} read frames activity =
    ap (λ (state : State). record { state = state; frames = frames_view read frames; wait = activity.wait }) (state-view read activity.state activity.wait frames)

-- ---- messages

with-wait-view : {T : Type 0} (read : Reading T) (activities : List (Activity Position)) (a : ℕ) (wait : Given)
    → with_wait (activities_view read activities) a wait ≡ activities_view read (with_wait activities a wait)
with-wait-view read activities a wait = view-changed read activities a _ _ (λ x. waiting-view read wait x.frames)

with-top-view : {T : Type 0} (read : Reading T) (activities : List (Activity Position)) (a : ℕ) (frame : Frame Position)
    → with_top (activities_view read activities) a (frame_view read frame) ≡ activities_view read (with_top activities a frame)
with-top-view {T} read activities a frame =
    ap (λ (fs : List (Frame T)). with_change_at (activities_view read activities) a (with_frames (frame_view read frame ∷ fs))) (view-frames read activities a)
    ∙ view-changed read activities a (with_frames (frame ∷ frames_at activities a)) (with_frames (frames_view read (frame ∷ frames_at activities a)))
    (λ x. frames-view read (frame ∷ frames_at activities a) x)

answer-view : {T : Type 0} (doing : Doing T) (read : Reading T) → IsReading doing read → (value : Option Value) (frame : Frame Position)
    → with_todo (doing.answered value) (frame_view read frame) ≡ frame_view read (with_answer value frame)
answer-view {T} doing read is value frame =
    ap (λ (todo : T). record (frame_view read frame) { todo = todo }) (sym (is.answers frame.body value frame.todo))

pub answered-view : {T : Type 0} (doing : Doing T) (read : Reading T) → IsReading doing read → (activities : List (Activity Position)) (a : ℕ) (value : Option Value)
    → answered_above doing (activities_view read activities) a value ≡ activities_view read (answered_above positions activities a value)
answered-view {T} doing read is activities a value =
    view-changed read activities a (with_top_changed (with_answer value)) (with_top_changed (with_todo (doing.answered value)))
    (λ x. ap (λ (fs : List (Frame T)). record (activity_view read x) { frames = fs })
    (change-map (frame_view read) x.frames 0 (with_answer value) (with_todo (doing.answered value)) (answer-view doing read is value)))

given-to-view : {T : Type 0} (doing : Doing T) (read : Reading T) → IsReading doing read → (parts : Parts Position) (a : ℕ) (value : Option Value) (frames : List (Frame Position))
    → given_to doing (parts_view read parts) a value (frames_view read frames) ≡ parts_view read (given_to positions parts a value frames)
given-to-view {T} doing read is parts a value [] =
    let with_these : Option ℕ → List (Activity T) → Parts T = λ message activities. record {
      activities = activities;
      objects = completed parts.objects message (outcome.Given (or_nil value));
      classes = parts.classes;
      pools = parts.pools;
    } in
    ap (λ (message : Option ℕ). with_these message (with_wait (activities_view read parts.activities) a given_wait.Nothing)) (view-first read parts.activities a)
    ∙ ap (with_these (first_message (activity_at parts.activities a))) (with-wait-view read parts.activities a given_wait.Nothing)
given-to-view {T} doing read is parts a value (frame ∷ frames) =
    ap (λ (activities : List (Activity T)). record (parts_view read parts) { activities = activities }) (answered-view doing read is parts.activities a value)

pub given-view : {T : Type 0} (doing : Doing T) (read : Reading T) → IsReading doing read → (parts : Parts Position) (a : ℕ) (value : Option Value)
    → given doing (parts_view read parts) a value ≡ parts_view read (given positions parts a value)
given-view {T} doing read is parts a value =
    ap (given_to doing (parts_view read parts) a value) (view-frames read parts.activities a) ∙ given-to-view doing read is parts a value (frames_at parts.activities a)

-- a method begins at the beginning of its body on both sides
frame-of-view : {T : Type 0} (doing : Doing T) (read : Reading T) → IsReading doing read → (one : Call) (pool : ℕ) (completes : Option ℕ)
    → frame_of (doing.beginning one.method.body) one pool completes ≡ frame_view read (frame_of beginning one pool completes)
frame-of-view {T} doing read is one pool completes =
    ap (λ (todo : T). frame_of todo one pool completes) (sym (is.begins one.method.body))

begun-view : {T : Type 0} (doing : Doing T) (read : Reading T) → IsReading doing read → (parts : Parts Position) (a : ℕ) (one : Call)
    → begun doing (parts_view read parts) a one ≡ parts_view read (begun positions parts a one)
begun-view {T} doing read is parts a one =
    let pools : Pools = with_pool parts.pools one.object one.method.scope in
    let pool : ℕ = unwrap_or (pool_number pools one.object one.method.scope) 0 in
    let old : List (Activity T) = activities_view read parts.activities in
    let frame : Option ℕ → Frame T = frame_of (doing.beginning one.method.body) one pool in
    let top : Frame Position = frame_of beginning one pool (first_message (activity_at parts.activities a)) in
    ap (λ (activities : List (Activity T)). record { activities = activities; objects = parts.objects; classes = parts.classes; pools = pools })
    (ap (λ (message : Option ℕ). with_wait (with_top old a (frame message)) a given_wait.Nothing) (view-first read parts.activities a)
    ∙ ap (λ (f : Frame T). with_wait (with_top old a f) a given_wait.Nothing) (frame-of-view doing read is one pool (first_message (activity_at parts.activities a)))
    ∙ ap (λ (activities : List (Activity T)). with_wait activities a given_wait.Nothing) (with-top-view read parts.activities a top)
    ∙ with-wait-view read (with_top parts.activities a top) a given_wait.Nothing)

started-view : {T : Type 0} (doing : Doing T) (read : Reading T) → IsReading doing read → (parts : Parts Position) (a message : ℕ)
    → started doing (parts_view read parts) a message ≡ parts_view read (started positions parts a message)
started-view {T} doing read is parts a message =
    let more : List (Activity Position) = parts.activities ++ waiting (given_wait.First message) [] ∷ [] in
    ap (λ (activities : List (Activity T)). given doing (record (parts_view read parts) { activities = activities }) a (Some (Ref message)))
    (append-map (activity_view read) parts.activities (waiting (given_wait.First message) [] ∷ []))
    ∙ given-view doing read is (record parts { activities = more }) a (Some (Ref message))

reply-view : {T : Type 0} (doing : Doing T) (read : Reading T) → IsReading doing read → (parts : Parts Position) (a : ℕ) (reply : Reply)
    → with_reply doing (parts_view read parts) a reply ≡ parts_view read (with_reply positions parts a reply)
reply-view doing read is parts a (Gives value) = given-view doing read is parts a value
reply-view doing read is parts a (Calls one) = begun-view doing read is parts a one
reply-view doing read is parts a (Starts message) = started-view doing read is parts a message

-- what sending comes to, of the frames that tell it otherwise
abbrev pub sending_view : {T : Type 0} → Reading T → Sending Position → Sending T
sending_view read (Done parts) = Done (parts_view read parts)
sending_view read (Raises number parts) = Raises number (parts_view read parts)
sending_view read (NoMethod parts) = NoMethod (parts_view read parts)

traps-view : {T : Type 0} (read : Reading T) (frames : List (Frame Position)) → traps_no_method (frames_view read frames) ≡ traps_no_method frames
traps-view read [] = refl
traps-view read (frame ∷ frames) = refl

if-view : {T : Type 0} (read : Reading T) (trapped : Bool) (one other : Sending Position)
    → (if trapped then sending_view read one else sending_view read other) ≡ sending_view read (if trapped then one else other)
if-view read true one other = refl
if-view read false one other = refl

sending-by-view : {T : Type 0} (doing : Doing T) (read : Reading T) → IsReading doing read → (parts : Parts Position) (a : ℕ) (one : Delivery)
    → sending_by doing (parts_view read parts) a one ≡ sending_view read (sending_by positions parts a one)
sending-by-view doing read is parts a (d.Replies reply objects) = ap Done (reply-view doing read is (record parts { objects = objects }) a reply)
sending-by-view doing read is parts a (d.Raises number objects) = refl
sending-by-view {T} doing read is parts a (d.NoMethod objects) =
    let after : Parts Position = record parts { objects = objects } in
    ap (λ (trapped : Bool). if trapped then NoMethod (parts_view read after) else Raises method_not_found (parts_view read after))
    (ap traps_no_method (view-frames read parts.activities a) ∙ traps-view read (frames_at parts.activities a))
    ∙ if-view read (traps_no_method (frames_at parts.activities a)) (NoMethod after) (Raises method_not_found after)

sender-with-view : {T : Type 0} (read : Reading T) (full : Bool) (frames : List (Frame Position)) → sender_with full (frames_view read frames) ≡ sender_with full frames
sender-with-view read full [] = refl
sender-with-view read full (frame ∷ frames) =
    ap (λ (n : ℕ). sender_deep frame full (suc n == most_frames)) (length-map (frame_view read) frames)
  where
    sender_deep : Frame Position → Bool → Bool → Sender
    sender_deep top full deep = record { object = object_of top; digits = top.digits; is_deep = deep; is_full = full }

pub sender-view : {T : Type 0} (read : Reading T) (activities : List (Activity Position)) (a : ℕ) → sender_of (activities_view read activities) a ≡ sender_of activities a
sender-view {T} read activities a =
    ap (λ (n : ℕ). sender_with (n == most_activities) (frames_at (activities_view read activities) a)) (length-map (activity_view read) activities)
    ∙ ap (sender_with (length activities == most_activities)) (view-frames read activities a)
    ∙ sender-with-view read (length activities == most_activities) (frames_at activities a)

-- A message does to such frames what it does to those of the code.
pub sent-view : {T : Type 0} (doing : Doing T) (read : Reading T) → IsReading doing read → (facts : Facts) (parts : Parts Position) (a : ℕ) (message : Sent)
    → sent doing facts (parts_view read parts) a message ≡ sending_view read (sent positions facts parts a message)
sent-view {T} doing read is facts parts a message =
    ap (λ (sender : Sender). sending_by doing (parts_view read parts) a (delivery (setting facts parts.classes sender) parts.objects message)) (sender-view read parts.activities a)
    ∙ sending-by-view doing read is parts a (delivery (setting facts parts.classes (sender_of parts.activities a)) parts.objects message)
