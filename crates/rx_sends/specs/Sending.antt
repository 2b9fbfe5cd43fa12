-- What a message does to the frames, the objects and the pools.
use Rattle.std.specs.Prelude.{◌≡◌, ℕ, Bool, true, false, if◌then◌else◌, List, [], ◌∷◌, ◌++◌, Option, Some, None, unwrap_or, Result, Err, OnOk}
use Rattle.std.specs.List.{list_any}
use Rattle.rx_builtin.specs.declared.facts.Facts.{Facts}
use Rattle.rx_tree.specs.Object.{Object, Contents, Message, Plain, ClassObject, Places, Line, Names}
use Rattle.rx_tree.specs.declared.value.Value.{Value}
use Rattle.rx_tree.specs.declared.value.Value.TheVariants.{Ref}
use Rattle.rx_tree.specs.declared.activity.Condition.{Condition}
use Rattle.rx_tree.specs.declared.activity.Condition.TheVariants as condition
use Rattle.rx_tree.specs.declared.activity.FrameKind.{FrameKind}
use Rattle.rx_tree.specs.declared.activity.FrameKind.TheVariants as kind
use Rattle.rx_tree.specs.declared.activity.Outcome.{Outcome}
use Rattle.rx_tree.specs.declared.activity.Outcome.TheVariants.{Given}
use Rattle.rx_heap.specs.Objects.{contents_at, with_contents}
use Rattle.rx_pools.specs.Pools.{pool_number, with_pool}
use Rattle.rx_frames.specs.declared.activity.Wait.{Wait}
use Rattle.rx_frames.specs.declared.activity.Wait.TheVariants as w
use Rattle.rx_frames.specs.declared.parts.Trap.{Trap}
use Rattle.rx_frames.specs.Frames.{Doing, Frame, with_todo}
use Rattle.rx_frames.specs.Activities.{Activity, activity_at, first_message, frames_at, waiting, with_change_at, with_frames, with_top_changed}
use Rattle.rx_native.specs.Outcomes.{or_nil}
use Rattle.rx_sends.specs.declared.call.Call.{Call}
use Rattle.rx_sends.specs.declared.parts.Sent.{Sent}
use Rattle.rx_sends.specs.declared.refused.SendRefused.{SendRefused}
use Rattle.rx_sends.specs.declared.refused.SendRefused.TheVariants as refused
use Rattle.rx_sends.specs.declared.reply.Reply.{Reply}
use Rattle.rx_sends.specs.declared.reply.Reply.TheVariants.{Gives, Calls, Starts}
use Rattle.rx_sends.specs.Calls.{frame_of}
use Rattle.rx_sends.specs.Delivering.{delivery}
use Rattle.rx_sends.specs.Refusals.{execution_error, method_not_found}
use Rattle.rx_sends.specs.Replies.{Delivery}
use Rattle.rx_sends.specs.Replies as d
use Rattle.rx_sends.specs.Senders.{sender_of}
use Rattle.rx_sends.specs.Settings.{setting}
use Rattle.rx_sends.specs.Parts.{Parts}

-- ---- activities

-- an activity waits so
abbrev pub with_wait : {Todo : Type 0} → List (Activity Todo) → ℕ → Wait → List (Activity Todo)
with_wait {Todo} activities a wait = with_change_at activities a (λ (activity : Activity Todo). waiting wait activity.frames)

-- a frame is on top of an activity's
abbrev pub with_top : {Todo : Type 0} → List (Activity Todo) → ℕ → Frame Todo → List (Activity Todo)
with_top activities a frame = with_change_at activities a (with_frames (frame ∷ frames_at activities a))

-- ---- a value

abbrev pub with_outcome_of : List Object → ℕ → Outcome → Contents → List Object
with_outcome_of objects message outcome (Message sending) =
    with_contents objects message (Message (record sending { outcome = outcome }))
with_outcome_of objects message outcome Plain = objects
with_outcome_of objects message outcome ClassObject = objects
with_outcome_of objects message outcome (Places places) = objects
with_outcome_of objects message outcome (Line items) = objects
with_outcome_of objects message outcome (Names entries) = objects

-- the objects once a Message's message has come to this
abbrev pub with_outcome : List Object → ℕ → Outcome → List Object
with_outcome objects message outcome = with_outcome_of objects message outcome (contents_at objects message)

abbrev pub completed : List Object → Option ℕ → Outcome → List Object
completed objects None outcome = objects
completed objects (Some message) outcome = with_outcome objects message outcome

-- An activity's first message has given a value, or none: its Message has it, or `.nil`, and the activity has ended.
abbrev pub first_answered : {Todo : Type 0} → Parts Todo → ℕ → Option Value → Parts Todo
first_answered parts a value = record parts {
  objects = completed parts.objects (first_message (activity_at parts.activities a)) (Given (or_nil value));
  activities = with_wait parts.activities a w.Nothing;
}

-- the activities, once the frame on top of one of them has a value, or none
abbrev pub answered_above : {Todo : Type 0} → Doing Todo → List (Activity Todo) → ℕ → Option Value → List (Activity Todo)
answered_above doing activities a value = with_change_at activities a (with_top_changed (with_todo (doing.answered value)))

abbrev pub given_to : {Todo : Type 0} → Doing Todo → Parts Todo → ℕ → Option Value → List (Frame Todo) → Parts Todo
given_to doing parts a value [] = first_answered parts a value
given_to doing parts a value (frame ∷ frames) = record parts { activities = answered_above doing parts.activities a value }

-- the sender of a message has a value, or none
abbrev pub given : {Todo : Type 0} → Doing Todo → Parts Todo → ℕ → Option Value → Parts Todo
given doing parts a value = given_to doing parts a value (frames_at parts.activities a)

-- ---- a method of the package

-- The method's frame is on top of the sender's, and the object has a pool for the method's scope. The frame of a first message completes
-- its Message, and the activity doesn't wait any more.
abbrev pub begun : {Todo : Type 0} → Doing Todo → Parts Todo → ℕ → Call → Parts Todo
begun doing parts a call =
    let pools = with_pool parts.pools call.object call.method.scope in
    let pool = unwrap_or (pool_number pools call.object call.method.scope) 0 in
    let frame = frame_of (doing.beginning call.method.body) call pool (first_message (activity_at parts.activities a)) in
    record parts { pools = pools; activities = with_wait (with_top parts.activities a frame) a w.Nothing }

-- ---- START

-- a further activity is to send a Message's message, and the sender has the Message
abbrev pub started : {Todo : Type 0} → Doing Todo → Parts Todo → ℕ → ℕ → Parts Todo
started doing parts a message =
    given doing (record parts { activities = parts.activities ++ waiting (w.First message) [] ∷ [] }) a (Some (Ref message))

-- ---- messages

abbrev pub with_reply : {Todo : Type 0} → Doing Todo → Parts Todo → ℕ → Reply → Parts Todo
with_reply doing parts a (Gives value) = given doing parts a value
with_reply doing parts a (Calls call) = begun doing parts a call
with_reply doing parts a (Starts message) = started doing parts a message

-- What sending comes to, and what is then: it is done, or an error is raised, or there is no method, and the sender traps that.
pub data Sending (Todo : Type 0) : Type 0 where
  Done : Parts Todo → Sending Todo
  Raises : ℕ → Parts Todo → Sending Todo
  NoMethod : Parts Todo → Sending Todo

abbrev pub is_no_method : Condition → Bool
is_no_method condition.NoMethod = true
is_no_method condition.Syntax = false
is_no_method condition.NoValue = false
is_no_method (condition.User name) = false

-- whether the frame on top traps NOMETHOD
abbrev pub traps_no_method : {Todo : Type 0} → List (Frame Todo) → Bool
traps_no_method [] = false
traps_no_method (frame ∷ frames) = list_any (λ (trap : Trap). is_no_method trap.condition) frame.traps

abbrev pub sending_by : {Todo : Type 0} → Doing Todo → Parts Todo → ℕ → Delivery → Sending Todo
sending_by doing parts a (d.Replies reply objects) = Done (with_reply doing (record parts { objects = objects }) a reply)
sending_by doing parts a (d.Raises number objects) = Raises number (record parts { objects = objects })
sending_by doing parts a (d.NoMethod objects) =
    let after = record parts { objects = objects } in
    if traps_no_method (frames_at parts.activities a) then NoMethod after else Raises method_not_found after

-- A message is sent by the frame on top of an activity, or as its first message.
abbrev pub sent : {Todo : Type 0} → Doing Todo → Facts → Parts Todo → ℕ → Sent → Sending Todo
sent doing facts parts a message =
    sending_by doing parts a (delivery (setting facts parts.classes (sender_of parts.activities a)) parts.objects message)

abbrev pub is_internal : {Todo : Type 0} → List (Frame Todo) → Bool
is_internal [] = false
is_internal (frame ∷ frames) = is_internal_kind frame.kind
  where
    is_internal_kind : FrameKind → Bool
    is_internal_kind kind.Internal = true
    is_internal_kind kind.Main = false
    is_internal_kind kind.Method = false
    is_internal_kind kind.Routine = false

-- FORWARD sends as a message clause does; an internal routine may not do it.
abbrev pub forwarded : {Todo : Type 0} → Doing Todo → Facts → Parts Todo → ℕ → Sent → Sending Todo
forwarded doing facts parts a message =
    if is_internal (frames_at parts.activities a) then Raises execution_error parts else sent doing facts parts a message

-- A call's answer, with what is then, is what sending comes to; or else memory is wanting.
pub record Sends {Todo : Type 0} (result : Result (Unit {0}) SendRefused) (after : Parts Todo) (sending : Sending Todo) : Type 0 where
  pub done : OnOk result (sending ≡ Done after)
  pub raised : (number : ℕ) → result ≡ Err (refused.Raised number) → sending ≡ Raises number after
  pub no_method : result ≡ Err refused.NoMethod → sending ≡ NoMethod after
