-- Activities: their states, what they wait for, and their frames.
use Rattle.std.specs.Prelude.{◌≡◌, ℕ, zero, suc, ◌<◌, ◌≤◌, List, [], ◌∷◌, length, slice_get, slice_set, Option, None, Some}
use Rattle.rx_tree.specs.declared.value.Value.{Value}
use Rattle.rx_tree.specs.declared.name.Derived.{Derived}
use Rattle.rx_frames.specs.declared.parts.Own.{Own}
use Rattle.rx_frames.specs.declared.activity.Look.{Look}
use Rattle.rx_frames.specs.declared.activity.Look.TheVariants as look
use Rattle.rx_frames.specs.declared.activity.Wait.{Wait as Given}
use Rattle.rx_frames.specs.declared.activity.Wait.TheVariants as given
use Rattle.rx_frames.specs.Frames.{Frame, IsShared, asked_by, with_value}

pub data State : Type 0 where
  -- it waits for a Message to be complete before it begins
  NotLive : State
  Live : State
  Over : State

-- What an activity waits for; where a frame asks for its pool, its frame says so.
pub data Wait : Type 0 where
  Nothing : Wait
  -- its first step sends this Message's message
  First : ℕ → Wait
  -- this Message isn't complete
  Message : ℕ → Wait
  -- the guard of its top frame
  Guard : Wait

-- An activity: its frames, the top first.
pub record Activity (Todo : Type 0) : Type 0 where
  pub state : State
  pub frames : List (Frame Todo)
  pub wait : Wait

-- ---- states

-- an activity that waits for nothing is live while it has a frame
abbrev pub live_by : {Todo : Type 0} → List (Frame Todo) → State
live_by [] = Over
live_by (frame ∷ frames) = Live

-- An activity that waits so, with these frames. One that isn't live yet has the Message that it will send.
abbrev pub waiting : {Todo : Type 0} → Given → List (Frame Todo) → Activity Todo
waiting given.Nothing frames = record { state = live_by frames; frames = frames; wait = Nothing }
waiting (given.First message) frames = record { state = Live; frames = frames; wait = First message }
waiting (given.Message message) frames = record { state = Live; frames = frames; wait = Message message }
waiting given.Guard frames = record { state = Live; frames = frames; wait = Guard }
waiting (given.NotLive message) frames = record { state = NotLive; frames = frames; wait = First message }

-- the state of an activity that was begun, waits so and has these frames
abbrev pub live_with : {Todo : Type 0} → Wait → List (Frame Todo) → State
live_with Nothing frames = live_by frames
live_with (First message) frames = Live
live_with (Message message) frames = Live
live_with Guard frames = Live

-- the state of an activity that was in this one, once it has these frames
abbrev pub state_with : {Todo : Type 0} → State → Wait → List (Frame Todo) → State
state_with NotLive wait frames = NotLive
state_with Live wait frames = live_with wait frames
state_with Over wait frames = live_with wait frames

-- the activity, once it has these frames
abbrev pub with_frames : {Todo : Type 0} → List (Frame Todo) → Activity Todo → Activity Todo
with_frames frames activity = record activity { state = state_with activity.state activity.wait frames; frames = frames }

-- ---- activities by their numbers

-- the activity of a number; numbers begin at 1, and 0 is none
abbrev pub activity_at : {Todo : Type 0} → List (Activity Todo) → ℕ → Option (Activity Todo)
activity_at activities zero = None
activity_at activities (suc place) = slice_get activities place

-- an activity of this number was begun
abbrev pub IsBegun : {Todo : Type 0} → List (Activity Todo) → ℕ → Type 0
IsBegun activities a = (0 < a) × (a ≤ length activities)

abbrev pub frames_of : {Todo : Type 0} → Option (Activity Todo) → List (Frame Todo)
frames_of None = []
frames_of (Some activity) = activity.frames

-- the frames of an activity, the top first
abbrev pub frames_at : {Todo : Type 0} → List (Activity Todo) → ℕ → List (Frame Todo)
frames_at activities a = frames_of (activity_at activities a)

abbrev pub with_change_of : {A : Type 0} → List A → ℕ → (A → A) → Option A → List A
with_change_of items place change None = items
with_change_of items place change (Some item) = slice_set items place (change item)

-- the activities, once the one of a number is changed so
abbrev pub with_change_at : {Todo : Type 0} → List (Activity Todo) → ℕ → (Activity Todo → Activity Todo) → List (Activity Todo)
with_change_at activities zero change = activities
with_change_at activities (suc place) change = with_change_of activities place change (slice_get activities place)

-- the activities, once the frame that stands so many beneath the top of one of them is this one
abbrev pub with_frame : {Todo : Type 0} → List (Activity Todo) → ℕ → ℕ → Frame Todo → List (Activity Todo)
with_frame activities a down frame =
    with_change_at activities a (λ activity. record activity { frames = slice_set activity.frames down frame })

-- the activity once a name has this value, or none, in the variables of the frame that stands so many beneath the top
abbrev pub with_value_below : {Todo : Type 0} → ℕ → Derived → Option Value → Activity Todo → Activity Todo
with_value_below down name value activity =
    record activity { frames = with_change_of activity.frames down (with_value name value) (slice_get activity.frames down) }

-- the activity once its top frame is changed so
abbrev pub with_top_changed : {Todo : Type 0} → (Frame Todo → Frame Todo) → Activity Todo → Activity Todo
with_top_changed change activity = record activity { frames = with_change_of activity.frames 0 change (slice_get activity.frames 0) }

-- ---- frames that share variables

-- the first so many of these frames share all variables of their callers
abbrev pub ShareAll : {Todo : Type 0} → List (Frame Todo) → ℕ → Type 0
ShareAll {Todo} frames count = (k : ℕ) (frame : Frame Todo) → k < count → slice_get frames k ≡ Some frame → IsShared frame.variables

-- ---- what is looked at

-- the pool that the top frame asks for
abbrev pub asked : {Todo : Type 0} → List (Frame Todo) → Option Own
asked [] = None
asked (frame ∷ frames) = asked_by frame

abbrev pub look_waiting : Wait → Look
look_waiting Nothing = look.Runs
look_waiting (First message) = look.Runs
look_waiting (Message message) = look.Message message
look_waiting Guard = look.Guard

abbrev pub look_live : Option Own → Wait → Look
look_live (Some own) wait = look.Asks own.pool
look_live None wait = look_waiting wait

abbrev pub look_by : State → Option Own → Wait → Look
look_by NotLive own wait = look.Ended
look_by Live own wait = look_live own wait
look_by Over own wait = look.Ended

-- What is to be seen of an activity: that it isn't live, or that its top frame asks for a pool, or what it waits for.
abbrev pub seen : {Todo : Type 0} → Activity Todo → Look
seen activity = look_by activity.state (asked activity.frames) activity.wait

abbrev pub seen_of : {Todo : Type 0} → Option (Activity Todo) → Look
seen_of None = look.Ended
seen_of (Some activity) = seen activity

-- the Message that an activity waits to send, or will send once it is live
abbrev pub first_of : Wait → Option ℕ
first_of (First message) = Some message
first_of _ = None

abbrev pub first_message : {Todo : Type 0} → Option (Activity Todo) → Option ℕ
first_message None = None
first_message (Some activity) = first_of activity.wait
