-- What a message reads of its sender, and of the room that there is.
use Rattle.std.specs.Prelude.{ℕ, ◌==◌, Bool, false, List, [], ◌∷◌, length, Option, None, option_map}
use Rattle.rx_frames.specs.declared.parts.Own.{Own}
use Rattle.rx_frames.specs.Frames.{Frame}
use Rattle.rx_frames.specs.Activities.{Activity, frames_at}
use Rattle.rx_sends.specs.declared.sender.Sender.{Sender}

-- the most frames of an activity
abbrev pub most_frames : ℕ
most_frames = 1000

-- the most activities
abbrev pub most_activities : ℕ
most_activities = 65536

-- the object of a frame: a method's has one
abbrev pub object_of : {Todo : Type 0} → Frame Todo → Option ℕ
object_of frame = option_map (λ (own : Own). own.object) frame.own

abbrev pub sender_with : {Todo : Type 0} → Bool → List (Frame Todo) → Sender
sender_with full [] = record { object = None; digits = 9; is_deep = false; is_full = full }
sender_with full (frame ∷ frames) = record {
  object = object_of frame;
  digits = frame.digits;
  is_deep = length (frame ∷ frames) == most_frames;
  is_full = full;
}

-- The sender of an activity's message is its frame on top. A first message has none: it has no object, and DIGITS is 9.
abbrev pub sender_of : {Todo : Type 0} → List (Activity Todo) → ℕ → Sender
sender_of activities a = sender_with (length activities == most_activities) (frames_at activities a)
