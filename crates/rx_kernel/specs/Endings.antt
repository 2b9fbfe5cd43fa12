-- What a frame of the code gives that ends, and who has it.
use Rattle.std.specs.Prelude.{ℕ, ◌==◌, List, [], ◌∷◌, Option, option_map, if◌then◌else◌}
use Rattle.rx_tree.specs.declared.value.Value.{Value}
use Rattle.rx_tree.specs.declared.value.Value.TheVariants.{Ref}
use Rattle.rx_frames.specs.declared.parts.Own.{Own}
use Rattle.rx_frames.specs.declared.position.Position.{Position}
use Rattle.rx_frames.specs.Frames.{Frame, positions}
use Rattle.rx_frames.specs.Activities.{Activity}
use Rattle.rx_sends.specs.Sending.{answered_above}
use Rattle.rx_machine.specs.Ending.{ending_of}
use Rattle.rx_machine.specs.World.{Ending}

-- INIT that NEW sent gives the object
abbrev pub given_by : Frame Position → Option Value → Option Value
given_by frame value = if frame.made then option_map (λ (own : Own). Ref own.object) frame.own else value

-- the frame beneath has the value, if there is one
abbrev pub handed_to : List (Activity Position) → ℕ → Option Value → List (Frame Position) → List (Activity Position)
handed_to activities a value [] = activities
handed_to activities a value (frame ∷ frames) = answered_above positions activities a value

-- how the main program ended, where its last frame has
abbrev pub main_with : List (Frame Position) → ℕ → Option Value → Ending → Ending
main_with [] a value main = if a == 1 then ending_of value else main
main_with (frame ∷ frames) a value main = main
