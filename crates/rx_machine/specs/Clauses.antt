-- What each kind of clause evaluates, and what it does with the values.
use Rattle.std.specs.Prelude.{ℕ, true, false, List, [], ◌∷◌, Option, None}
use Rattle.rx_tree.specs.declared.value.Value.{Value}
use Rattle.rx_clause_tree.specs.declared.simple.Simple.{Simple}
use Rattle.rx_clause_tree.specs.declared.simple.Simple.TheVariants.{Assign, Drop, Expose, Message, Parse, Push, Queue, Return, Say, UseArg}
use Rattle.rx_frames.specs.Frames.{Frame}
use Rattle.rx_eval.specs.Places.{Trees}
use Rattle.rx_machine.specs.Todo.{Todo}
use Rattle.rx_machine.specs.World.{Stepped, Done}
use Rattle.rx_machine.specs.Turns.{Turn, goes_on}
use Rattle.rx_machine.specs.Values.{first_value, given_tree}
use Rattle.rx_machine.specs.Ending.{ended}
use Rattle.rx_machine.specs.Outputs.{says}
use Rattle.rx_machine.specs.Queues.{pushes, queues}
use Rattle.rx_machine.specs.Variables.{drops, exposes_own, sets, sets_result}
use Rattle.rx_machine.specs.Arguments.{defaults, refuses, uses}
use Rattle.rx_machine.specs.Templates.{parses, trees_from}

-- The expressions of a clause in a frame with these arguments, in the order in which they are evaluated, each with whether a string is wanted of it.
abbrev pub trees_of : List (Option Value) → Simple → Trees
trees_of args (Say given) = given_tree true given
trees_of args (Assign name expr) = (expr, false) ∷ []
trees_of args (Message expr) = (expr, false) ∷ []
trees_of args (Return given) = given_tree false given
trees_of args (UseArg strict parameters) = defaults parameters args
trees_of args (Parse parse) = trees_from parse.from
trees_of args (Push given) = given_tree true given
trees_of args (Queue given) = given_tree true given
trees_of args _ = []

-- the error that a clause raises before it evaluates anything
abbrev pub refused : Frame Todo → Simple → Option ℕ
refused frame (UseArg strict parameters) = refuses strict frame.kind parameters frame.arguments
refused frame _ = None

-- What a clause does at its end, when its expressions have these values. Clauses that aren't here don't run yet.
unfoldable pub finish : Turn → Simple → List Value → Stepped
finish t (Say given) values = Done (says t values)
finish t (Assign name expr) values = Done (sets t name (first_value values))
finish t (Message expr) values = Done (sets_result t (first_value values))
finish t (Return given) values = Done (ended t.world t.number t.frame (first_value values))
finish t (Expose names) values = Done (exposes_own t names)
finish t (UseArg strict parameters) values = Done (uses t parameters values)
finish t (Parse parse) values = parses t parse values
finish t (Push given) values = Done (pushes t values)
finish t (Queue given) values = Done (queues t values)
finish t (Drop names) values = Done (drops t names)
finish t _ values = Done (goes_on t)
