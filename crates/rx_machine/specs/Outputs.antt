-- SAY.
use Rattle.std.specs.Prelude.{ℕ, List, [], ◌∷◌, ◌++◌}
use Rattle.rx_tree.specs.declared.value.Value.{Value}
use Rattle.rx_machine.specs.Values.{text_of}
use Rattle.rx_machine.specs.World.{World}
use Rattle.rx_machine.specs.Turns.{Turn, goes_on}

-- the string, if there is one, and a line feed
abbrev pub line_said : List Value → List ℕ
line_said values = text_of values ++ 10 ∷ []

-- `SAY [e]` writes a line.
abbrev pub says : Turn → List Value → World
says t values = record (goes_on t) { output = t.world.output ++ line_said values }
