-- Lines of input that are given.
use Rattle.std.specs.Prelude.{ℕ, true, List, [], ◌∷◌, Option, None, Some}
use Rattle.rx_machine.specs.Input.{with_more}
use Rattle.rx_machine.specs.World.{World}

-- A line is given behind the others; or there is none any more.
abbrev pub given : World → Option (List ℕ) → World
given w None = with_more [] true w
given w (Some line) = with_more (line ∷ []) w.ended w
