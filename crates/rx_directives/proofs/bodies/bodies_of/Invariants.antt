use Rattle.std.proofs.Common.{◌≡◌, ◌++◌, length, reverse}
use Rattle.rx_directives.specs.Packages as spec
use Rattle.rx_directives.proofs.bodies.bodies_of.Given as goal

-- the bodies of the directives that are left, and behind them those that were made, the last one first
abbrev pub invariant-loop-directive : goal.invariant-loop-directive
invariant-loop-directive l = spec.bodies_of l.initial.left ≡ spec.bodies_of l.left ++ reverse l.bodies.items

abbrev pub decreases-loop-directive : goal.decreases-loop-directive
decreases-loop-directive l = length l.left
