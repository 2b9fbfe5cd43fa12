use Rattle.std.proofs.Common.{◌≡◌, ◌≤◌, length}
use Rattle.rx_builtin.specs.Frames.{given_count}
use Rattle.rx_native.proofs.array.given_count.Given as goal

abbrev pub invariant-loop-front : goal.invariant-loop-front
invariant-loop-front l = (given_count l.rest ≡ given_count l.args) × (length l.rest ≤ length l.args)

abbrev pub decreases-loop-front : goal.decreases-loop-front
decreases-loop-front l = length l.rest
