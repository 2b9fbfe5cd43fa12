use Rattle.std.proofs.Common.{◌≡◌, ◌++◌, length}
use Rattle.rx_exprs.specs.Reader.{signs}
use Rattle.rx_exprs.proofs.cursor.Cursor.signs.Given as goal

abbrev pub invariant-loop-self : goal.invariant-loop-self
invariant-loop-self l = signs l.initial.self-inside.rest.now ≡ (l.opers ++ (signs l.self-inside.rest.now).0, (signs l.self-inside.rest.now).1)

abbrev pub decreases-loop-self : goal.decreases-loop-self
decreases-loop-self l = length l.self-inside.rest.now
