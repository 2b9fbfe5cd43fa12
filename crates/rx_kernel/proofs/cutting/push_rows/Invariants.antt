use Rattle.std.proofs.Common.{◌≡◌, ◌++◌, drop}
use Rattle.std.specs.Prelude.{flat_map}
use Rattle.rx_machine.specs.Templates.{row}
use Rattle.rx_kernel.proofs.cutting.push_rows.Given as goal

abbrev pub invariant-loop-piece : goal.invariant-loop-piece
invariant-loop-piece l = l.initial.rows ++ flat_map (row l.bound.targets) l.piece-items ≡ l.rows ++ flat_map (row l.bound.targets) (drop l.piece-index l.piece-items)
