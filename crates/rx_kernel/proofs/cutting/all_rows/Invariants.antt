use Rattle.std.proofs.Common.{◌≡◌, ◌++◌, drop}
use Rattle.rx_kernel.specs.Parsing.{all_rows_of}
use Rattle.rx_kernel.proofs.cutting.all_rows.Given as goal

abbrev pub invariant-loop-bound : goal.invariant-loop-bound
invariant-loop-bound l = all_rows_of l.bounds l.texts ≡ l.rows ++ all_rows_of (drop l.bound-index l.bounds) l.rest
