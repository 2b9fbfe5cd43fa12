use Rattle.std.proofs.Common.{◌≡◌, drop, map, reverse}
use mathlib.Core.List.{reverse_aux}
use Rattle.rx_eval.specs.Whole.{given}
use Rattle.rx_eval.proofs.building.shape_of.Given as goal

abbrev pub invariant-loop-arg : goal.invariant-loop-arg
invariant-loop-arg l = reverse_aux (map given (drop l.arg-index l.args)) l.shape ≡ reverse (map given l.args)
