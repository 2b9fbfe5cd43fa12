use Rattle.std.proofs.Common.{take}
use Rattle.rx_native.specs.Fitting.{AreThere}
use Rattle.rx_kernel.proofs.sending.are_there.Given as goal

abbrev pub invariant-loop-arg : goal.invariant-loop-arg
invariant-loop-arg l = AreThere l.heap (take l.arg-index l.args)
