use Rattle.std.proofs.Common.{◌≡◌, take}
use Rattle.rx_kernel.proofs.first.share_args.Given as goal

abbrev pub invariant-loop-arg : goal.invariant-loop-arg
invariant-loop-arg l = l.shared ≡ take l.arg-index l.args
