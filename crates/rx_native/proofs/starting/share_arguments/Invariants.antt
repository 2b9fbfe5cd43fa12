use Rattle.std.proofs.Common.{◌≡◌, take}
use Rattle.rx_native.proofs.starting.share_arguments.Given as goal

abbrev pub invariant-loop-argument : goal.invariant-loop-argument
invariant-loop-argument l = l.shared ≡ take l.argument-index l.args
