use Rattle.std.proofs.Common.{◌≡◌, take}
use Rattle.rx_codes.proofs.classes.share_methods.Given as goal

abbrev pub invariant-loop-method : goal.invariant-loop-method
invariant-loop-method l = l.shared ≡ take l.method-index l.methods
