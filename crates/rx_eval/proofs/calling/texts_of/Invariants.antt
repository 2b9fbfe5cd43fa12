use Rattle.std.proofs.Common.{◌≡◌, take}
use Rattle.rx_eval.specs.Calling as calls
use Rattle.rx_eval.proofs.calling.texts_of.Given as goal

abbrev pub invariant-loop-value : goal.invariant-loop-value
invariant-loop-value l = l.texts ≡ calls.texts_of (take l.value-index l.values)
