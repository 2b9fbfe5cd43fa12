use Rattle.std.proofs.Common.{◌≡◌, take}
use Rattle.rx_eval.proofs.job.share_all.Given as goal

abbrev pub invariant-loop-value : goal.invariant-loop-value
invariant-loop-value l = l.shared.items ≡ take l.value-index l.values
