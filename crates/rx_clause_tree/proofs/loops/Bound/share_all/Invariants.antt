use Rattle.std.proofs.Common.{◌≡◌, take}
use Rattle.rx_clause_tree.proofs.loops.Bound.share_all.Given as goal

abbrev pub invariant-loop-bound : goal.invariant-loop-bound
invariant-loop-bound l = l.shared ≡ take l.bound-index l.bounds
