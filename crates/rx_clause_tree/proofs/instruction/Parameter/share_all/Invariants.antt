use Rattle.std.proofs.Common.{◌≡◌, take}
use Rattle.rx_clause_tree.proofs.instruction.Parameter.share_all.Given as goal

abbrev pub invariant-loop-parameter : goal.invariant-loop-parameter
invariant-loop-parameter l = l.shared ≡ take l.parameter-index l.parameters
