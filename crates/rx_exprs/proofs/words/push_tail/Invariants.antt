use Rattle.std.proofs.Common.{◌≡◌, ◌++◌, length}
use Rattle.rx_tree.specs.Terms.{dotted}
use Rattle.rx_exprs.proofs.words.push_tail.Given as goal

abbrev pub invariant-loop-rest : goal.invariant-loop-rest
invariant-loop-rest l = l.bytes.items ++ dotted l.rest ≡ l.initial.bytes.items ++ dotted l.tail

abbrev pub decreases-loop-rest : goal.decreases-loop-rest
decreases-loop-rest l = length l.rest
