use Rattle.std.proofs.Common.{◌≡◌, take}
use Rattle.rx_tree.proofs.equality.+same.Given as goal

abbrev pub invariant-same_args-loop-i : goal.invariant-same_args-loop-i
invariant-same_args-loop-i l = take l.i l.a ≡ take l.i l.b

abbrev pub invariant-same_parts-loop-i : goal.invariant-same_parts-loop-i
invariant-same_parts-loop-i l = take l.i l.a ≡ take l.i l.b

abbrev pub invariant-same_terms-loop-i : goal.invariant-same_terms-loop-i
invariant-same_terms-loop-i l = take l.i l.a ≡ take l.i l.b
