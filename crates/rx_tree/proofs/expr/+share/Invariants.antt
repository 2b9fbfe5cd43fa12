use Rattle.std.proofs.Common.{◌≡◌, take}
use Rattle.rx_tree.proofs.expr.+share.Given as goal

abbrev pub invariant-share_args-loop-arg : goal.invariant-share_args-loop-arg
invariant-share_args-loop-arg l = l.shared ≡ take l.arg-index l.args

abbrev pub invariant-share_parts-loop-part : goal.invariant-share_parts-loop-part
invariant-share_parts-loop-part l = l.shared ≡ take l.part-index l.parts

abbrev pub invariant-share_terms-loop-oper : goal.invariant-share_terms-loop-oper
invariant-share_terms-loop-oper l = l.shared ≡ take l.oper-index l.terms
