use Rattle.std.proofs.Common.{◌≡◌, drop}
use Rattle.rx_eval.specs.Whole as spec
use Rattle.rx_eval.proofs.whole.+whole.Given as goal

abbrev pub invariant-are_args_whole-loop-arg : goal.invariant-are_args_whole-loop-arg
invariant-are_args_whole-loop-arg l = spec.args_whole (drop l.arg-index l.args) ≡ spec.args_whole l.args

abbrev pub invariant-are_parts_whole-loop-part : goal.invariant-are_parts_whole-loop-part
invariant-are_parts_whole-loop-part l = spec.parts_whole (drop l.part-index l.parts) ≡ spec.parts_whole l.parts

abbrev pub invariant-are_terms_whole-loop-term : goal.invariant-are_terms_whole-loop-term
invariant-are_terms_whole-loop-term l = spec.terms_whole (drop l.term-index l.terms) ≡ spec.terms_whole l.terms
