use Rattle.std.proofs.Common.{◌≡◌, min, max, drop}
use Rattle.rx_tree.specs.Nesting as spec
use Rattle.rx_tree.proofs.nesting.+nesting.Given as goal

abbrev pub invariant-nesting_of_args-loop-arg : goal.invariant-nesting_of_args-loop-arg
invariant-nesting_of_args-loop-arg l = max l.deepest (min (spec.nesting_of_args (drop l.arg-index l.args)) 4294967295) ≡ min (spec.nesting_of_args l.args) 4294967295

abbrev pub invariant-nesting_of_parts-loop-part : goal.invariant-nesting_of_parts-loop-part
invariant-nesting_of_parts-loop-part l = max l.deepest (min (spec.nesting_of_parts (drop l.part-index l.parts)) 4294967295) ≡ min (spec.nesting_of_parts l.parts) 4294967295

abbrev pub invariant-nesting_of_terms-loop-term : goal.invariant-nesting_of_terms-loop-term
invariant-nesting_of_terms-loop-term l = max l.deepest (min (spec.nesting_of_terms (drop l.term-index l.terms)) 4294967295) ≡ min (spec.nesting_of_terms l.terms) 4294967295
