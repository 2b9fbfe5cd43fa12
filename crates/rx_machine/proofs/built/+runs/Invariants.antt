use Rattle.std.proofs.Common.{◌≡◌, drop}
use Rattle.rx_machine.specs.Built as spec
use Rattle.rx_machine.proofs.built.+runs.Given as goal

abbrev pub invariant-args_run-loop-arg : goal.invariant-args_run-loop-arg
invariant-args_run-loop-arg l = spec.args_run (drop l.arg-index l.args) ≡ spec.args_run l.args

abbrev pub invariant-parts_run-loop-part : goal.invariant-parts_run-loop-part
invariant-parts_run-loop-part l = spec.parts_run (drop l.part-index l.parts) ≡ spec.parts_run l.parts

abbrev pub invariant-terms_run-loop-term : goal.invariant-terms_run-loop-term
invariant-terms_run-loop-term l = spec.terms_run (drop l.term-index l.terms) ≡ spec.terms_run l.terms
