use Rattle.std.proofs.Common.{◌≡◌, ◌++◌, drop}
use Rattle.rx_eval.specs.Places.{trees_of}
use Rattle.rx_machine.specs.Arguments.{defaults}
use Rattle.rx_codes.proofs.compiling.append_defaults.Given as goal

abbrev pub invariant-loop-place : goal.invariant-loop-place
invariant-loop-place l = record {
  trees : trees_of l.code.instrs ++ defaults (drop l.place l.parameters) (drop l.place l.args)
      ≡ trees_of l.initial.code.instrs ++ defaults l.parameters l.args;
  body : l.code.body ≡ l.initial.code.body;
}
