use Rattle.std.proofs.Common.{◌∙◌, rules}
use Rattle.rx_eval.specs.Places.{trees_of}
use Rattle.rx_codes.proofs.DefaultLemmas.{defaults_next}
use Rattle.rx_codes.proofs.compiling.append_defaults.Goals as goal

pub loop-place-preserved : goal.loop-place-preserved
loop-place-preserved c = record {
  trees =
      defaults_next (trees_of c.loop-place.code.instrs) (trees_of c.append_default.new.code.instrs) c.args.parameters.now c.args.args.now c.loop-place.place
      c.index-parameters-place.result c.loop-place-test.true c.index-parameters-place.is c.in_ok-append_default.ensures.trees
      ∙ c.loop-place.invariant.trees;
  body = search rules;
}
