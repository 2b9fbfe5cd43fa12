use Rattle.std.proofs.Common.{arith}
use Rattle.std.proofs.lemmas.Grind.{common_steps}
use Rattle.rx_cutfn.specs.Cutting.{right}
use Rattle.rx_cutfn.proofs.FittedLemmas.{fitted_at_end_parts, length-fitted_at_end}
use Rattle.rx_cutfn.proofs.cutting.right.Goals as goal

pub returns : goal.returns
unfolding right
returns c =
    let parts = fitted_at_end_parts c.args.length c.args.pad c.args.text.now in
    let long = length-fitted_at_end c.args.length c.args.pad c.args.text.now in
    grind (arith, common_steps)
