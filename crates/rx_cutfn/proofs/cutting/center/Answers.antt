use Rattle.std.proofs.Common.{arith}
use Rattle.std.proofs.lemmas.Grind.{common_steps}
use Rattle.rx_cutfn.specs.Cutting.{center}
use Rattle.rx_cutfn.proofs.FittedLemmas.{centered_parts, length-centered}
use Rattle.rx_cutfn.proofs.cutting.center.Goals as goal

pub returns : goal.returns
unfolding center
returns c =
    let parts = centered_parts c.args.length c.args.pad c.args.text.now in
    let long = length-centered c.args.length c.args.pad c.args.text.now in
    grind (arith, common_steps)
