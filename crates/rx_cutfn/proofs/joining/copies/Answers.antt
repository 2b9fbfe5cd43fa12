use Rattle.std.proofs.Common.{arith}
use Rattle.std.proofs.lemmas.Grind.{common_steps}
use Rattle.rx_cutfn.specs.Cutting.{copies}
use Rattle.rx_cutfn.proofs.FittedLemmas.{length-copies, no_copies, copies_more}
use Rattle.rx_cutfn.proofs.joining.copies.Goals as goal

pub returns-in_err-bytes : goal.returns-in_err-bytes
unfolding copies
returns-in_err-bytes c =
    let long = length-copies c.args.n c.args.text.now in
    grind (arith, common_steps)

pub returns-then-is_empty : goal.returns-then-is_empty
unfolding copies
returns-then-is_empty c = grind (arith, common_steps, no_copies)

pub loop-preserved : goal.loop-preserved
loop-preserved c =
    let more = copies_more c.loop.counter c.args.text.now in
    grind (arith, common_steps)

pub returns : goal.returns
unfolding copies
returns c =
    let long = length-copies c.args.n c.args.text.now in
    grind (arith, common_steps)
