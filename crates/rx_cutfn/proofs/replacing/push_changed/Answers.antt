use Rattle.std.proofs.Common.{arith, ap}
use Rattle.std.proofs.lemmas.Grind.{common_steps}
use Rattle.rx_cutfn.specs.Replacing.{joined}
use Rattle.rx_cutfn.proofs.PieceLemmas.{joined_found, joined_not_found, pieces_of}
use Rattle.rx_cutfn.proofs.replacing.push_changed.Goals as goal

pub loop-at-preserved : goal.loop-at-preserved
loop-at-preserved c =
    let is = rw c.new-finder.ensures at c.in-Some.ensures in
    let found = joined_found c.args.needle.now c.loop-at.rest.now c.args.new.now c.in-Some.at c.requires is in
    grind (arith, common_steps)

pub returns : goal.returns
returns c =
    let is = rw c.new-finder.ensures at c.in_default.ensures in
    let found = joined_not_found c.args.needle.now c.loop-at.rest.now c.args.new.now c.requires is in
    let whole = ap (joined c.args.new.now) (pieces_of c.args.needle.now c.args.text.now c.requires) in
    grind (arith, common_steps)
