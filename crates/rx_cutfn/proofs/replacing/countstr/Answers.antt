use Rattle.std.proofs.Common.{arith, length, ap}
use Rattle.rx_cutfn.specs.Replacing.{countstr}
use Rattle.rx_cutfn.proofs.PlaceLemmas.{some_bytes}
use Rattle.rx_cutfn.proofs.PieceLemmas.{pieces_of, pieces_found, pieces_not_found}
use Rattle.rx_cutfn.proofs.replacing.countstr.Goals as goal

pub loop-at-preserved : goal.loop-at-preserved
loop-at-preserved c =
    let some = some_bytes c.args.needle.now c.if-is_empty.ensures in
    let is = rw c.new-finder.ensures at c.in-Some.ensures in
    let found = ap length (pieces_found c.args.needle.now c.loop-at.rest.now c.in-Some.at some is) in
    let fits = is.1.fits in
    grind arith

pub returns : goal.returns
unfolding countstr
returns c =
    let some = some_bytes c.args.needle.now c.if-is_empty.ensures in
    let is = rw c.new-finder.ensures at c.in_default.ensures in
    let found = ap length (pieces_not_found c.args.needle.now c.loop-at.rest.now some is) in
    let whole = ap length (pieces_of c.args.needle.now c.args.text.now some) in
    grind arith
