use Rattle.std.proofs.Common.{arith}
use Rattle.rx_cutfn.specs.Searching.{lastpos}
use Rattle.rx_cutfn.proofs.PlaceLemmas.{some_bytes, last_place_found, last_place_not_found}
use Rattle.rx_cutfn.proofs.searching.lastpos.Goals as goal

pub returns-in-Some : goal.returns-in-Some
unfolding lastpos
returns-in-Some c =
    let some = some_bytes c.args.needle.now c.if-is_empty.ensures in
    let found = last_place_found c.args.text.now c.args.needle.now c.in-Some.at some c.in-Some.ensures in
    grind arith

pub returns-in-None : goal.returns-in-None
unfolding lastpos
returns-in-None c =
    let some = some_bytes c.args.needle.now c.if-is_empty.ensures in
    let found = last_place_not_found c.args.text.now c.args.needle.now some c.in-None.ensures in
    grind arith
