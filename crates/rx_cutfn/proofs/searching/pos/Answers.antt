use Rattle.std.proofs.Common.{arith}
use Rattle.rx_cutfn.specs.Searching.{pos}
use Rattle.rx_cutfn.proofs.PlaceLemmas.{some_bytes, place_found, place_not_found}
use Rattle.rx_cutfn.proofs.searching.pos.Goals as goal

pub returns-in-Some : goal.returns-in-Some
unfolding pos
returns-in-Some c =
    let some = some_bytes c.args.needle.now c.if-is_empty.ensures in
    let found = place_found c.args.text.now c.args.needle.now c.in_ok-passed.passed c.in-Some.at some (rw c.rest.ensures.rest at c.in-Some.ensures) in
    grind arith

pub returns-in-None : goal.returns-in-None
unfolding pos
returns-in-None c =
    let some = some_bytes c.args.needle.now c.if-is_empty.ensures in
    let found = place_not_found c.args.text.now c.args.needle.now c.in_ok-passed.passed some (rw c.rest.ensures.rest at c.in-None.ensures) in
    grind arith
