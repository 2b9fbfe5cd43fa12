use Rattle.std.proofs.Common.{arith, ◌*◌, ◌≤◌, length}
use Rattle.std.proofs.lemmas.Grind.{common_steps}
use Rattle.rx_cutfn.specs.Replacing.{changestr}
use Rattle.rx_cutfn.proofs.PlaceLemmas.{some_bytes}
use Rattle.rx_cutfn.proofs.PieceLemmas.{length-changed, places_fit}
use Rattle.rx_cutfn.proofs.replacing.changestr.Goals as goal

pub overflow_sub-kept : goal.overflow_sub-kept
overflow_sub-kept c =
    let some = some_bytes c.args.needle.now c.if-is_empty.ensures in
    rw c.countstr-count.ensures.count (places_fit c.args.needle.now c.args.text.now some)

pub overflow_mul-kept : goal.overflow_mul-kept
overflow_mul-kept c =
    let fit : c.countstr-count.result * length c.args.needle.now ≤ length c.args.text.now =
    rw c.countstr-count.ensures.count (places_fit c.args.needle.now c.args.text.now (some_bytes c.args.needle.now c.if-is_empty.ensures)) in
    grind (arith, common_steps)

pub returns-in_err-bytes : goal.returns-in_err-bytes
unfolding changestr
returns-in_err-bytes c =
    let some = some_bytes c.args.needle.now c.if-is_empty.ensures in
    let long = length-changed c.args.needle.now c.args.text.now c.args.new.now some in
    let fit = places_fit c.args.needle.now c.args.text.now some in
    grind (arith, common_steps)

pub returns : goal.returns
unfolding changestr
returns c =
    let some = some_bytes c.args.needle.now c.if-is_empty.ensures in
    let long = length-changed c.args.needle.now c.args.text.now c.args.new.now some in
    let fit = places_fit c.args.needle.now c.args.text.now some in
    grind (arith, common_steps)
