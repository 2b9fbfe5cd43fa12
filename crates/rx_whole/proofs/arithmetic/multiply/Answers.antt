use Rattle.std.proofs.Common.{arith, FitsSigned, w64, ◌*ℤ◌}
use Rattle.std.specs.Int.{w128}
use Rattle.std.proofs.lemmas.Int.{to_z-of_z}
use Rattle.rx_whole.proofs.ArithmeticLemmas.{answers, product_fits}
use Rattle.rx_whole.proofs.arithmetic.multiply.Goals as goal

pub returns-clause-product : goal.returns-clause-product
returns-clause-product c =
    let left = rw (to_z-of_z w64 c.args.a c.ranges.a) at (c.are_within.ensures.left c.if-not-are_within.false) in
    let right = rw (to_z-of_z w64 c.args.b c.ranges.b) at (c.are_within.ensures.right c.if-not-are_within.false) in
    let fits : FitsSigned w128 (c.args.a *ℤ c.args.b) = product_fits c.args.a c.args.b left right in
    grind (arith, answers)
