use Rattle.std.proofs.Common.{arith}
use Rattle.rx_cutfn.proofs.FittedLemmas.{fitted_by_resize}
use Rattle.rx_cutfn.proofs.cutting.push_fitted.Goals as goal

pub returns : goal.returns
returns c =
    let e = fitted_by_resize c.args.bytes.now.items c.args.width c.args.pad c.len.result c.args.text.now in
    grind arith
