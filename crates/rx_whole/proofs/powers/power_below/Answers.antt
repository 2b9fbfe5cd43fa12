use Rattle.std.proofs.Common.{◌≤◌, ◌+◌, ◌^◌, arith, ◌∙◌, sym, ap}
use Rattle.rx_whole.proofs.DigitsLemmas.{small_base, below-yes, below-later, power_next}
use Rattle.rx_whole.specs.Digits.{below}
use Rattle.rx_whole.proofs.powers.power_below.Goals as goal

pub returns-else-exponent-eq0 : goal.returns-else-exponent-eq0
returns-else-exponent-eq0 c =
    sym (ap (below c.args.limit) (small_base c.args.base c.args.exponent c.if-base-lt2.true c.if-exponent-eq0.false) ∙ below-yes c.args.limit c.args.base c.requires.base_below)

pub returns-then-power-from : goal.returns-then-power-from
returns-then-power-from c =
    let reached : c.args.limit ≤ c.args.base ^ (c.loop.counter + 1) = grind (arith, power_next) in
    sym (below-later c.args.limit c.args.base c.args.exponent (c.loop.counter + 1) (omega arith) reached (omega arith))
