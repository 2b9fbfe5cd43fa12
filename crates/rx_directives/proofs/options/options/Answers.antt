use Rattle.std.proofs.Common.{length, ap, arith}
use Rattle.rx_directives.proofs.Lists.{option_less}
use Rattle.rx_directives.proofs.options.options.Goals as goal

pub loop-tokens-smaller : goal.loop-tokens-smaller
loop-tokens-smaller c =
    let e = ap length c.loop-tokens-test.ensures.1 in
    let h = option_less c.loop-tokens.read c.in_ok-read.read c.eat_end.new.tokens c.option.new.tokens c.in_ok-read.ensures in
    omega arith
