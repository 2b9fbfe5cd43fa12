use Rattle.std.proofs.Common.{length, ap, arith}
use Rattle.rx_directives.proofs.Lists.{class_option_less}
use Rattle.rx_directives.proofs.heads.class_options.Goals as goal

pub loop-alloc-smaller : goal.loop-alloc-smaller
loop-alloc-smaller c =
    let e = ap length c.loop-alloc-test.ensures.1 in
    let h = class_option_less c.loop-alloc.read c.in_ok-read.read c.eat_end.new.tokens c.class_option.new.tokens c.in_ok-read.ensures in
    omega arith
