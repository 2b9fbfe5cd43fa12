use Rattle.std.proofs.Common.{◌<◌, length, arith}
use Rattle.std.proofs.lemmas.List.{get_or_default}
use Rattle.rx_install.proofs.StateLemmas.{look-more, same-after}
use Rattle.rx_install.proofs.installation.Installation.look_at_all.Goals as goal

pub loop-waiter-preserved : goal.loop-waiter-preserved
loop-waiter-preserved c =
    let less : c.loop-waiter.waiter-index < length c.args.waiters.now = omega arith in (
      look-more c.loop-waiter.self c.look_at.new.self c.args.waiters.now c.loop-waiter.waiter-index _ less
          (get_or_default c.args.waiters.now c.loop-waiter.waiter-index _ _ less) c.loop-waiter.invariant.0 c.in_ok-look_at.ensures,
      same-after c.args.self.now c.loop-waiter.self c.look_at.new.self c.loop-waiter.invariant.1 c.in_ok-look_at.ensures.0,
    )
