use Rattle.std.proofs.Common.{sym}
use Rattle.rx_top.proofs.PickLemmas.{next-pick}
use Rattle.rx_top.proofs.running.next_pick.Goals as goal

pub returns-in-Going : goal.returns-in-Going
returns-in-Going c = next-pick c.args.kernel.now c.args.last c.next_enabled.result (sym c.in-Going.ensures) c.next_enabled.ensures
