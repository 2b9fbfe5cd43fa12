use Rattle.std.proofs.Common.{refl}
use Rattle.rx_kernel.specs.States.{world_of}
use Rattle.rx_kernel.proofs.PickLemmas.{end-is}
use Rattle.rx_kernel.proofs.state.State.end.Goals as goal

pub returns : goal.returns
returns c =
    end-is (world_of c.args.self.now) c.is_any_live-live.result c.least_behind-least.result c.end_of.result c.is_any_live-live.ensures c.least_behind-least.ensures
    (c.end_of.ensures (world_of c.args.self.now) refl refl)
