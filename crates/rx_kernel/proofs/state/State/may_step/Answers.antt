use Rattle.std.proofs.Common.{refl}
use Rattle.rx_kernel.specs.Readings.{reading}
use Rattle.rx_kernel.specs.States.{world_of}
use Rattle.rx_kernel.proofs.PickLemmas.{enabled-by}
use Rattle.rx_kernel.proofs.state.State.may_step.Goals as goal

pub returns : goal.returns
returns c =
    enabled-by (world_of c.args.self.now) c.args.a (reading c.args.self.now.program) c.args.self.now.parts.stacks c.look.result c.may_step_by.result refl
    c.look.ensures c.may_step_by.ensures
