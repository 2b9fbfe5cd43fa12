use Rattle.std.proofs.Common.{refl, sym, ◌∙◌}
use Rattle.rx_frames.specs.declared.activity.Look.TheVariants as look
use Rattle.rx_kernel.specs.Readings.{reading}
use Rattle.rx_kernel.specs.States.{world_of}
use Rattle.rx_kernel.proofs.PickLemmas.{live-by}
use Rattle.rx_kernel.proofs.state.State.is_live.Goals as goal

pub returns-in-Ended : goal.returns-in-Ended
returns-in-Ended c =
    live-by (world_of c.args.self.now) c.args.a (reading c.args.self.now.program) c.args.self.now.parts.stacks look.Ended refl (sym c.in-Ended.is ∙ c.look.ensures)
