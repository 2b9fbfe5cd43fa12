use Rattle.std.proofs.Common.{sym, ◌∙◌}
use Rattle.rx_kernel.specs.States.{world_of}
use Rattle.rx_kernel.proofs.WaitLemmas.{row-none}
use Rattle.rx_kernel.proofs.state.State.push_wait.Goals as goal

pub returns-in-None : goal.returns-in-None
returns-in-None c = row-none (world_of c.args.self.now) c.args.a c.args.rows.now.items (sym c.in-None.is ∙ c.in_ok-cause.ensures)
