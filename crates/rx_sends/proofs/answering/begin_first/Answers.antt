use Rattle.std.proofs.Common.{◌∙◌}
use Rattle.rx_sends.proofs.StackLemmas.{begun-waits}
use Rattle.rx_sends.proofs.answering.begin_first.Goals as goal

pub returns-in-Ok : goal.returns-in-Ok
returns-in-Ok c = c.wait.ensures ∙ begun-waits c.args.stacks.now c.begin.new.self c.in-Ok.begun c.args.message c.in-Ok.ensures.number c.in-Ok.ensures.ok
