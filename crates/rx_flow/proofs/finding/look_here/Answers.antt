use Rattle.std.proofs.Common.{sym}
use Rattle.rx_flow.proofs.FindLemmas.{code_ends}
use Rattle.rx_flow.proofs.finding.look_here.Goals as goal

pub returns-in-None : goal.returns-in-None
returns-in-None c = code_ends _ _ _ c.requires.stands (sym c.in-None.ensures.value)
