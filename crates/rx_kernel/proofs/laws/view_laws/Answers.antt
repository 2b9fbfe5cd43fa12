use Rattle.rx_kernel.proofs.ReadingLemmas.{body-is, code-is, reading-is}
use Rattle.rx_kernel.proofs.laws.view_laws.Goals as goal

pub returns : goal.returns
returns c = record { reading = reading-is; code = code-is; body = body-is }
