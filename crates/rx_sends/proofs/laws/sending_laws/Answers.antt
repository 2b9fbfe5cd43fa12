use Rattle.rx_frames.specs.Frames.{positions}
use Rattle.rx_sends.proofs.MessageFits.{sent-fits}
use Rattle.rx_sends.proofs.MessageWaits.{delivery-keeps}
use Rattle.rx_sends.proofs.laws.sending_laws.Goals as goal

pub returns : goal.returns
returns c = record { fits = sent-fits positions; keeps = delivery-keeps }
