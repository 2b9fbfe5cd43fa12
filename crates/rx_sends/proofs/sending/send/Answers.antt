use Rattle.std.proofs.Common.{ap, refl, sym, ◌∙◌}
use Rattle.rx_sends.specs.declared.sender.Sender.{Sender}
use Rattle.rx_sends.specs.Parts.{parts_of}
use Rattle.rx_sends.proofs.StackLemmas.{send-refused}
use Rattle.rx_sends.proofs.sending.send.Goals as goal

pub returns-in-Err : goal.returns-in-Err
returns-in-Err c = record {
  sends = λ facts digits.
      send-refused (parts_of c.args.parts.now) _ c.args.a c.sender_of-sender.result facts c.args.sent c.deliver.new.heap c.deliver.result c.in-Err.refused
      c.untrapped.result c.traps_no_method.result c.sender_of-sender.ensures.sender
      (c.deliver.ensures facts (digits ∙ ap (λ (s : Sender). s.digits) (sym c.sender_of-sender.ensures.sender))) c.in-Err.is c.traps_no_method.ensures
      c.untrapped.ensures refl;
}
