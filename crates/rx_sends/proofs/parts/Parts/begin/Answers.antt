use Rattle.rx_sends.specs.Parts.{parts_of}
use Rattle.rx_sends.proofs.StackLemmas.{begun-is}
use Rattle.rx_sends.proofs.parts.Parts.begin.Goals as goal

pub returns : goal.returns
returns c =
    begun-is (parts_of c.args.self.now) c.args.a c.args.call c.pool_of.new.self c.in_ok-pool.pool c.first_message-completes.result c.in_ok-frame.frame
    c.put_on_top.new.stacks c.wait.new.self c.in_ok-pool.ensures.ok c.in_ok-pool.ensures.number c.first_message-completes.ensures.message c.in_ok-frame.ensures
    c.in_ok-put_on_top.ensures c.wait.ensures
