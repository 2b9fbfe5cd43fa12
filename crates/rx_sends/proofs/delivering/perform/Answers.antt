use Rattle.std.proofs.Common.{sym, subst}
use Rattle.rx_classes.specs.declared.method.MethodId.{MethodId}
use Rattle.rx_sends.specs.Delivering.{performs}
use Rattle.rx_sends.specs.Replies.{Delivers}
use Rattle.rx_sends.specs.Settings.{setting}
use Rattle.rx_sends.proofs.delivering.perform.Goals as goal

pub returns-in-Native : goal.returns-in-Native
returns-in-Native c = λ facts digits.
    subst (λ (method : MethodId). Delivers c.native.result c.native.new.heap
    (performs (setting facts c.args.classes.now c.args.sender) c.args.heap.now c.args.target.now c.args.args c.args.method.0 method)) (sym c.in-Native.is)
    (c.native.ensures facts digits)
