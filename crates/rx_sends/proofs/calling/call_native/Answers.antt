use Rattle.rx_sends.specs.Settings.{setting}
use Rattle.rx_sends.proofs.NewLemmas.{outcome-answers}
use Rattle.rx_sends.proofs.calling.call_native.Goals as goal

pub returns : goal.returns
returns c = λ facts digits.
    c.told.ensures _ _ _
    (outcome-answers c.call.result c.args.heap.now c.call.new.heap (setting facts c.args.classes.now c.args.sender) c.args.target.now c.args.id c.args.args.now
    c.requires.built (c.call.ensures.answer facts digits))
