use Rattle.rx_sends.specs.Settings.{setting}
use Rattle.rx_sends.proofs.NewLemmas.{natives-plain}
use Rattle.rx_sends.proofs.native.native.Goals as goal

pub returns : goal.returns
returns c = λ facts digits.
    natives-plain (setting facts c.args.classes.now c.args.sender) c.args.heap.now c.call_native.new.heap c.args.target.now c.args.id c.args.args
    c.as_slice.result.now c.is_built.result c.is_new.result c.lacks_room.result c.replied.result c.is_built.ensures c.if-not-is_built.false c.is_new.ensures
    c.if-is_new.false c.lacks_room.ensures c.if-lacks_room.false c.as_slice.ensures
    (c.replied.ensures _ _ _ (c.call_native.ensures facts digits))
