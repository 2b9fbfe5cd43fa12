use Rattle.std.proofs.Common.{ℕ, sym, subst}
use Rattle.rx_classes.specs.Classes.{IsClass}
use Rattle.rx_sends.specs.Settings.{setting}
use Rattle.rx_sends.proofs.NewLemmas.{new-made, new-refused}
use Rattle.rx_sends.proofs.ReachLemmas.{new-receiver}
use Rattle.rx_sends.proofs.making.new.Goals as goal

pub find-requires : goal.find-requires
find-requires c =
    subst (λ (class : ℕ). IsClass c.args.classes.now class) (sym c.object_in-class.ensures)
    (new-receiver c.args.classes.now c.args.heap.now c.args.target.now c.args.id c.requires.new c.requires.reached c.requires.target_there c.requires.fits)

pub settle-requires : goal.settle-requires
settle-requires c =
    subst (λ (class : ℕ). IsClass c.args.classes.now class) (sym c.object_in-class.ensures)
    (new-receiver c.args.classes.now c.args.heap.now c.args.target.now c.args.id c.requires.new c.requires.reached c.requires.target_there c.requires.fits)

pub returns-in-Err : goal.returns-in-Err
returns-in-Err c = λ facts digits.
    new-refused (setting facts c.args.classes.now c.args.sender) c.args.heap.now c.call_native.new.heap c.args.target.now c.args.id c.args.args c.as_slice.result.now
    c.object_in-class.result c.in_ok-init.init c.lacks_room.result c.call_native.result c.in-Err.refused c.object_in-class.ensures c.in_ok-init.ensures.found
    c.lacks_room.ensures c.if-lacks_room.false c.as_slice.ensures c.in-Err.is (c.call_native.ensures facts digits)

pub returns-in-Ok : goal.returns-in-Ok
returns-in-Ok c = λ facts digits.
    new-made (setting facts c.args.classes.now c.args.sender) c.args.heap.now c.call_native.new.heap c.args.target.now c.args.id c.args.args c.as_slice.result.now
    c.object_in-class.result c.in_ok-init.init c.lacks_room.result c.call_native.result c.in-Ok.answer c.settle.result c.object_in-class.ensures
    c.in_ok-init.ensures.found c.lacks_room.ensures c.if-lacks_room.false c.as_slice.ensures c.in-Ok.is (c.call_native.ensures facts digits)
    (c.settle.ensures c.call_native.new.heap)
