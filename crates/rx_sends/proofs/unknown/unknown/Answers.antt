use Rattle.rx_sends.specs.Settings.{setting}
use Rattle.rx_sends.proofs.FitLemmas.{array-there, fits-after, reached-after, there-after}
use Rattle.rx_sends.proofs.UnknownLemmas.{unknowns-passed, unknowns-refused}
use Rattle.rx_sends.proofs.unknown.unknown.Goals as goal

pub pass_on-requires-clause-reached : goal.pass_on-requires-clause-reached
pass_on-requires-clause-reached c =
    reached-after c.args.classes.now c.args.heap.now c.make_array.new.heap c.as_slice-2.result.now c.args.sent.target c.args.method.1
    c.in-Ok.ensures.ok c.requires.target_there c.requires.reached

pub pass_on-requires-clause-target_there : goal.pass_on-requires-clause-target_there
pass_on-requires-clause-target_there c =
    there-after c.args.heap.now c.make_array.new.heap c.as_slice-2.result.now c.args.sent.target c.in-Ok.ensures.ok c.requires.target_there

pub pass_on-requires-clause-array_there : goal.pass_on-requires-clause-array_there
pass_on-requires-clause-array_there c =
    array-there c.args.heap.now c.make_array.new.heap c.as_slice-2.result.now c.in-Ok.array c.in-Ok.ensures.ok c.in-Ok.ensures.number

pub pass_on-requires-clause-fits : goal.pass_on-requires-clause-fits
pass_on-requires-clause-fits c =
    fits-after c.args.classes.now c.args.heap.now c.make_array.new.heap c.as_slice-2.result.now c.in-Ok.ensures.ok c.requires.fits

pub returns-in-Ok : goal.returns-in-Ok
returns-in-Ok c = λ facts digits.
    unknowns-passed (setting facts c.args.classes.now c.args.sender) c.args.heap.now c.make_array.new.heap c.args.sent c.args.method.0 c.args.method.1
    c.as_slice.result.now c.as_slice-2.result.now c.has_too_many.result c.lacks_room.result c.in-Ok.array c.pass_on.result c.pass_on.new.heap
    c.as_slice.ensures c.as_slice-2.ensures c.has_too_many.ensures c.if-has_too_many.false c.lacks_room.ensures c.if-lacks_room.false c.in-Ok.ensures.room
    c.in-Ok.ensures.number c.in-Ok.ensures.ok (c.pass_on.ensures facts digits)

pub returns-in-Err : goal.returns-in-Err
returns-in-Err c = λ facts digits.
    unknowns-refused (setting facts c.args.classes.now c.args.sender) c.args.heap.now c.make_array.new.heap c.args.sent c.args.method.0 c.args.method.1
    c.as_slice.result.now c.has_too_many.result c.lacks_room.result c.make_array.result c.in-Err.refused c.as_slice.ensures c.has_too_many.ensures
    c.if-has_too_many.false c.lacks_room.ensures c.if-lacks_room.false c.in-Err.is c.make_array.ensures.raised c.make_array.ensures.no_method
