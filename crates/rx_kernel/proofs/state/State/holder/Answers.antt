use Rattle.std.proofs.Common.{◌<◌, ◌≤◌, true, false, length, sym, ◌∙◌, arith}
use Rattle.rx_kernel.specs.Readings.{reading}
use Rattle.rx_kernel.specs.States.{world_of}
use Rattle.rx_kernel.specs.Views.{activity_view}
use Rattle.rx_kernel.proofs.PickLemmas.{holder-end, holder-here}
use Rattle.rx_kernel.proofs.ViewLemmas.{length-map}
use Rattle.rx_kernel.proofs.state.State.holder.Goals as goal

pub returns-then-is_other_holder : goal.returns-then-is_other_holder
returns-then-is_other_holder c =
    let within : c.loop-place.place < length (world_of c.args.self.now).activities =
    omega (arith, c.loop-place-test.true, c.count-place-end.ensures, length-map (activity_view (reading c.args.self.now.program)) c.args.self.now.parts.stacks) in
    sym (c.loop-place.invariant
    ∙ holder-here (world_of c.args.self.now).activities c.loop-place.place c.args.a c.args.pool true within (sym c.if-is_other_holder.true ∙ c.is_other_holder.ensures))

pub loop-place-preserved : goal.loop-place-preserved
loop-place-preserved c =
    let within : c.loop-place.place < length (world_of c.args.self.now).activities =
    omega (arith, c.loop-place-test.true, c.count-place-end.ensures, length-map (activity_view (reading c.args.self.now.program)) c.args.self.now.parts.stacks) in
    c.loop-place.invariant
    ∙ holder-here (world_of c.args.self.now).activities c.loop-place.place c.args.a c.args.pool false within (sym c.if-is_other_holder.false ∙ c.is_other_holder.ensures)

pub returns : goal.returns
returns c =
    let past : length (world_of c.args.self.now).activities ≤ c.loop-place.place =
    omega (arith, c.loop-place-test.false, c.count-place-end.ensures, length-map (activity_view (reading c.args.self.now.program)) c.args.self.now.parts.stacks) in
    sym (c.loop-place.invariant ∙ holder-end (world_of c.args.self.now).activities c.loop-place.place c.args.a c.args.pool past)
