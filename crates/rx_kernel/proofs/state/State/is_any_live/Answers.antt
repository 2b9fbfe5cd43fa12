use Rattle.std.proofs.Common.{◌<◌, ◌≤◌, true, false, length, sym, ◌∙◌, arith}
use Rattle.rx_kernel.specs.Readings.{reading}
use Rattle.rx_kernel.specs.States.{world_of}
use Rattle.rx_kernel.specs.Views.{activity_view}
use Rattle.rx_kernel.proofs.PickLemmas.{live-end, live-here}
use Rattle.rx_kernel.proofs.ViewLemmas.{length-map}
use Rattle.rx_kernel.proofs.state.State.is_any_live.Goals as goal

pub returns-then-is_live : goal.returns-then-is_live
returns-then-is_live c =
    let within : c.loop-place.place < length (world_of c.args.self.now).activities =
    omega (arith, c.loop-place-test.true, c.count-place-end.ensures, length-map (activity_view (reading c.args.self.now.program)) c.args.self.now.parts.stacks) in
    sym (c.loop-place.invariant ∙ live-here (world_of c.args.self.now).activities c.loop-place.place true within (sym c.if-is_live.true ∙ c.is_live.ensures))

pub loop-place-preserved : goal.loop-place-preserved
loop-place-preserved c =
    let within : c.loop-place.place < length (world_of c.args.self.now).activities =
    omega (arith, c.loop-place-test.true, c.count-place-end.ensures, length-map (activity_view (reading c.args.self.now.program)) c.args.self.now.parts.stacks) in
    c.loop-place.invariant ∙ live-here (world_of c.args.self.now).activities c.loop-place.place false within (sym c.if-is_live.false ∙ c.is_live.ensures)

pub returns : goal.returns
returns c =
    let past : length (world_of c.args.self.now).activities ≤ c.loop-place.place =
    omega (arith, c.loop-place-test.false, c.count-place-end.ensures, length-map (activity_view (reading c.args.self.now.program)) c.args.self.now.parts.stacks) in
    sym (c.loop-place.invariant ∙ live-end (world_of c.args.self.now).activities c.loop-place.place past)
