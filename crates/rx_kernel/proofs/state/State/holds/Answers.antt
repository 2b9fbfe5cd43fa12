use Rattle.std.proofs.Common.{true, false, sym, ◌∙◌, arith}
use Rattle.rx_frames.specs.Activities.{frames_at}
use Rattle.rx_kernel.specs.Readings.{reading}
use Rattle.rx_kernel.specs.States.{world_of}
use Rattle.rx_kernel.proofs.PickLemmas.{holds-end, holds-here}
use Rattle.rx_kernel.proofs.ViewLemmas.{view-frames}
use Rattle.rx_kernel.proofs.state.State.holds.Goals as goal

pub returns-then-reserves_at : goal.returns-then-reserves_at
returns-then-reserves_at c =
    sym (c.loop-down.invariant
    ∙ holds-here (reading c.args.self.now.program) (frames_at c.args.self.now.parts.stacks c.args.a) (frames_at (world_of c.args.self.now).activities c.args.a)
    c.loop-down.down c.args.pool true (view-frames (reading c.args.self.now.program) c.args.self.now.parts.stacks c.args.a)
    (sym c.if-reserves_at.true ∙ c.reserves_at.ensures))

pub loop-down-preserved : goal.loop-down-preserved
loop-down-preserved c =
    c.loop-down.invariant
    ∙ holds-here (reading c.args.self.now.program) (frames_at c.args.self.now.parts.stacks c.args.a) (frames_at (world_of c.args.self.now).activities c.args.a)
    c.loop-down.down c.args.pool false (view-frames (reading c.args.self.now.program) c.args.self.now.parts.stacks c.args.a)
    (sym c.if-reserves_at.false ∙ c.reserves_at.ensures)

pub returns : goal.returns
returns c =
    sym (c.loop-down.invariant
    ∙ holds-end (reading c.args.self.now.program) (frames_at c.args.self.now.parts.stacks c.args.a) (frames_at (world_of c.args.self.now).activities c.args.a)
    c.loop-down.down c.args.pool (view-frames (reading c.args.self.now.program) c.args.self.now.parts.stacks c.args.a)
    (omega (arith, c.loop-down-test.false, c.height-down-end.ensures.height)))
