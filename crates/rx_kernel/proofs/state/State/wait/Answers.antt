use Rattle.std.proofs.Common.{refl}
use Rattle.rx_kernel.specs.States.{world_of}
use Rattle.rx_kernel.specs.Turning.{awaiting}
use Rattle.rx_kernel.proofs.TurnLemmas.{top-begun, top-codes, top-world, waits-in}
use Rattle.rx_kernel.proofs.state.State.wait.Goals as goal

pub returns-clause-waits : goal.returns-clause-waits
returns-clause-waits c = λ frame top.
    top-world (world_of c.args.self.now) c.args.self.now.program c.args.self.now.parts.stacks c.wait.new.stacks c.args.a (awaiting c.args.place c.args.paused c.args.how frame) refl
    (c.wait.ensures frame top)

pub returns-clause-begun : goal.returns-clause-begun
returns-clause-begun c =
    let frame = c.requires.frame.0 in
    top-begun c.args.self.now.parts.stacks c.wait.new.stacks c.args.a (awaiting c.args.place c.args.paused c.args.how frame) (c.wait.ensures frame c.requires.frame.1)
    c.requires.begun

pub invariant_of-self-clause-codes : goal.invariant_of-self-clause-codes
invariant_of-self-clause-codes c = λ running.
    let frame = c.requires.frame.0 in
    top-codes c.args.self.now.program c.args.self.now.parts.stacks c.wait.new.stacks c.args.a (awaiting c.args.place c.args.paused c.args.how frame)
    (c.wait.ensures frame c.requires.frame.1)
    (waits-in c.args.self.now.program frame c.args.place c.args.paused c.args.how (c.requires.code frame c.requires.frame.1))
    (c.args.self.now.codes running)
