use Rattle.std.proofs.Common.{refl}
use Rattle.rx_kernel.specs.States.{world_of}
use Rattle.rx_kernel.specs.Turning.{gone_on}
use Rattle.rx_kernel.proofs.TurnLemmas.{top-begun, top-codes, top-world}
use Rattle.rx_kernel.proofs.state.State.go_on.Goals as goal

pub returns-clause-goes_on : goal.returns-clause-goes_on
returns-clause-goes_on c = λ frame top.
    top-world (world_of c.args.self.now) c.args.self.now.program c.args.self.now.parts.stacks c.go_on.new.stacks c.args.a (gone_on c.args.place frame) refl (c.go_on.ensures frame top)

pub returns-clause-begun : goal.returns-clause-begun
returns-clause-begun c =
    let frame = c.requires.frame.0 in
    top-begun c.args.self.now.parts.stacks c.go_on.new.stacks c.args.a (gone_on c.args.place frame) (c.go_on.ensures frame c.requires.frame.1) c.requires.begun

pub invariant_of-self-clause-codes : goal.invariant_of-self-clause-codes
invariant_of-self-clause-codes c = λ running.
    let frame = c.requires.frame.0 in
    top-codes c.args.self.now.program c.args.self.now.parts.stacks c.go_on.new.stacks c.args.a (gone_on c.args.place frame) (c.go_on.ensures frame c.requires.frame.1) refl
    (c.args.self.now.codes running)
