use Rattle.std.proofs.Common.{refl}
use Rattle.rx_kernel.specs.States.{world_of}
use Rattle.rx_kernel.specs.Turning.{taken}
use Rattle.rx_kernel.proofs.TurnLemmas.{takes-codes, top-world}
use Rattle.rx_kernel.proofs.state.State.take_pool.Goals as goal

pub returns-clause-takes : goal.returns-clause-takes
returns-clause-takes c = λ frame top yes.
    top-world (world_of c.args.self.now) c.args.self.now.program c.args.self.now.parts.stacks c.reserve.new.stacks c.args.a (taken frame) refl
    (c.reserve.ensures.taken frame top yes)

pub invariant_of-self-clause-codes : goal.invariant_of-self-clause-codes
invariant_of-self-clause-codes c = λ running.
    takes-codes c.args.self.now.program c.args.self.now.parts.stacks c.reserve.new.stacks c.args.a c.requires.frame.0 c.reserve.result c.requires.frame.1
    (c.args.self.now.codes running) (c.reserve.ensures.taken c.requires.frame.0 c.requires.frame.1) c.reserve.ensures.same
