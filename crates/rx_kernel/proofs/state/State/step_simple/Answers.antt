use Rattle.std.proofs.Common.{◌≡◌, IfOk, ap, subst, sym, ◌∙◌}
use Rattle.rx_machine.specs.Scenes.{body_of}
use Rattle.rx_kernel.specs.Readings.{fixed_for}
use Rattle.rx_kernel.specs.States.{world_of}
use Rattle.rx_kernel.specs.Stepping.{IsStepped, goes_with}
use Rattle.rx_kernel.proofs.StepLemmas.{code-fits, goes-so}
use Rattle.rx_kernel.proofs.state.State.step_simple.Goals as goal

pub goes_on_with-requires-clause-kept : goal.goes_on_with-requires-clause-kept
goes_on_with-requires-clause-kept c = c.requires.kept c.in-Some.frame.now (sym c.in-Some.ensures.frame)

pub goes_on_with-requires-clause-code : goal.goes_on_with-requires-clause-code
goes_on_with-requires-clause-code c =
    let frame = c.in-Some.frame.now in
    subst (λ program. fixed_for (body_of program frame.body) frame.todo.operands.rest ≡ body_of program frame.body) (sym c.requires.program)
    (code-fits c.args.self.now.program c.args.self.now.parts.stacks c.args.a frame (sym c.in-Some.ensures.frame) (c.args.self.now.codes c.requires.running))

pub returns : goal.returns
returns c = λ t turn.
    let one = c.args.simple.now in
    subst (λ so. IfOk c.go_onward.result (λ stepped. IsStepped (world_of c.args.self.now) so stepped (world_of c.go_onward.new.self)))
    (ap (goes_with t one) (c.in_ok-onward.ensures.onward c.args.self.now.program)
    ∙ goes-so c.args.self.now c.args.a c.args.next.here t turn c.in-Some.frame.now one (sym c.in-Some.ensures.frame))
    (c.go_onward.ensures t turn)
