use Rattle.std.proofs.Common.{IfOk, subst, ◌∙◌}
use Rattle.rx_kernel.specs.States.{world_of}
use Rattle.rx_kernel.specs.Stepping.{IsStepped}
use Rattle.rx_kernel.proofs.StepLemmas.{step-top, top-of}
use Rattle.rx_kernel.proofs.state.State.step_top.Goals as goal

pub step_frame-requires-clause-frame : goal.step_frame-requires-clause-frame
step_frame-requires-clause-frame c =
    top-of c.args.self.now.parts.stacks c.args.a (λ none. c.if-height-eq0.false (c.height.ensures.height ∙ none))

pub returns : goal.returns
returns c =
    let frame = top-of c.args.self.now.parts.stacks c.args.a (λ none. c.if-height-eq0.false (c.height.ensures.height ∙ none)) in
    subst (λ so. IfOk c.step_frame.result (λ stepped. IsStepped (world_of c.args.self.now) so stepped (world_of c.step_frame.new.self)))
    (step-top c.args.self.now c.args.a frame.0 frame.1)
    (c.step_frame.ensures frame.0 frame.1)
