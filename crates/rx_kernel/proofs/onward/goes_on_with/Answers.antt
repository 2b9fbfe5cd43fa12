use Rattle.std.proofs.Common.{Some, ◌∙◌, ap, subst}
use Rattle.rx_frames.specs.declared.position.Operands.{Operands}
use Rattle.rx_machine.specs.Scenes.{body_of}
use Rattle.rx_kernel.specs.Readings.{fixed_for}
use Rattle.rx_kernel.specs.Stepping.{IsOf}
use Rattle.rx_kernel.proofs.onward.goes_on_with.Goals as goal

pub returns-in_ok-resume_given-in-Answered-clause-code :
    goal.returns-in_ok-resume_given-in-Answered-clause-code
returns-in_ok-resume_given-in-Answered-clause-code c =
    let body = body_of c.args.program.now c.args.frame.now.body in
    subst (λ b. IsOf b (Some c.in_ok-resume_given-in-Answered.field-0))
    (ap (λ (o : Operands). fixed_for body o.rest) c.operands-operands.ensures ∙ c.requires.code)
    (c.in_ok-resume_given-in-Answered.ensures.code body)
