use Rattle.std.proofs.Common.{refl, sym, ◌∙◌, ap, subst}
use Rattle.rx_tree.specs.declared.activity.Outcome.TheVariants as outcome
use Rattle.rx_native.specs.Fitting.{Fits}
use Rattle.rx_frames.specs.Activities.{frames_at}
use Rattle.rx_sends.specs.Sending.{completed}
use Rattle.rx_sends.proofs.MessageFits.{completed-fits}
use Rattle.rx_kernel.specs.Readings.{CodesFit}
use Rattle.rx_kernel.specs.States.{world_of}
use Rattle.rx_kernel.specs.Unwinding.{unwound}
use Rattle.rx_kernel.proofs.UnwindLemmas.{ended-codes, raised-is, unwound-fits}
use Rattle.rx_kernel.proofs.state.State.raise.Goals as goal

pub returns : goal.returns
returns c =
    raised-is (world_of c.args.self.now) c.args.self.now.program c.args.self.now.parts.stacks c.unwind.new.stacks c.unwind.new.heap c.push.new.self.items _
    c.args.a c.args.number c.args.line refl c.unwind.ensures.activities
    (c.unwind.ensures.objects
    ∙ ap (λ objects. unwound objects (frames_at c.args.self.now.parts.stacks c.args.a) c.args.number)
    (c.complete.ensures ∙ ap (λ message. completed c.args.self.now.parts.heap message (outcome.Failed c.args.number)) c.first_message-first.ensures.message))
    c.in_ok-push.ensures.items c.end_main.ensures

pub invariant_of-self-2-clause-fits : goal.invariant_of-self-2-clause-fits
invariant_of-self-2-clause-fits c = λ running.
    subst (Fits c.args.self.now.parts.classes) (sym c.unwind.ensures.objects)
    (unwound-fits c.args.self.now.parts.classes c.complete.new.heap (frames_at c.args.self.now.parts.stacks c.args.a) c.args.number
    (subst (Fits c.args.self.now.parts.classes) (sym c.complete.ensures)
    (completed-fits c.args.self.now.parts.classes c.args.self.now.parts.heap c.first_message-first.result (outcome.Failed c.args.number) (c.args.self.now.fits running))))

pub invariant_of-self-2-clause-codes : goal.invariant_of-self-2-clause-codes
invariant_of-self-2-clause-codes c = λ running.
    subst (CodesFit c.args.self.now.program) (sym c.unwind.ensures.activities)
    (ended-codes c.args.self.now.program c.args.self.now.parts.stacks c.args.a (c.args.self.now.codes running))
