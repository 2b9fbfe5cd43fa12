use Rattle.std.proofs.Common.{sym, ◌∙◌, ap, subst}
use Rattle.rx_tree.specs.declared.activity.Outcome.TheVariants as outcome
use Rattle.rx_frames.specs.Activities.{IsBegun}
use Rattle.rx_sends.specs.Sending.{completed}
use Rattle.rx_kernel.proofs.ChangeLemmas.{begun-still}
use Rattle.rx_kernel.proofs.UnwindLemmas.{ended-last, ended-next, popped-shorter, unwound-last, unwound-next}
use Rattle.rx_kernel.proofs.raising.unwind.Goals as goal

pub loop-frame-smaller : goal.loop-frame-smaller
loop-frame-smaller c = popped-shorter c.loop-frame.stacks c.pop.new.self c.args.a c.in-Some.frame c.in-Some.ensures.frame c.in-Some.ensures.rest

pub loop-frame-preserved : goal.loop-frame-preserved
loop-frame-preserved c = record {
  begun = subst (λ as_they. IsBegun as_they c.args.a) (sym c.in-Some.ensures.rest) (begun-still c.loop-frame.stacks c.args.a c.args.a _ c.loop-frame.invariant.begun);
  objects = unwound-next c.loop-frame.stacks c.pop.new.self c.args.a c.args.number c.loop-frame.heap c.complete.new.heap _ c.in-Some.frame
      c.in-Some.ensures.frame c.in-Some.ensures.rest
      (c.complete.ensures ∙ ap (λ message. completed c.loop-frame.heap message (outcome.Failed c.args.number)) c.completes.ensures)
      c.loop-frame.invariant.objects;
  activities = ended-next c.loop-frame.stacks c.pop.new.self c.args.a _ c.in-Some.ensures.rest ∙ c.loop-frame.invariant.activities;
}

pub returns-clause-objects : goal.returns-clause-objects
returns-clause-objects c =
    sym (unwound-last c.loop-frame.stacks c.args.a c.args.number c.loop-frame.heap _ c.in_default.ensures.frame c.loop-frame.invariant.objects)

pub returns-clause-activities : goal.returns-clause-activities
returns-clause-activities c =
    c.wait.ensures ∙ ended-last c.loop-frame.stacks c.pop.new.self c.args.a c.in_default.ensures.frame c.in_default.ensures.rest
    ∙ c.loop-frame.invariant.activities
