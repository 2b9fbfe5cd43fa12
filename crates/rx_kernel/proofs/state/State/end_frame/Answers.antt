use Rattle.std.proofs.Common.{◌≡◌, refl, sym, ◌∙◌, ap, subst}
use Rattle.rx_tree.specs.declared.activity.Outcome.TheVariants as outcome
use Rattle.rx_native.specs.Fitting.{Fits}
use Rattle.rx_frames.specs.declared.position.Position.{Position}
use Rattle.rx_frames.specs.Frames.{Frame}
use Rattle.rx_frames.specs.Activities.{IsBegun, frames_at}
use Rattle.rx_sends.specs.Sending.{completed}
use Rattle.rx_sends.proofs.MessageFits.{completed-fits}
use Rattle.rx_kernel.specs.Endings.{given_by}
use Rattle.rx_kernel.specs.Readings.{CodesFit}
use Rattle.rx_kernel.specs.States.{ending_of, world_of}
use Rattle.rx_kernel.proofs.ChangeLemmas.{begun-still}
use Rattle.rx_kernel.proofs.EndLemmas.{ended-is, handed-codes, popped-codes}
use Rattle.rx_kernel.proofs.TurnLemmas.{same-frame}
use Rattle.rx_kernel.proofs.state.State.end_frame.Goals as goal

pub hand-requires : goal.hand-requires
hand-requires c =
    subst (λ as_they. IsBegun as_they c.args.a) (sym c.pop-ended.ensures.rest) (begun-still c.args.self.now.parts.stacks c.args.a c.args.a _ c.requires.begun)

pub returns : goal.returns
returns c = λ frame top.
    let same : c.in-Some.frame.now ≡ frame = same-frame c.in-Some.frame.now frame _ c.in-Some.ensures.frame top in
    let objects = c.args.self.now.parts.heap in
    ended-is (world_of c.args.self.now) c.args.self.now.program c.args.self.now.parts.stacks c.pop-ended.new.self c.hand.new.stacks c.complete.new.heap
    (ending_of c.hand.new.main) c.args.a frame c.args.value c.given_by-given.result refl refl c.pop-ended.ensures.rest
    (c.given_by-given.ensures ∙ ap (λ (f : Frame Position). given_by f c.args.value) same)
    (c.complete.ensures
    ∙ ap (λ message. completed objects message (outcome.Given c.in_ok-or_nil.field-0)) (c.completes-completes.ensures ∙ ap (λ (f : Frame Position). f.completes) same)
    ∙ ap (λ value. completed objects frame.completes (outcome.Given value)) c.in_ok-or_nil.ensures)
    c.hand.ensures.activities c.hand.ensures.main

pub invariant_of-self-clause-fits : goal.invariant_of-self-clause-fits
invariant_of-self-clause-fits c = λ running.
    subst (Fits c.args.self.now.parts.classes) (sym c.complete.ensures)
    (completed-fits c.args.self.now.parts.classes c.args.self.now.parts.heap c.completes-completes.result (outcome.Given c.in_ok-or_nil.field-0)
    (c.args.self.now.fits running))

pub invariant_of-self-clause-codes : goal.invariant_of-self-clause-codes
invariant_of-self-clause-codes c = λ running.
    subst (CodesFit c.args.self.now.program) (sym c.hand.ensures.activities)
    (handed-codes c.args.self.now.program c.pop-ended.new.self c.args.a c.given_by-given.result (frames_at c.pop-ended.new.self c.args.a)
    (subst (CodesFit c.args.self.now.program) (sym c.pop-ended.ensures.rest)
    (popped-codes c.args.self.now.program c.args.self.now.parts.stacks c.args.a (c.args.self.now.codes running))))
