use Rattle.std.proofs.Common.{arith}
use Rattle.rx_frames.specs.Frames.{with_answer}
use Rattle.rx_frames.proofs.ActivityLemmas.{waiting-valued}
use Rattle.rx_frames.proofs.RunLemmas.{kept-answered}
use Rattle.rx_frames.proofs.activity.Activity.answer.Goals as goal

pub invariant_of-self : goal.invariant_of-self
invariant_of-self c =
    kept-answered c.self.inside.runs.items c.self.inside.frames.items c.in-Some.place c.index_mut.result.now c.answer.new.self c.args.answer
    c.self.invariant (omega (arith, c.self.inside.frames.ok.0)) c.index_mut.ensures.value c.answer.ensures

pub returns-in-Some : goal.returns-in-Some
returns-in-Some c =
    waiting-valued c.self.inside.wait c.self.inside.frames.items c.args.self.now c.in-Some.place 0 c.index_mut.result.now c.answer.new.self
    (with_answer c.args.answer) c.self.view_is (omega (arith, c.self.inside.frames.ok.0)) c.index_mut.ensures.value c.answer.ensures
