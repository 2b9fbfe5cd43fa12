use Rattle.std.proofs.Common.{arith}
use Rattle.rx_frames.specs.Frames.{with_value}
use Rattle.rx_frames.proofs.ActivityLemmas.{waiting-valued}
use Rattle.rx_frames.proofs.RunLemmas.{kept-same, kept-valued}
use Rattle.rx_frames.proofs.activity.Activity.set_value.Goals as goal

pub invariant_of-self : goal.invariant_of-self
invariant_of-self c =
    kept-same c.self.inside.runs.items c.self.inside.frames.items c.in-Some.place c.index_mut.result.now c.set_value.new.self
    c.self.invariant c.index_mut.ensures.value c.in_err-set_value.ensures.err

pub invariant_of-self-2 : goal.invariant_of-self-2
invariant_of-self-2 c =
    kept-valued c.self.inside.runs.items c.self.inside.frames.items c.in-Some.place c.index_mut.result.now c.set_value.new.self c.args.name.now c.args.value
    c.self.invariant (omega (arith, c.self.inside.frames.ok.0)) c.index_mut.ensures.value c.in_ok-set_value.ensures.ok

pub returns-clause-ok : goal.returns-clause-ok
returns-clause-ok c =
    waiting-valued c.self.inside.wait c.self.inside.frames.items c.args.self.now c.in-Some.place c.args.down c.index_mut.result.now c.set_value.new.self
    (with_value c.args.name.now c.args.value) c.self.view_is (omega (arith, c.self.inside.frames.ok.0)) c.index_mut.ensures.value c.in_ok-set_value.ensures.ok
