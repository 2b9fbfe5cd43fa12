use Rattle.std.proofs.Common.{subst, arith}
use Rattle.rx_frames.specs.Runs.{AreRuns}
use Rattle.rx_frames.proofs.ActivityLemmas.{waiting-length, waiting-pushed}
use Rattle.rx_frames.proofs.RunLemmas.{kept-pushed}
use Rattle.rx_frames.proofs.activity.Activity.push.Goals as goal

pub invariant_of-self-2 : goal.invariant_of-self-2
invariant_of-self-2 c =
    rw c.in_ok-push.ensures.items
    (kept-pushed c.count_runs.new.runs.items c.self.inside.frames.items c.args.frame
    (subst (AreRuns c.count_runs.new.runs.items) c.as_slice.ensures.value c.count_runs.ensures)
    (omega (arith, c.requires, waiting-length c.self.inside.wait c.self.inside.frames.items c.args.self.now c.self.view_is)))

pub returns-clause-ok : goal.returns-clause-ok
returns-clause-ok c =
    waiting-pushed c.self.inside.wait c.self.inside.frames.items c.push.new.self.items c.args.frame c.args.self.now c.self.view_is c.in_ok-push.ensures.items
