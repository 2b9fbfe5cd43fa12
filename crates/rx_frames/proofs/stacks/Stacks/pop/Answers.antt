use Rattle.std.proofs.Common.{◌∙◌, ap, sym, drop}
use Rattle.std.specs.Prelude.{slice_get}
use Rattle.rx_frames.specs.Activities.{frames_at, with_frames}
use Rattle.rx_frames.proofs.ActivityLemmas.{frames_at-begun, with_change_at-begun}
use Rattle.rx_frames.proofs.stacks.Stacks.pop.Goals as goal

pub returns-clause-frame : goal.returns-clause-frame
returns-clause-frame c =
    c.pop.ensures.frame
    ∙ ap (λ frames. slice_get frames 0) (sym (frames_at-begun c.self.inside.activities.items c.args.self.now c.args.a c.index_mut.result.now c.self.view_is c.requires.begun c.index_mut.ensures.value))

pub returns-clause-rest : goal.returns-clause-rest
returns-clause-rest c =
    with_change_at-begun c.self.inside.activities.items c.args.self.now c.args.a c.index_mut.result.now c.pop.new.self
    (with_frames (drop 1 (frames_at c.args.self.now c.args.a)))
    c.self.view_is c.requires.begun c.index_mut.ensures.value
    (c.pop.ensures.rest
    ∙ ap (λ frames. with_frames (drop 1 frames) c.index_mut.result.now) (sym (frames_at-begun c.self.inside.activities.items c.args.self.now c.args.a c.index_mut.result.now c.self.view_is c.requires.begun c.index_mut.ensures.value)))
