use Rattle.std.proofs.Common.{◌≡◌, ◌<◌, ◌∙◌, ◌∷◌, List, ap, sym, arith, length}
use Rattle.rx_frames.specs.Activities.{frames_at, with_frames}
use Rattle.rx_frames.proofs.ActivityLemmas.{frames_at-begun, with_change_at-begun}
use Rattle.rx_frames.proofs.stacks.Stacks.push.Goals.{in-Ok, in-Err}
use Rattle.rx_frames.proofs.stacks.Stacks.push.Goals as goal

pub returns-clause-ok : goal.returns-clause-ok
returns-clause-ok c =
    let are = frames_at-begun c.self.inside.activities.items c.args.self.now c.args.a c.index_mut-activity.result.now c.self.view_is c.requires.begun c.index_mut-activity.ensures.value in
    elim c.match-push.branch [
      | in-Ok w ↦ rw w.result-is
          (with_change_at-begun c.self.inside.activities.items c.args.self.now c.args.a c.index_mut-activity.result.now c.push.new.self
          (with_frames (c.args.frame ∷ frames_at c.args.self.now c.args.a)) c.self.view_is c.requires.begun c.index_mut-activity.ensures.value
          (w.in-Ok.ensures.ok ∙ ap (λ frames. with_frames (c.args.frame ∷ frames) c.index_mut-activity.result.now) (sym are)))
      | in-Err w ↦ rw w.result-is tt
    ]

pub returns-clause-deep : goal.returns-clause-deep
returns-clause-deep c =
    let are = frames_at-begun c.self.inside.activities.items c.args.self.now c.args.a c.index_mut-activity.result.now c.self.view_is c.requires.begun c.index_mut-activity.ensures.value in
    let same = ap length are in
    let room = c.if-is_deep.ensures.room in
    elim c.match-push.branch [
      | in-Ok w ↦ rw w.result-is ((λ e. cc), (λ e. absurd (omega (arith, same, room, e))))
      | in-Err w ↦ rw w.result-is ((λ e. cc), (λ e. absurd (omega (arith, same, room, e))))
    ]
