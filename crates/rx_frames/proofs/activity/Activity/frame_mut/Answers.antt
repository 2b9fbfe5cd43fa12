use Rattle.std.proofs.Common.{refl, ◌∙◌}
use Rattle.rx_frames.proofs.ActivityLemmas.{waiting-read, waiting-written}
use Rattle.rx_frames.proofs.activity.Activity.frame_mut.Goals as goal

pub returns : goal.returns
returns c = (
  (refl, λ w. waiting-written c.self.inside.wait c.self.inside.frames.items c.args.self.now c.len.result c.args.down w c.self.view_is c.requires (c.len.ensures ∙ c.self.inside.frames.ok.0)),
  record {
    writes_back = tt;
    frame = waiting-read c.self.inside.wait c.self.inside.frames.items c.args.self.now c.len.result c.args.down c.index_mut.result.now c.self.view_is c.requires (c.len.ensures ∙ c.self.inside.frames.ok.0) c.index_mut.ensures.value;
  },
)
