use Rattle.std.proofs.Common.{◌≡◌, OnOk, ap, subst, sym, ◌∙◌}
use Rattle.rx_frames.specs.Frames.{Frame}
use Rattle.rx_machine.specs.Todo.{Todo}
use Rattle.rx_machine.specs.Turns.{goes_on}
use Rattle.rx_machine.specs.World.{World}
use Rattle.rx_kernel.specs.States.{world_of}
use Rattle.rx_kernel.specs.Stepping.{does_behind}
use Rattle.rx_kernel.proofs.FinishLemmas.{gone-on}
use Rattle.rx_kernel.proofs.state.State.finish_onward.Goals as goal

pub returns : goal.returns
returns c = λ t turn.
    let after : World = world_of c.finish_behind.new.self in
    let one = c.args.simple.now in
    let values = c.args.values.now in
    let line = c.args.here.line in
    let scene = c.in_ok-scene.scene in
    subst (λ args. OnOk c.finish_behind.result (after ≡ does_behind (goes_on t) c.args.a line t.frame.own args one values))
    (c.in_ok-scene.ensures.arguments turn.top turn.is_top ∙ ap (λ (f : Frame Todo). f.arguments) (sym turn.frame))
    (subst (λ own. OnOk c.finish_behind.result (after ≡ does_behind (goes_on t) c.args.a line own scene.arguments one values))
    (c.in_ok-scene.ensures.own turn.top turn.is_top ∙ ap (λ (f : Frame Todo). f.own) (sym turn.frame))
    (subst (λ before. OnOk c.finish_behind.result (after ≡ does_behind before c.args.a line scene.own scene.arguments one values))
    (gone-on c.args.self.now c.args.a c.args.here t turn (world_of c.go_on.new.self) (c.go_on.ensures.goes_on turn.top turn.is_top))
    c.finish_behind.ensures))
