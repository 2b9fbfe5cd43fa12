use Rattle.std.proofs.Common.{◌≡◌, OnOk, ap, subst, ◌∙◌}
use Rattle.rx_tree.specs.declared.activity.Awaited.{Awaited}
use Rattle.rx_eval.specs.Pauses.{left_of}
use Rattle.rx_machine.specs.Answers.{awaited_by}
use Rattle.rx_machine.specs.Sending.{calls}
use Rattle.rx_machine.specs.Turns.{awaits}
use Rattle.rx_machine.specs.World.{World}
use Rattle.rx_kernel.specs.States.{world_of}
use Rattle.rx_kernel.proofs.FinishLemmas.{gone-waiting}
use Rattle.rx_kernel.proofs.state.State.await_call.Goals as goal

pub returns : goal.returns
returns c = λ t turn.
    let left = left_of c.args.paused in
    let after : World = world_of c.calls.new.self in
    let waits : World = awaits t (awaited_by c.args.simple.now c.args.pending.awaited left) left in
    subst (λ one. OnOk c.calls.result (after ≡ calls waits c.args.a c.args.here.line one)) c.into_sent.ensures
    (subst (λ before. OnOk c.calls.result (after ≡ calls before c.args.a c.args.here.line c.into_sent.result))
    (gone-waiting c.args.self.now c.args.a c.args.here t turn c.args.paused c.awaited_by-how.result (world_of c.wait.new.self) (c.wait.ensures.waits turn.top turn.is_top)
    ∙ ap (λ (how : Awaited). awaits t how left) c.awaited_by-how.ensures)
    c.calls.ensures)
