use Rattle.std.proofs.Common.{IfOk, ap, subst, sym, ◌∙◌}
use Rattle.rx_eval.specs.Pauses.{trees_of}
use Rattle.rx_eval.specs.Reaching.{IsReached}
use Rattle.rx_machine.specs.Clauses.{finish}
use Rattle.rx_machine.specs.Scenes.{comes_to}
use Rattle.rx_machine.specs.Step.{settle}
use Rattle.rx_kernel.specs.Readings.{reading}
use Rattle.rx_kernel.specs.States.{world_of}
use Rattle.rx_kernel.specs.Stepping.{IsStepped}
use Rattle.rx_kernel.specs.Views.{frame_view}
use Rattle.rx_kernel.proofs.StepLemmas.{comes-in}
use Rattle.rx_kernel.proofs.state.State.stretch.Goals as goal

pub returns-in-Done : goal.returns-in-Done
returns-in-Done c = λ t turn.
    let one = c.args.simple.now in
    let trees = trees_of c.args.ready in
    let all = comes_to (world_of c.args.self.now) c.args.a (frame_view (reading c.args.self.now.program) turn.top) trees in
    let reached = subst (IsReached c.args.ready.code all) c.in-Done.is (c.in_ok-values.ensures turn.top turn.is_top (c.requires.code turn.top turn.is_top)) in
    subst (λ so. IfOk c.finish.result (λ stepped. IsStepped (world_of c.args.self.now) so stepped (world_of c.finish.new.self)))
    (ap (finish t one) c.as_slice.ensures ∙ sym (ap (settle t one) (comes-in c.args.self.now c.args.a c.args.here t turn trees ∙ reached)))
    (c.finish.ensures t turn)
