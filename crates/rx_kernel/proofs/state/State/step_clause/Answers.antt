use Rattle.std.proofs.Common.{◌≡◌, IfOk, IfSome, subst, sym}
use Rattle.rx_flow.specs.Todo.{past_labels}
use Rattle.rx_machine.specs.Step.{step_items}
use Rattle.rx_kernel.specs.Readings.{reading}
use Rattle.rx_kernel.specs.States.{world_of}
use Rattle.rx_kernel.specs.Stepping.{IsNext, IsStepped}
use Rattle.rx_kernel.specs.Turning.{items_from}
use Rattle.rx_kernel.specs.Views.{frame_view}
use Rattle.rx_kernel.proofs.StepLemmas.{is-turn, next-steps}
use Rattle.rx_kernel.proofs.state.State.step_clause.Goals as goal

pub step_simple-requires-clause-turn : goal.step_simple-requires-clause-turn
step_simple-requires-clause-turn c =
    let frame = c.in-Some.frame.now in
    let found = subst (λ it. IfSome it (λ one. IsNext c.in_ok-program.program frame one.0 one.1.now)) c.in-Some-2.is c.in_ok-next.ensures.next in
    let is : IsNext c.args.self.now.program frame c.in-Some-2.next c.in-Some-2.simple.now =
    subst (λ program. IsNext program frame c.in-Some-2.next c.in-Some-2.simple.now) c.in_ok-program.ensures found in
    (_, is-turn _ c.args.a frame c.in-Some-2.next c.in-Some-2.simple.now is (sym c.in-Some.ensures.frame))

pub returns-in-Some-2 : goal.returns-in-Some-2
returns-in-Some-2 c = λ frame top.
    let its = c.in-Some.frame.now in
    let here : its ≡ frame = cc (top, c.in-Some.ensures.frame) in
    let found = subst (λ it. IfSome it (λ one. IsNext c.in_ok-program.program its one.0 one.1.now)) c.in-Some-2.is c.in_ok-next.ensures.next in
    let is : IsNext c.args.self.now.program its c.in-Some-2.next c.in-Some-2.simple.now =
    subst (λ program. IsNext program its c.in-Some-2.next c.in-Some-2.simple.now) c.in_ok-program.ensures found in
    let w = world_of c.args.self.now in
    subst (λ f. IfOk c.step_simple.result (λ stepped. IsStepped w
    (step_items w c.args.a (frame_view (reading c.args.self.now.program) f) (past_labels (items_from c.args.self.now.program f f.todo.place))) stepped (world_of c.step_simple.new.self))) here
    (subst (λ so. IfOk c.step_simple.result (λ stepped. IsStepped w so stepped (world_of c.step_simple.new.self)))
    (next-steps c.args.self.now c.args.a its c.in-Some-2.next c.in-Some-2.simple.now is)
    (c.step_simple.ensures _ (is-turn _ c.args.a its c.in-Some-2.next c.in-Some-2.simple.now is (sym c.in-Some.ensures.frame))))
