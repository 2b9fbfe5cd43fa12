use Rattle.std.proofs.Common.{IfOk, subst, sym, ◌∙◌}
use Rattle.rx_flow.specs.Todo.{past_labels}
use Rattle.rx_frames.specs.declared.position.Position.{Position}
use Rattle.rx_frames.specs.Frames.{Frame}
use Rattle.rx_machine.specs.Step.{step_items}
use Rattle.rx_kernel.specs.declared.state.State.{State}
use Rattle.rx_kernel.specs.Readings.{reading}
use Rattle.rx_kernel.specs.States.{world_of}
use Rattle.rx_kernel.specs.Stepping.{IsStepped}
use Rattle.rx_kernel.specs.Turning.{IsTop, items_from}
use Rattle.rx_kernel.specs.Views.{frame_view}
use Rattle.rx_kernel.proofs.StepLemmas.{step-goes}
use Rattle.rx_kernel.proofs.state.State.step_frame.Goals as goal

pub returns : goal.returns
returns c = λ frame top.
    let so : State → Type 0 = λ state. (f : Frame Position) → IsTop state.parts.stacks c.args.a f → IfOk c.step_clause.result (λ stepped. IsStepped (world_of state)
    (step_items (world_of state) c.args.a (frame_view (reading state.program) f) (past_labels (items_from state.program f f.todo.place))) stepped (world_of c.step_clause.new.self)) in
    subst (λ one. IfOk c.step_clause.result (λ stepped. IsStepped (world_of c.args.self.now) one stepped (world_of c.step_clause.new.self)))
    (step-goes c.args.self.now c.args.a frame (sym (c.take_pool.ensures.asked frame top) ∙ c.if-take_pool.false))
    (subst so c.if-take_pool.ensures.same c.step_clause.ensures frame top)
