use Rattle.std.proofs.Common.{◌≡◌, IfOk, false, refl, ap, subst, ◌∙◌}
use Rattle.rx_eval.specs.declared.facts.Facts.{Facts}
use Rattle.rx_eval.specs.Reaching.{IsReached}
use Rattle.rx_machine.specs.Scenes.{read_of}
use Rattle.rx_kernel.specs.Readings.{reading}
use Rattle.rx_kernel.specs.States.{world_of}
use Rattle.rx_kernel.specs.Views.{frame_view}
use Rattle.rx_kernel.proofs.EvaluatingLemmas.{comes-same}
use Rattle.rx_kernel.proofs.state.State.evaluate.Goals as goal

pub returns : goal.returns
returns c = λ frame top body.
    let here : c.in-Some.frame.now ≡ frame = cc (top, c.in-Some.ensures.frame) in
    let facts : Facts = record { frame = c.in_ok-read_of.field-0; reads = c.in_ok-note_names.field-0; novalue = false } in
    let read = c.in_ok-read_of.ensures.read ∙ ap (λ one. read_of (world_of c.args.self.now) (frame_view (reading c.args.self.now.program) one)) here in
    subst (λ all. IfOk c.resume.result (IsReached c.args.ready.code all))
    (comes-same c.args.self.now c.args.a frame c.args.ready c.names.result.now facts c.names.ensures body read c.in_ok-note_names.ensures refl)
    c.resume.ensures
