use Rattle.std.proofs.Common.{◌≡◌, Some, None, Ok, ap, sym, ◌∙◌}
use Rattle.rx_machine.specs.Assigning.{assign_from}
use Rattle.rx_machine.specs.Templates.{cuts, texts_from}
use Rattle.rx_machine.specs.World as machine
use Rattle.rx_kernel.specs.declared.stepped.Stepped.TheVariants as stepped
use Rattle.rx_kernel.specs.Parsing.{all_rows_of, taken_with}
use Rattle.rx_kernel.specs.States.{world_of}
use Rattle.rx_kernel.specs.Steps.{after_assigning}
use Rattle.rx_kernel.proofs.ParseLemmas.{cuts-in, moved}
use Rattle.rx_kernel.proofs.StepLemmas.{stepped-is}
use Rattle.rx_kernel.proofs.state.State.cuts.Goals as goal

pub returns-in_default : goal.returns-in_default
returns-in_default c = λ t turn all are.
    let none : c.in_ok-texts.field-0 ≡ None = c.in_default.is in
    let after = world_of c.take_texts.new.self in
    stepped-is (world_of c.args.self.now) machine.WantsLine (cuts t c.args.parse.now.upper all (texts_from t c.args.values.now c.args.parse.now.from)) stepped.WantsLine after
    (ap (cuts t c.args.parse.now.upper all) (sym (ap (taken_with after) none) ∙ c.in_ok-texts.ensures.texts c.args.here t turn))
    (c.in_ok-texts.ensures.same (ap Ok none))

pub returns : goal.returns
returns c = λ t turn all are.
    let upper = c.args.parse.now.upper in
    let after = c.take_texts.new.self in
    let some : c.in_ok-texts.field-0 ≡ Some c.in-Some.texts = c.in-Some.is in
    let at = moved c.args.self.now after c.args.a c.args.here t turn c.in_ok-texts.ensures.parts c.in_ok-texts.ensures.program in
    stepped-is (world_of c.args.self.now) _ (cuts t upper all (texts_from t c.args.values.now c.args.parse.now.from)) stepped.Done (world_of c.assigns.new.self)
    (ap (cuts t upper all) (sym (ap (taken_with (world_of after)) some) ∙ c.in_ok-texts.ensures.texts c.args.here t turn))
    (cuts-in after c.args.a c.args.here _ at upper all c.args.bounds.now c.in-Some.texts c.in_ok-texts-2.texts c.in_ok-rows.rows (world_of c.go_on.new.self) (world_of c.assigns.new.self)
    are c.in_ok-texts-2.ensures (c.in_ok-rows.ensures ∙ ap (all_rows_of c.args.bounds.now) c.as_slice.ensures)
    (c.go_on.ensures.goes_on at.top at.is_top)
    (c.in_ok-assigns.ensures
    ∙ ap (λ rows. after_assigning c.args.a c.args.here.line (assign_from (world_of c.go_on.new.self) c.args.a rows)) c.as_slice-2.ensures))
