use Rattle.std.proofs.Common.{◌≡◌, reverse, ap, subst, sym, ◌∙◌}
use Rattle.std.specs.Arc.{arc_value}
use Rattle.rx_eval.specs.Filling.{filled_all}
use Rattle.rx_eval.specs.Pauses.{left_of}
use Rattle.rx_eval.specs.Places.{IsPlace, partial, with_answer}
use Rattle.rx_eval.proofs.FillLemmas.{filled_rest}
use Rattle.rx_eval.proofs.PauseLemmas.{left_there, put_there}
use Rattle.rx_eval.proofs.paused.Paused.with_answer.Goals as goal
use Rattle.rx_eval.proofs.paused.Paused.with_answer.Goals.{then-kept+in_ok-push, else-kept}

pub at-requires : goal.at-requires
at-requires c =
    let inside = c.self.inside in
    let is : reverse c.if-kept.values ≡ with_answer inside.kept c.args.answer (reverse inside.values) = elim c.if-kept.branch [
      | then-kept+in_ok-push w ↦ put_there inside.values c.if-kept.values c.args.answer inside.kept w.if-kept.true (w.values-is ∙ w.in_ok-push.ensures.ok)
      | else-kept w ↦ left_there inside.values c.if-kept.values c.args.answer inside.kept w.if-kept.false w.values-is
    ] in
    record { placed = subst (IsPlace (arc_value inside.code).instrs inside.place) (sym is) (c.self.invariant c.args.answer) }

pub returns-clause-trees : goal.returns-clause-trees
returns-clause-trees c =
    let inside = c.self.inside in
    let code = (arc_value inside.code).instrs in
    let is : reverse c.if-kept.values ≡ with_answer inside.kept c.args.answer (reverse inside.values) = elim c.if-kept.branch [
      | then-kept+in_ok-push w ↦ put_there inside.values c.if-kept.values c.args.answer inside.kept w.if-kept.true (w.values-is ∙ w.in_ok-push.ensures.ok)
      | else-kept w ↦ left_there inside.values c.if-kept.values c.args.answer inside.kept w.if-kept.false w.values-is
    ] in
    ap (λ its. partial its.instrs c.at.result.place (reverse c.at.result.values)) c.at.ensures.code
    ∙ ap (λ place. partial code place (reverse c.at.result.values)) c.at.ensures.place
    ∙ ap (λ values. partial code inside.place (reverse values)) c.at.ensures.values
    ∙ ap (partial code inside.place) is
    ∙ sym (filled_rest code inside.place (reverse inside.values) inside.kept c.args.answer)
    ∙ ap (λ pause. filled_all c.args.answer (left_of pause)) c.self.view_is
