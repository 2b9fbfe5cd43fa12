use Rattle.std.proofs.Common.{false, [], ◌++◌, take, ap, subst, sym, ◌∙◌}
use Rattle.rx_eval.specs.Names.{derived_names, known}
use Rattle.rx_eval.specs.Reading.{derive}
use Rattle.rx_kernel.specs.Noted.{AreValued, value_for, valued}
use Rattle.rx_kernel.proofs.NotedLemmas.{all-valued, noted-next}
use Rattle.rx_kernel.proofs.evaluating.note_names.Goals as goal

pub note_name-requires-clause-valued : goal.note_name-requires-clause-valued
note_name-requires-clause-valued c =
    let value = value_for c.args.parts.now c.args.a in
    subst (AreValued value) (sym c.loop-name.invariant) (all-valued value (derived_names value (take c.loop-name.name-index c.args.names.now)))

pub loop-name-preserved : goal.loop-name-preserved
loop-name-preserved c =
    let value = value_for c.args.parts.now c.args.a in
    c.in_ok-note_name.ensures
    ∙ ap (λ name. c.loop-name.noted ++ valued (value_for c.args.parts.now c.args.a) (known (derive false (value_for c.args.parts.now c.args.a) name) [])) c.name-item.is
    ∙ noted-next value c.args.names.now c.loop-name.name-index c.name-item.result c.loop-name.noted c.loop-name-test.true c.loop-name.invariant
