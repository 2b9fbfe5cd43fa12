use Rattle.std.proofs.Common.{◌≡◌, ◌+◌, ◌<◌, ◌≤◌, ◌^◌, [], length, take, ◌∙◌, subst, refl, arith, rules}
use Rattle.std.proofs.lemmas.List.{take_all}
use Rattle.rx_flow.specs.Laid.{plans, Laid}
use Rattle.rx_flow.specs.Labels.{AreLabels}
use Rattle.rx_flow.proofs.BodyLemmas.{stands_laid}
use Rattle.rx_flow.proofs.LabelLemmas.{labels_all, labels_noted}
use Rattle.rx_flow.proofs.LaidLemmas.{laid_next}
use Rattle.rx_flow.proofs.flat.code_of.Goals as goal

pub loop-clause-preserved : goal.loop-clause-preserved
loop-clause-preserved c =
    let clauses = c.as_slice-clauses.result.now in
    let laid : Laid (record { ops = []; clauses = [] }) c.flatten_clause.new.code (plans (take (c.loop-clause.clause-index + 1) clauses)) =
    laid_next (record { ops = []; clauses = [] }) c.loop-clause.code c.flatten_clause.new.code clauses c.loop-clause.clause-index c.clause-item.result
    c.loop-clause-test.true c.clause-item.is c.loop-clause.invariant.laid c.in_ok-flatten_clause.ensures in
    record {
      laid = laid;
      labelled =
          labels_noted c.flatten_clause.new.code clauses c.loop-clause.labels c.note_label.new.labels c.loop-clause.clause-index c.clause-item.result _ refl
          c.loop-clause-test.true c.clause-item.is laid c.in_ok-note_label.ensures c.loop-clause.invariant.labelled;
    }

pub returns : goal.returns
returns c =
    let clauses = c.as_slice-clauses.result.now in
    let past : length clauses ≤ c.loop-clause.clause-index = omega (arith, c.loop-clause-test.false) in
    let all : take c.loop-clause.clause-index clauses ≡ c.args.body.now.clauses = take_all c.loop-clause.clause-index clauses past ∙ c.as_slice-clauses.ensures in
    let labelled : AreLabels clauses c.loop-clause.labels = labels_all clauses c.loop-clause.labels c.loop-clause.clause-index past c.loop-clause.invariant.labelled in
    let few : length c.loop-clause.code.ops < 2 ^ 32 = search rules in
    record {
      stands =
          stands_laid [] [] c.loop-clause.code c.args.body.now.clauses refl refl
          (subst (λ xs. Laid (record { ops = []; clauses = [] }) c.loop-clause.code (plans xs)) all c.loop-clause.invariant.laid);
      labelled = subst (λ xs. AreLabels xs c.loop-clause.labels) c.as_slice-clauses.ensures labelled;
      few = few;
    }
