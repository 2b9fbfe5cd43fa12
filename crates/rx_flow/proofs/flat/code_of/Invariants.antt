use Rattle.std.proofs.Common.{take, drop, []}
use Rattle.rx_flow.specs.Laid.{plans, Laid}
use Rattle.rx_flow.specs.Labels.{AreLabelsBefore}
use Rattle.rx_flow.proofs.flat.code_of.Given as goal

abbrev pub invariant-loop-clause : goal.invariant-loop-clause
invariant-loop-clause l = record {
  laid : Laid (record { ops = []; clauses = [] }) l.code (plans (take l.clause-index l.clauses));
  labelled : AreLabelsBefore l.clauses (drop l.clause-index l.clauses) l.labels;
}
