-- A body with its code and its labels.
use Rattle.std.specs.Prelude.{◌<◌, ◌^◌, List, length}
use Rattle.rx_clause_tree.specs.declared.clause.Clause.{Clause}
use Rattle.rx_flow.specs.declared.code.Code.{Code}
use Rattle.rx_flow.specs.Stands.{Stands}
use Rattle.rx_flow.specs.Labels.{Labels, AreLabels}

pub record IsFlat (body : List Clause) (code : Code) (labels : Labels) : Type 0 where
  pub stands : Stands code body
  pub labelled : AreLabels body labels
  -- a number tells each place
  pub few : length code.ops < 2 ^ 32
