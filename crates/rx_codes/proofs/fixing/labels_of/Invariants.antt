use Rattle.std.proofs.Common.{◌≡◌, [], drop}
use Rattle.rx_machine.specs.Scenes.{labels_from}
use Rattle.rx_codes.proofs.fixing.labels_of.Given as goal

abbrev pub invariant-loop-clause : goal.invariant-loop-clause
invariant-loop-clause l = labels_from l.labels (drop l.clause-index l.clauses) ≡ labels_from [] l.clauses
