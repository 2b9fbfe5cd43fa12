use Rattle.std.proofs.Common.{◌≡◌, drop}
use Rattle.rx_classes.specs.Lookup.{first_method}
use Rattle.rx_classes.proofs.table.ClassTable.first_method.Given as goal

abbrev pub invariant-loop-scope : goal.invariant-loop-scope
invariant-loop-scope l = first_method l.self l.name l.scopes ≡ first_method l.self l.name (drop l.scope-index l.scopes)
