use Rattle.rx_classes.proofs.FindLemmas.{first-here}
use Rattle.rx_classes.proofs.table.ClassTable.first_method.Goals as goal

pub returns-in-Some : goal.returns-in-Some
returns-in-Some c =
    first-here c.args.self.now c.args.name.now c.args.scopes.now c.loop-scope.scope-index _ c.in-Some.method c.loop-scope-test.true
    c.loop-scope.invariant c.in-Some.ensures
