use Rattle.std.proofs.Common.{refl, sym, ◌∙◌, ap, subst}
use Rattle.rx_flow.specs.Finds as finds
use Rattle.rx_machine.specs.Todo.{clauses_in}
use Rattle.rx_kernel.proofs.NextLemmas.{is-next}
use Rattle.rx_kernel.proofs.next.next_clause.Goals as goal

pub returns-clause-next : goal.returns-clause-next
returns-clause-next c =
    is-next c.args.program.now c.args.frame.now c.in-Some.flat.now.clauses c.in-Some-find.found c.in-Some-clause.clause.now c.in-Some-simple_of.simple.now _
    (c.in-Some.ensures.some ∙ ap (clauses_in c.args.program.now) c.body.ensures)
    (subst (λ place. finds.IsNext c.in-Some.flat.now.clauses place c.in-Some-find.found) c.place.ensures c.in-Some-find.ensures.next)
    (sym c.in-Some-clause.ensures) (sym c.in-Some-simple_of.ensures) refl refl refl refl
