use Rattle.std.proofs.Common.{List, ◌++◌, reverse, sym, ◌∙◌, ap}
use Rattle.rx_clause_tree.specs.declared.clause.Body.{Body}
use Rattle.rx_directives.specs.declared.directive.Directive.{Directive}
use Rattle.rx_directives.specs.Packages as spec
use Rattle.rx_directives.proofs.Making.{bodies_more}
use Rattle.rx_directives.proofs.bodies.bodies_of.Goals as goal

pub loop-directive-preserved : goal.loop-directive-preserved
loop-directive-preserved c =
    c.loop-directive.invariant
    ∙ ap (λ (left : List Directive). spec.bodies_of left ++ reverse c.loop-directive.bodies.items) c.in-Some.ensures
    ∙ bodies_more c.pop.new.self c.in-Some.directive c.loop-directive.bodies.items
    ∙ ap (λ (made : List Body). spec.bodies_of c.pop.new.self ++ reverse made) (sym c.in_ok-push_made.ensures)
