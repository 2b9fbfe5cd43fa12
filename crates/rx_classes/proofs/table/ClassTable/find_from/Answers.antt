use Rattle.std.proofs.Common.{◌-◌, ◌∙◌, ap, sym, length, take, drop, List}
use Rattle.std.specs.Prelude.{◌==◌, position}
use Rattle.rx_tree.specs.declared.class.Scope.{Scope}
use Rattle.rx_classes.specs.Lookup.{first_method, sought}
use Rattle.rx_classes.proofs.FindLemmas.{found-from}
use Rattle.rx_classes.proofs.table.ClassTable.find_from.Goals as goal

pub returns-in-Some : goal.returns-in-Some
returns-in-Some c = record {
  sought =
      found-from c.args.self.now c.args.class c.args.class_side c.args.from c.args.name.now c.in_ok-scopes.scopes.items c.in-Some.place c.sought.result
      c.in_ok-scopes.ensures
      (ap (λ (xs : List Scope). position (λ (scope : Scope). c.args.from == scope.class) xs) (sym c.as_slice.ensures.value) ∙ sym c.in-Some.ensures)
      (c.sought.ensures ∙ ap (λ (xs : List Scope). sought (first_method c.args.self.now c.args.name.now (take (length xs - c.in-Some.place) (drop c.in-Some.place xs)))) c.deref.ensures.value);
}
