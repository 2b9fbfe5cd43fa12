use Rattle.std.proofs.Common.{◌∙◌, ◌+◌, ap, sym, cond, is_some, length}
use Rattle.rx_heap.specs.Arrays.{item_in, without_item}
use Rattle.rx_heap.proofs.ArrayLemmas.{counted-removed, item_in-places, places-removed, within-removed}
use Rattle.rx_heap.proofs.array.Array.remove.Goals as goal

pub invariant_of-self : goal.invariant_of-self
invariant_of-self c = (
  within-removed c.self.inside.items.entries c.swap_remove.new.self.entries c.self.inside.size c.args.place c.self.invariant.0 c.swap_remove.ensures.updates.0,
  (
    counted-removed c.self.inside.items.entries c.swap_remove.new.self.entries c.self.inside.size c.args.place c.self.invariant.0 c.self.invariant.1.0 c.swap_remove.ensures.updates.0
        (ap (λ item. length c.swap_remove.new.self.entries + cond (is_some item) 1 0) (sym c.swap_remove.ensures.value) ∙ c.swap_remove.ensures.len),
    c.self.invariant.1.1,
  ),
)

pub returns-clause-item : goal.returns-clause-item
returns-clause-item c =
    c.swap_remove.ensures.value
    ∙ sym (item_in-places c.self.inside.items.entries c.self.inside.size c.args.place c.self.invariant.0)
    ∙ ap (λ places. item_in places c.args.place) c.self.view_is

pub returns-clause-rest : goal.returns-clause-rest
returns-clause-rest c =
    places-removed c.self.inside.items.entries c.swap_remove.new.self.entries c.self.inside.size c.args.place c.swap_remove.ensures.updates.0
    ∙ ap (λ places. without_item places c.args.place) c.self.view_is
