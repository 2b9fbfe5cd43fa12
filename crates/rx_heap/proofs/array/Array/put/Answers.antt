use Rattle.std.proofs.Common.{◌∙◌, ◌+◌, ap, arith, cond, is_some, length}
use Rattle.rx_heap.specs.Arrays.{with_item}
use Rattle.rx_heap.proofs.ArrayLemmas.{counted-put, places-put, within-put}
use Rattle.rx_heap.proofs.array.Array.put.Goals as goal

pub invariant_of-self-2 : goal.invariant_of-self-2
invariant_of-self-2 c =
    rw c.max-self-inside.ensures (
      within-put c.self.inside.items.entries c.insert.new.self.entries c.self.inside.size c.args.place c.args.item c.self.invariant.0 c.in_ok-insert.ensures.updates.0,
      (
        counted-put c.self.inside.items.entries c.insert.new.self.entries c.self.inside.size c.args.place c.args.item c.self.invariant.0 c.self.invariant.1.0 c.in_ok-insert.ensures.updates.0
            (c.in_ok-insert.ensures.len ∙ ap (λ old. length c.self.inside.items.entries + cond (is_some old) 0 1) c.in_ok-insert.ensures.old),
        omega (arith, c.requires, c.self.invariant.1.1),
      ),
    )

pub returns-clause-ok : goal.returns-clause-ok
returns-clause-ok c =
    rw c.max-self-inside.ensures
    (places-put c.self.inside.items.entries c.insert.new.self.entries c.self.inside.size c.args.place c.args.item c.self.invariant.0 c.in_ok-insert.ensures.updates.0
    ∙ ap (λ places. with_item places c.args.place c.args.item) c.self.view_is)
