use Rattle.std.proofs.Common.{◌∙◌, ap, sym}
use Rattle.rx_heap.specs.Arrays.{item_in}
use Rattle.rx_heap.proofs.ArrayLemmas.{item_in-places}
use Rattle.rx_heap.proofs.array.Array.get.Goals as goal

pub returns : goal.returns
returns c =
    c.get.ensures.value
    ∙ sym (item_in-places c.self.inside.items.entries c.self.inside.size c.args.place c.self.invariant.0)
    ∙ ap (λ places. item_in places c.args.place) c.self.view_is
