use Rattle.std.proofs.Common.{◌∙◌, ap, sym, length}
use Rattle.rx_heap.proofs.ArrayLemmas.{places-length}
use Rattle.rx_heap.proofs.array.Array.size.Goals as goal

pub returns : goal.returns
returns c = sym (places-length c.self.inside.items.entries c.self.inside.size) ∙ ap length c.self.view_is
