use Rattle.std.proofs.Common.{◌∙◌, ap, arith}
use Rattle.rx_heap.specs.Arrays.{with_size}
use Rattle.rx_heap.proofs.ArrayLemmas.{counted-resized, places-resized, within-resized}
use Rattle.rx_heap.proofs.array.Array.resize.Goals as goal

pub invariant_of-self : goal.invariant_of-self
invariant_of-self c =
    rw c.max-self-inside.ensures (
      within-resized c.self.inside.items.entries c.self.inside.size c.args.size c.self.invariant.0,
      (counted-resized c.self.inside.items.entries c.self.inside.size c.args.size c.self.invariant.0 c.self.invariant.1.0, omega (arith, c.requires, c.self.invariant.1.1)),
    )

pub returns : goal.returns
returns c =
    rw c.max-self-inside.ensures
    (places-resized c.self.inside.items.entries c.self.inside.size c.args.size c.self.invariant.0
    ∙ ap (λ places. with_size places c.args.size) c.self.view_is)
