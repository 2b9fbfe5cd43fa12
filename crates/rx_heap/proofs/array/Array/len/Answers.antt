use Rattle.std.proofs.Common.{arith}
use Rattle.rx_heap.proofs.ArrayLemmas.{kept-few}
use Rattle.rx_heap.proofs.array.Array.len.Goals as goal

pub overflow_cast-result : goal.overflow_cast-result
overflow_cast-result c =
    omega (arith, c.len.ensures.len, kept-few c.self.inside.items.entries c.self.inside.size c.self.invariant.1.0, c.self.invariant.1.1)
