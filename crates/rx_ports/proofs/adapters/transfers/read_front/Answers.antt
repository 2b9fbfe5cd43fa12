use Rattle.std.proofs.Common.{◌≡◌, ◌≤◌, ◌++◌, length, take, drop, refl, rules}
use Rattle.std.proofs.lemmas.List.{take-append-le}
use Rattle.std.proofs.KnownBytes.{Consumes-trans}
use Rattle.rx_ports.proofs.Transfers.{HasLeft-front}
use Rattle.rx_ports.proofs.adapters.transfers.read_front.Goals as goal

-- the read gave none, so the reader is at its end or no more is wanted
pub returns-in-Ok-eq0 : goal.returns-in-Ok-eq0
returns-in-Ok-eq0 g c =
    let none = c.in-Ok-eq0.field-0-test in
    let last = rw none at c.in-Ok-eq0.ensures.bytes in
    HasLeft-front _ _ _ c.loop.front.items c.args.most c.min-room.result c.loop.invariant.1 last.0
    (λ some. last.1 refl (search rules))
    (search rules)
    (λ full. search rules)

-- what was read comes after what was read before
pub loop-preserved : goal.loop-preserved
loop-preserved g c =
    let count = c.in-Ok.count in
    let piece = c.read_piece.new.buffer in
    let fits : count ≤ length piece = search rules in
    let seam = take-append-le count piece (drop c.min-room.result c.loop.buffer) fits in
    let more : c.extend_from_slice.new.self.items ≡ c.loop.front.items ++ take count piece = search (rules, seam) in
    (search rules, rw more (Consumes-trans _ _ _ _ _ c.loop.invariant.1 c.in-Ok.ensures.bytes.0))
