use Rattle.std.proofs.Common.{◌≡◌, ◌++◌, ◌∷◌, [], ◌-◌, ◌+◌, ◌%◌, ℕ, List, suc, sym, ap, ◌∙◌, arith, append_assoc}
use Rattle.rx_convfn.specs.Conversions.{bytes_from}
use Rattle.rx_convfn.proofs.bytes.bytes_from.Goals as goal

pub loop-preserved : goal.loop-preserved
loop-preserved c =
    let left : c.args.count - c.loop.counter ≡ suc (c.args.count - (c.loop.counter + 1)) = omega arith in
    let behind : List ℕ = bytes_from ((c.loop.next + 1) % 256) (c.args.count - (c.loop.counter + 1)) in
    ap (λ (t : List ℕ). t ++ behind) c.in_ok-push.ensures.items ∙
    append_assoc c.loop.bytes.items (c.loop.next ∷ []) behind ∙
    sym (ap (λ (n : ℕ). c.loop.bytes.items ++ bytes_from c.loop.next n) left) ∙ c.loop.invariant
