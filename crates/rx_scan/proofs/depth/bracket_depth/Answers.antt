use Rattle.std.proofs.Common.{◌≡◌, ◌≤◌, ◌+◌, ◌∙◌, sym, ap, drop, arith}
use Rattle.std.specs.Prelude.{ℕ, max}
use Rattle.rx_scan.specs.Depth.{depth_from, depth_behind}
use Rattle.rx_scan.proofs.DepthLemmas.{depth_from-least, depth_from-at, depth_behind-most, greatest-step}
use Rattle.rx_scan.proofs.depth.bracket_depth.Goals as goal

pub loop-token-preserved : goal.loop-token-preserved
loop-token-preserved c =
    let here : ℕ = depth_from c.loop-token.depth (drop c.loop-token.token-index c.args.tokens.now) in
    let later : ℕ = depth_from c.depth_behind-depth.result (drop (c.loop-token.token-index + 1) c.args.tokens.now) in
    let next : here ≡ max c.loop-token.depth later =
    depth_from-at c.args.tokens.now c.loop-token.token-index c.loop-token.depth c.token-item.result c.loop-token-test.true c.token-item.is
    ∙ ap (λ d. max c.loop-token.depth (depth_from d (drop (c.loop-token.token-index + 1) c.args.tokens.now))) (sym c.depth_behind-depth.ensures) in
    let least : c.depth_behind-depth.result ≤ later = depth_from-least _ _ in
    let most : depth_behind c.loop-token.depth c.token-item.result.kind ≤ c.loop-token.depth + 1 = depth_behind-most _ _ in
    record {
      greatest = ap (λ n. max n later) c.max-greatest.ensures
          ∙ greatest-step c.loop-token.greatest c.loop-token.depth c.depth_behind-depth.result here later _ c.loop-token.invariant.greatest next
          c.loop-token.invariant.at_most least;
      few = let same : c.depth_behind-depth.result ≡ depth_behind c.loop-token.depth c.token-item.result.kind = c.depth_behind-depth.ensures in omega arith;
      at_most = omega arith;
    }
