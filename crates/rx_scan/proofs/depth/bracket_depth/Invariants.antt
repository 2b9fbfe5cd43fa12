use Rattle.std.proofs.Common.{◌≡◌, ◌≤◌, drop}
use Rattle.std.specs.Prelude.{max}
use Rattle.rx_scan.specs.Depth.{depth_from, bracket_depth}
use Rattle.rx_scan.proofs.depth.bracket_depth.Given as goal

-- the greatest depth so far, and the depth from which the others go on
abbrev pub invariant-loop-token : goal.invariant-loop-token
invariant-loop-token l = record {
  greatest : max l.greatest (depth_from l.depth (drop l.token-index l.tokens)) ≡ bracket_depth l.tokens;
  few : l.depth ≤ l.token-index;
  at_most : l.depth ≤ l.greatest;
}
