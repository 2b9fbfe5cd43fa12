use Rattle.std.proofs.Common.{◌≡◌, ◌+◌, ◌≤◌, length}
use Rattle.std.specs.Prelude.{All}
use Rattle.rx_tree.specs.Spelling.{feeds, IsOnLine}
use Rattle.rx_scan.specs.Read.{place_of}
use Rattle.rx_scan.proofs.ScanLemmas.{HasScanned}
use Rattle.rx_scan.proofs.scanner.scan.Given as goal

-- the tokens so far, and a line that counts the line feeds
abbrev pub invariant-loop-rest : goal.invariant-loop-rest
invariant-loop-rest l = record {
  scanned : HasScanned l.source l.tokens (place_of l.place) l.rest;
  lines : l.place.line + feeds l.rest ≡ 1 + feeds l.source;
  from_one : 1 ≤ l.place.line;
  on_line : All (IsOnLine l.source) l.tokens;
  few : length l.tokens + length l.rest ≤ length l.source;
}

abbrev pub decreases-loop-rest : goal.decreases-loop-rest
decreases-loop-rest l = length l.rest
