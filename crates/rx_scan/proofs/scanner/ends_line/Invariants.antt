use Rattle.std.proofs.Common.{length}
use Rattle.rx_scan.proofs.CutLemmas.{LeadsTo}
use Rattle.rx_scan.proofs.scanner.ends_line.Given as goal

-- spaces alone were passed
abbrev pub invariant-loop-behind : goal.invariant-loop-behind
invariant-loop-behind l = LeadsTo l.bytes l.rest

abbrev pub decreases-loop-behind : goal.decreases-loop-behind
decreases-loop-behind l = length l.rest
