use Rattle.std.proofs.Common.{◌≡◌, ◌≤◌, length}
use Rattle.rx_text.specs.Blanks.{without_blanks_at_end}
use Rattle.rx_text.proofs.blanks.strip_end.Given as goal

abbrev pub invariant-loop-rest : goal.invariant-loop-rest
invariant-loop-rest l = record {
  same : without_blanks_at_end l.rest ≡ without_blanks_at_end l.text;
  no_longer : length l.rest ≤ length l.text;
}

abbrev pub decreases-loop-rest : goal.decreases-loop-rest
decreases-loop-rest l = length l.rest
