use Rattle.std.proofs.Common.{◌≡◌, ◌++◌, drop}
use Rattle.rx_machine.specs.Texts.{wait_lines}
use Rattle.rx_top.proofs.waits.push_waits.Given as goal

-- the lines so far, and those of the rows that are left
abbrev pub invariant-loop-row : goal.invariant-loop-row
invariant-loop-row l = l.text.items ++ wait_lines (drop l.row-index l.rows) ≡ l.initial.text.items ++ wait_lines l.rows
