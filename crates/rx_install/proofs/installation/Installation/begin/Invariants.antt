use Rattle.std.proofs.Common.{◌≡◌, []}
use Rattle.rx_install.specs.States.{IsSound, left_of, never_looked_at}
use Rattle.rx_install.proofs.installation.Installation.begin.Given as goal

abbrev pub invariant-loop-place : goal.invariant-loop-place
invariant-loop-place l =
    IsSound l.state (never_looked_at l.place l.count) × (l.state.installed ≡ []) × (left_of l.state.left.items ≡ l.fn.classes)
