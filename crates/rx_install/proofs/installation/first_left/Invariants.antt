use Rattle.std.proofs.Common.{◌≡◌, drop}
use Rattle.rx_install.specs.States.{left_of}
use Rattle.rx_install.proofs.installation.first_left.Given as goal

abbrev pub invariant-loop-place : goal.invariant-loop-place
invariant-loop-place l = left_of l.left ≡ left_of (drop l.place-index l.left)
