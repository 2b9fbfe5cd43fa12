use Rattle.std.proofs.Common.{[], length}
use Rattle.rx_install.specs.Installation.{Installs}
use Rattle.rx_install.specs.States.{IsSettled, left_of}
use Rattle.rx_install.proofs.installation.installation_order.Given as goal

abbrev pub invariant-loop-state : goal.invariant-loop-state
invariant-loop-state l = IsSettled l.state × Installs [] l.fn.classes l.state.installed (left_of l.state.left.items)

abbrev pub decreases-loop-state : goal.decreases-loop-state
decreases-loop-state l = length (left_of l.state.left.items)
