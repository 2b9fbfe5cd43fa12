use Rattle.rx_install.specs.States.{IsSound, SameClasses, from_place}
use Rattle.rx_install.proofs.installation.Installation.look_at_all.Given as goal

abbrev pub invariant-loop-waiter : goal.invariant-loop-waiter
invariant-loop-waiter l = IsSound l.self (from_place l.waiter-index l.waiters) × SameClasses l.fn.self l.self
