use Rattle.std.proofs.Common.{◌≡◌, None}
use Rattle.rx_install.specs.Waiting.{first_missing}
use Rattle.rx_install.proofs.installed.Installed.first_missing.Given as goal

abbrev pub invariant-loop-at : goal.invariant-loop-at
invariant-loop-at l = first_missing l.self l.class l.at ≡ None
