use Rattle.std.proofs.Common.{◌≡◌, length}
use Rattle.rx_builtin.specs.Arguments.{fits}
use Rattle.rx_builtin.proofs.argument.fits.Given as goal

-- all fits where the rest does
abbrev pub invariant-loop-rest : goal.invariant-loop-rest
invariant-loop-rest l = fits l.missing l.further l.rest ≡ fits l.needed l.kinds l.args

abbrev pub decreases-loop-rest : goal.decreases-loop-rest
decreases-loop-rest l = length l.rest
