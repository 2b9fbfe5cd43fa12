use Rattle.std.proofs.Common.{◌≡◌, ◌++◌, map, reverse, length, Some}
use Rattle.rx_install.proofs.installation.all_left.Given as goal

abbrev pub invariant-loop-class : goal.invariant-loop-class
invariant-loop-class l = map Some l.fn.classes ≡ map Some l.classes ++ reverse l.left.items

abbrev pub decreases-loop-class : goal.decreases-loop-class
decreases-loop-class l = length l.classes
