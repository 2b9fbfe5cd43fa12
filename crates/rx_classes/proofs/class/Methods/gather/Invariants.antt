use Rattle.std.proofs.Common.{◌≡◌, [], take, drop}
use Rattle.rx_classes.specs.Installing.{repeated_method}
use Rattle.rx_classes.specs.Kept.{IsGathered}
use Rattle.rx_classes.proofs.class.Methods.gather.Given as goal

abbrev pub invariant-loop-def : goal.invariant-loop-def
invariant-loop-def l =
    IsGathered (take l.def-index l.defs) l.methods
    × (repeated_method [] l.defs ≡ repeated_method (take l.def-index l.defs) (drop l.def-index l.defs))
