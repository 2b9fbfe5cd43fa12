use Rattle.std.proofs.Common.{◌≡◌, ◌++◌, List, take}
use Rattle.rx_tree.specs.declared.name.Name.{Name}
use Rattle.rx_eval.specs.Numbers.{AreNumbers}
use Rattle.rx_eval.proofs.listing.push_names.Given as goal

abbrev pub invariant-loop-number : goal.invariant-loop-number
invariant-loop-number l = (wanted : List Name) → AreNumbers l.names wanted l.numbers → l.found ≡ l.initial.found ++ take l.number-index wanted
