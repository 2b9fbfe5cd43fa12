use Rattle.std.proofs.Common.{◌≡◌, take}
use Rattle.rx_native.proofs.NameLemmas.{texts}
use Rattle.rx_native.proofs.directory.names_of.Given as goal

abbrev pub invariant-loop-name : goal.invariant-loop-name
invariant-loop-name l = l.names.items ≡ texts (take l.name-index l.name-items)
