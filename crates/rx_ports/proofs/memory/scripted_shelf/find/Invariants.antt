use Rattle.std.proofs.Common.{◌≡◌, drop}
use Rattle.rx_ports.specs.MemoryShelves.{entries_of, file_in}
use Rattle.rx_ports.proofs.memory.scripted_shelf.find.Given as goal

-- the entries that were passed have other names
abbrev pub invariant-loop-held : goal.invariant-loop-held
invariant-loop-held l = file_in (entries_of l.files) l.name ≡ file_in (entries_of (drop l.held-index l.files)) l.name
