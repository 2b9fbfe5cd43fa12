use Rattle.std.proofs.Common.{◌≡◌, ◌+◌, drop}
use Rattle.rx_ports.specs.MemoryShelves.{entries_of, place_in}
use Rattle.rx_ports.proofs.memory.scripted_shelf.place.Given as goal

-- the entries that were passed have other names
abbrev pub invariant-loop-i : goal.invariant-loop-i
invariant-loop-i l = place_in (entries_of l.files) l.name ≡ l.i + place_in (entries_of (drop l.i l.files)) l.name
