use Rattle.std.proofs.Common.{rules}
use Rattle.rx_ports.proofs.Entries.{file_in-with_file, file_in-with_file_other}
use Rattle.rx_ports.proofs.memory.scripted_shelf.MemShelfShelf.store.Goals as goal
use Rattle.rx_ports.proofs.memory.scripted_shelf.MemShelfShelf.store.Goals.{in-Ok, in-Err}

pub returns-clause-done : goal.returns-clause-done
returns-clause-done c =
    elim c.match-put_file.branch [ in-Ok w ↦ search (rules, file_in-with_file) | in-Err w ↦ search rules ]

pub returns-clause-others : goal.returns-clause-others
returns-clause-others c = λ other apart.
    elim c.match-put_file.branch [ in-Ok w ↦ search (rules, file_in-with_file_other) | in-Err w ↦ search rules ]
