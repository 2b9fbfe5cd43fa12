use Rattle.std.proofs.Common.{rules, arith}
use Rattle.std.proofs.lemmas.Grind.{common_steps}
use Rattle.rx_ports.proofs.Entries.{entries_of-append, with_file-missing, with_file-place}
use Rattle.rx_ports.proofs.memory.scripted_shelf.put_file.Goals as goal

-- the first entry of the name has the new bytes
pub returns-then-at-len-clause-done : goal.returns-then-at-len-clause-done
returns-then-at-len-clause-done c =
    with_file-place _ _ _ _ c.index_mut.result.now _ (search rules) (search rules) (search rules) (search rules)

-- there was none, so it stands at the end
pub returns-clause-done : goal.returns-clause-done
returns-clause-done c = grind (arith, common_steps, entries_of-append, with_file-missing)
