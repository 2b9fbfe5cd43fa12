use Rattle.rx_kernel_cases.proofs.running.tell_program.Given as goal

-- the ledger of this run
abbrev pub ghosts-run : goal.ghosts-run
ghosts-run a = record { name = a.blank.name; parts = a.blank.parts }
