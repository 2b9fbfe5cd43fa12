use Rattle.rx_kernel.proofs.looking.look.Given as goal

-- the ledger of this look
abbrev pub ghosts-look_with : goal.ghosts-look_with
ghosts-look_with a = record { name = a.blank.name; parts = a.blank.parts }
