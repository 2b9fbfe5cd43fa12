use Rattle.rx_top.proofs.playing.play.Given as goal

-- the ledger of this run
abbrev pub ghosts-play_with : goal.ghosts-play_with
ghosts-play_with g a = record { name = a.blank.name; parts = a.blank.parts }
