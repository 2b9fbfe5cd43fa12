use Rattle.std.proofs.Common.{◌≡◌, [], ◌∷◌, ◌++◌, drop}
use Rattle.rx_template.specs.Pieces.{shared}
use Rattle.rx_template.proofs.sharing.share.Given as goal

abbrev pub invariant-loop-target : goal.invariant-loop-target
invariant-loop-target l =
    l.pieces ++ shared (drop l.target-index l.others ++ l.last ∷ []) l.rest ≡ l.fn.pieces ++ shared l.targets l.section
