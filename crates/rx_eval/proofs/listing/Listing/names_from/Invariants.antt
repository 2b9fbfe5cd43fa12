use Rattle.std.proofs.Common.{◌≡◌, ◌++◌, ◌-◌, drop, length}
use Rattle.rx_eval.specs.Names.{names_in}
use Rattle.rx_eval.proofs.listing.Listing.names_from.Given as goal

abbrev pub invariant-loop-at : goal.invariant-loop-at
invariant-loop-at l = l.found ++ names_in (drop l.at l.self) ≡ names_in (drop l.place l.self)

abbrev pub decreases-loop-at : goal.decreases-loop-at
decreases-loop-at l = length l.self - l.at
