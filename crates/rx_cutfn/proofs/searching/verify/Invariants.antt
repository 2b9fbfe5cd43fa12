use Rattle.std.proofs.Common.{◌≡◌, ℕ, ◌<◌, false, get_or}
use Rattle.rx_cutfn.specs.Searching.{is_sought}
use Rattle.rx_cutfn.proofs.searching.verify.Given as goal

abbrev pub invariant-loop-at : goal.invariant-loop-at
invariant-loop-at l = (k : ℕ) → k < l.at → is_sought l.reference l.wanted (get_or l.byte-items k 0) ≡ false
