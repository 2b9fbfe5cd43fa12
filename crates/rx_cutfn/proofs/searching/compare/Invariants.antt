use Rattle.std.proofs.Common.{◌≡◌, ℕ, ◌<◌, get_or}
use Rattle.rx_cutfn.proofs.searching.compare.Given as goal

abbrev pub invariant-loop-passed : goal.invariant-loop-passed
invariant-loop-passed l = (k : ℕ) → k < l.passed → get_or l.a k l.pad ≡ get_or l.b k l.pad
