use Rattle.std.proofs.Common.{◌≡◌, ◌++◌, take, drop, map, get_or}
use Rattle.rx_cutfn.proofs.letters.replaced.Given as goal

abbrev pub invariant-loop-byte : goal.invariant-loop-byte
invariant-loop-byte l = l.byte-items ≡ map (λ byte. get_or l.table byte 0) (take l.byte-index l.text) ++ drop l.byte-index l.text
