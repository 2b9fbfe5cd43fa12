use Rattle.std.proofs.Common.{◌≡◌, ℕ, ◌<◌, length, get_or}
use Rattle.rx_cutfn.proofs.letters.all_bytes.Given as goal

abbrev pub invariant-loop-byte : goal.invariant-loop-byte
invariant-loop-byte l = record {
  long : length l.bytes ≡ 256;
  told : (k : ℕ) → k < l.byte → get_or l.bytes k 0 ≡ k;
}
