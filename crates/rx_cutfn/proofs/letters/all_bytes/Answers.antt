use Rattle.std.proofs.Common.{arith}
use Rattle.rx_cutfn.proofs.LetterLemmas.{all_bytes_are}
use Rattle.rx_cutfn.proofs.letters.all_bytes.Goals as goal

pub returns : goal.returns
returns c = all_bytes_are c.loop-byte.bytes c.loop-byte.invariant.long (λ k below. c.loop-byte.invariant.told k (omega arith))
