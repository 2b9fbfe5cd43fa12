use Rattle.std.proofs.Common.{arith}
use Rattle.rx_cutfn.proofs.LetterLemmas.{replaced_more}
use Rattle.rx_cutfn.proofs.letters.replaced.Goals as goal

pub loop-byte-preserved : goal.loop-byte-preserved
loop-byte-preserved c =
    replaced_more c.args.table.now c.loop-byte.byte-items c.args.text.now c.loop-byte.byte-index (omega arith) c.loop-byte.invariant
