use Rattle.rx_whole.proofs.ReadingLemmas.{capped_more}
use Rattle.rx_whole.proofs.reading.capped_value.Goals as goal

pub loop-byte-preserved : goal.loop-byte-preserved
loop-byte-preserved c =
    let more = capped_more c.args.digits.now c.loop-byte.byte-index c.loop-byte.value c.requires c.loop-byte-test.true c.loop-byte.invariant in
    cc
