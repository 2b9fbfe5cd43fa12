use Rattle.std.proofs.Common.{length, arith, ap, ◌∙◌}
use Rattle.std.proofs.lemmas.List.{length-set}
use Rattle.std.proofs.lemmas.List.FromFn.{length-range_with_len}
use Rattle.rx_cutfn.proofs.LetterLemmas.{table_more, table_none}
use Rattle.rx_cutfn.proofs.letters.table.Goals as goal

pub loop-place-init : goal.loop-place-init
loop-place-init c = record {
  long = ap length c.all_bytes-table.ensures ∙ length-range_with_len 0 256;
  told = table_none c.all_bytes-table.result c.args.output.now c.args.input.now c.args.pad c.all_bytes-table.ensures;
}

pub loop-place-preserved : goal.loop-place-preserved
loop-place-preserved c = record {
  long = length-set c.loop-place.table _ c.byte_behind.result ∙ c.loop-place.invariant.long;
  told = table_more c.loop-place.table c.args.output.now c.args.input.now c.args.pad c.loop-place.place c.byte_behind.result
      c.loop-place.invariant.long (omega arith) c.loop-place.auto.place c.byte_behind.ensures c.loop-place.invariant.told;
}
