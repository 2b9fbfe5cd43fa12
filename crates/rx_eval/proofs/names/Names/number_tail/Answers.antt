use Rattle.std.proofs.Common.{length, take, refl, subst}
use Rattle.std.proofs.lemmas.Option.{slice_get_read}
use Rattle.rx_eval.specs.Names.{tail_names}
use Rattle.rx_eval.specs.Numbers.{AreNumbers}
use Rattle.rx_eval.proofs.NumberLemmas.{tail_next}
use Rattle.rx_eval.proofs.names.Names.number_tail.Goals as goal

pub loop-part-preserved : goal.loop-part-preserved
loop-part-preserved c =
    let parts = c.args.parts.now in
    let get = slice_get_read parts (length parts) c.loop-part.part-index c.part-item.result refl c.loop-part-test.true c.part-item.is in record {
      are = subst (λ names. AreNumbers c.number_part.new.self names c.number_part.new.numbers) (tail_next parts c.loop-part.part-index c.part-item.result get)
          (c.in_ok-number_part.ensures.are (tail_names (take c.loop-part.part-index parts)) c.loop-part.invariant.are);
      keeps = λ name number h. c.number_part.ensures.keeps name number (c.loop-part.invariant.keeps name number h);
    }
