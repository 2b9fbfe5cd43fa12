use Rattle.std.proofs.Common.{◌≡◌, drop}
use Rattle.rx_eval.specs.Reading.{part_texts}
use Rattle.rx_eval.specs.Values.{read}
use Rattle.rx_eval.proofs.NamingLemmas.{with_texts}
use Rattle.rx_eval.proofs.naming.part_texts.Given as goal

abbrev pub invariant-loop-part : goal.invariant-loop-part
invariant-loop-part l = with_texts l.texts (part_texts l.novalue (read l.reads) (drop l.part-index l.parts)) ≡ part_texts l.novalue (read l.reads) l.parts
