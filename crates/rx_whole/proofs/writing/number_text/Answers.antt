use Rattle.std.proofs.Common.{w64, length, ap, ◌∙◌, arith}
use Rattle.std.proofs.lemmas.Int.{to_z-of_z}
use Rattle.rx_whole.specs.Number.{num, text_of}
use Rattle.rx_whole.proofs.WritingLemmas.{num-text_of, text_of_is_shortest}
use Rattle.rx_whole.proofs.writing.number_text.Goals as goal

pub returns-clause-read_back : goal.returns-clause-read_back
returns-clause-read_back c =
    let same = to_z-of_z w64 c.args.number c.ranges.number in
    ap num (c.as_bytes.ensures.value ∙ c.format.ensures.text ∙ ap text_of same) ∙
    num-text_of c.args.number c.ranges.number.sfits

pub returns-clause-shortest : goal.returns-clause-shortest
returns-clause-shortest c = λ text e.
    let same = to_z-of_z w64 c.args.number c.ranges.number in
    let written = c.as_bytes.ensures.value ∙ c.format.ensures.text ∙ ap text_of same in
    omega (arith, ap length written, text_of_is_shortest c.args.number c.ranges.number.sfits text e)
