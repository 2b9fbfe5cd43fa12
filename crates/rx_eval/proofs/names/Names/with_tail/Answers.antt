use Rattle.std.proofs.Common.{sym, subst}
use Rattle.rx_eval.specs.Names.{tail_of, with_tail}
use Rattle.rx_eval.specs.Numbers.{AreNumbers}
use Rattle.rx_eval.proofs.NumberLemmas.{numbers_more}
use Rattle.rx_eval.proofs.names.Names.with_tail.Goals as goal

pub returns-clause-are : goal.returns-clause-are
returns-clause-are c =
    let name = c.args.name.now in
    subst (AreNumbers c.number.new.self (with_tail name)) (sym c.in_ok-push.ensures.ok)
    (numbers_more c.tail_of.new.self c.number.new.self (tail_of name) c.in_ok-numbers.numbers name c.in_ok-number.field-0 c.in_ok-numbers.ensures.are c.number.ensures.keeps c.in_ok-number.ensures.is)
