use Rattle.std.proofs.Common.{◌++◌, ◌∷◌, [], sym, subst}
use Rattle.rx_tree.specs.declared.name.Name.TheVariants.{Simple}
use Rattle.rx_eval.specs.Names.{tail_names}
use Rattle.rx_eval.specs.Numbers.{AreNumbers}
use Rattle.rx_eval.proofs.NumberLemmas.{numbers_more}
use Rattle.rx_eval.proofs.names.Names.number_part.Goals as goal

pub returns-in_ok-push-clause-are : goal.returns-in_ok-push-clause-are
returns-in_ok-push-clause-are c = λ names h.
    let new = c.simple.new.self in
    let name = Simple c.in-Of.name in
    subst (λ part. AreNumbers new (names ++ tail_names (part ∷ [])) c.push.new.self) (sym c.in-Of.is)
    (subst (AreNumbers new (names ++ name ∷ [])) (sym c.in_ok-push.ensures.ok)
    (numbers_more c.args.self.now new names c.args.numbers.now name c.in_ok-simple.field-0 h c.simple.ensures.keeps c.in_ok-simple.ensures.is))
