use Rattle.std.proofs.Common.{◌≡◌, ◌++◌, ◌∷◌, [], sym, subst, rules}
use Rattle.rx_eval.specs.Numbers.{AreNumbered}
use Rattle.rx_eval.proofs.NumberLemmas.{keeps_code, numbered_more}
use Rattle.rx_eval.proofs.listing.Listing.push.Goals as goal

pub invariant_of-self : goal.invariant_of-self
invariant_of-self c = keeps_code c.self.inside.names c.numbers_of.new.names c.numbers_of.ensures.keeps c.self.inside.instrs c.self.inside.numbers c.self.invariant

pub invariant_of-self-in_err-push : goal.invariant_of-self-in_err-push
invariant_of-self-in_err-push c =
    subst (AreNumbered c.numbers_of.new.names c.self.inside.instrs) (sym c.in_err-push.ensures.err)
    (keeps_code c.self.inside.names c.numbers_of.new.names c.numbers_of.ensures.keeps c.self.inside.instrs c.self.inside.numbers c.self.invariant)

pub invariant_of-self-else-is_err : goal.invariant_of-self-else-is_err
invariant_of-self-else-is_err c =
    let instrs = c.self.inside.instrs in
    let pushed : c.push-2.new.self ≡ instrs ++ c.args.instr ∷ [] = search rules in
    subst (λ code. AreNumbered c.numbers_of.new.names code c.push.new.self) (sym pushed)
    (subst (AreNumbered c.numbers_of.new.names (instrs ++ c.args.instr ∷ [])) (sym c.in_ok-push.ensures.ok)
    (numbered_more c.self.inside.names c.numbers_of.new.names instrs c.self.inside.numbers c.args.instr c.in_ok-own.own c.self.invariant c.numbers_of.ensures.keeps c.in_ok-own.ensures.are))
