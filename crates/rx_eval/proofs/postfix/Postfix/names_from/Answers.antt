use Rattle.std.proofs.Common.{◌≡◌, true, [], drop, ap, sym, ◌∙◌, rules}
use Rattle.rx_eval.specs.Names.{names_in}
use Rattle.rx_eval.specs.Places.{fits}
use Rattle.rx_eval.proofs.NameLemmas.{names_at}
use Rattle.rx_eval.proofs.postfix.Postfix.names_from.Goals as goal

pub returns : goal.returns
returns c = λ values h.
    let whole : fits c.args.self.now.body c.args.self.now.instrs [] ≡ true = search rules in
    let is : c.self.inside.code ≡ c.args.self.now.instrs = ap (λ code. code.instrs) c.self.view_is in
    c.in_ok-names.ensures ∙ ap (λ code. names_in (drop c.args.place code)) is
    ∙ sym (names_at c.args.self.now.body c.args.self.now.instrs c.args.place values whole h)
