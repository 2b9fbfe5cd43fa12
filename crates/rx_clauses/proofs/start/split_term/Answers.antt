use Rattle.std.proofs.Common.{Some, sym, ◌∙◌, ap}
use Rattle.rx_clauses.proofs.Terms.{sends_assigned, sends_unassigned}
use Rattle.rx_clauses.proofs.start.split_term.Goals as goal

pub returns-then-not-is_assigned : goal.returns-then-not-is_assigned
returns-then-not-is_assigned c = λ rest.
    sends_unassigned c.args.term c.in-Sends.receiver c.in-Sends.parts c.pop.new.self c.in_ok-last.last rest c.in-Sends.is c.in_ok-last.ensures
    (sym c.is_assigned.ensures ∙ c.if-not-is_assigned.true)

pub returns : goal.returns
returns c = λ rest.
    sends_assigned c.args.term c.in-Sends.receiver c.in-Sends.parts c.pop.new.self c.in_ok-last.last rest c.in-Sends.is c.in_ok-last.ensures
    (sym c.is_assigned.ensures ∙ c.if-not-is_assigned.false)
    ∙ ap (λ receiver. Some ((receiver, c.in_ok-last.last), rest)) (sym c.with_messages.ensures)
