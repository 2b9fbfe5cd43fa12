use Rattle.std.proofs.Common.{sym}
use Rattle.rx_clauses.proofs.Terms.{message_sends, message_none}
use Rattle.rx_clauses.proofs.assignments.is_message_term.Goals as goal

pub returns-in-Sends : goal.returns-in-Sends
returns-in-Sends c = sym (message_sends c.args.expr.now c.in-Sends.field-0 c.in-Sends.field-1 c.in-Sends.is)

pub returns-in_default : goal.returns-in_default
returns-in_default c = sym (message_none c.args.expr.now c.in_default.not-Sends)
