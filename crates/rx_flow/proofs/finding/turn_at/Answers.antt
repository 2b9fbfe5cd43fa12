use Rattle.std.proofs.Common.{sym, ◌∙◌, arith}
use Rattle.rx_flow.proofs.FindLemmas.{turn_nowhere, turn_there, turn_room}
use Rattle.rx_flow.proofs.finding.turn_at.Goals as goal

pub overflow_add-result : goal.overflow_add-result
overflow_add-result c = omega (arith, turn_room c.args.code.now.ops c.args.place c.in-Some.op (sym c.turn_op.ensures ∙ c.in-Some.is), c.requires.few)

pub returns-in-None-clause-none : goal.returns-in-None-clause-none
returns-in-None-clause-none c = turn_nowhere _ _ _ c.requires.stands (sym c.turn_op.ensures ∙ c.in-None.is)

pub returns-in-Some-clause-turn : goal.returns-in-Some-clause-turn
returns-in-Some-clause-turn c = turn_there _ _ _ c.in-Some.op c.requires.stands (sym c.turn_op.ensures ∙ c.in-Some.is)
