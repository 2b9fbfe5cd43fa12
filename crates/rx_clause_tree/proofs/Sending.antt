-- What holds a tree may be sent to another thread, and shared with it.
use denote.Param.Send.{IsSend, IsSync, EachSend, EachSync, sendable, enum_send, enum_sync, recorded_send, recorded_sync}
use Rattle.std.proofs.Common.{ℕ, zero, suc, List, [], ◌∷◌, take, drop}
use denote.RattleType.{RattleType}
use denote.Enum.Declared as declared
use Rattle.std.proofs.Crossing.{crosses}
use Rattle.sqlite_items.proofs.boxed.Boxed.TheSendSync as boxed
use Rattle.sqlite_items.proofs.items.Items.TheSendSync as items
use Rattle.std.proofs.option.Option.TheSendSync as option
use Rattle.rx_tree.proofs.text.Text.TheSendSync as text
use Rattle.rx_tree.proofs.token.Oper.TheSendSync as oper
use Rattle.rx_tree.proofs.name.Part.TheSendSync as part
use Rattle.rx_tree.proofs.name.Name.TheSendSync as name
use Rattle.rx_tree.proofs.value.Value.TheSendSync as value
use Rattle.rx_tree.proofs.activity.Condition.TheSendSync as condition
use Rattle.rx_tree.proofs.activity.TraceSetting.TheSendSync as trace
use Rattle.rx_tree.proofs.expr.Expr.TheLaws.TheKnot as tree
use Rattle.rx_tree.specs.contracts.expr.Expr as expr
use Rattle.rx_tree.specs.contracts.expr.SendPart as message
use Rattle.rx_tree.proofs.class.ClassDef.TheSendSync as class
use Rattle.rx_clause_tree.specs.contracts.loops.Bound as bound
use Rattle.rx_clause_tree.specs.contracts.loops.Header as header
use Rattle.rx_clause_tree.specs.contracts.loops.Test as test
use Rattle.rx_clause_tree.proofs.instruction.Trap.TheSendSync as trap
use Rattle.rx_clause_tree.specs.contracts.instruction.Routine as routine
use Rattle.rx_clause_tree.specs.contracts.instruction.Parameter as parameter
use Rattle.rx_clause_tree.specs.contracts.instruction.Forwarded as forwarded
use Rattle.rx_clause_tree.specs.contracts.instruction.Forward as forward
use Rattle.rx_clause_tree.proofs.template.Template.TheSendSync as template
use Rattle.rx_clause_tree.specs.contracts.template.ParseFrom as from
use Rattle.rx_clause_tree.specs.contracts.template.Parse as parse
use Rattle.rx_clause_tree.specs.contracts.simple.Simple as simple
use Rattle.rx_clause_tree.proofs.clause.ClauseKind.TheLaws.TheKnot as clauses
use Rattle.rx_clause_tree.specs.contracts.clause.Clause as clause
use Rattle.rx_clause_tree.specs.contracts.clause.Body as body
use Rattle.rx_clause_tree.specs.contracts.package.Package as program

-- what holds no tree
pub ruleset lists = (items.the_send, items.the_sync, boxed.the_send, boxed.the_sync, option.the_send, option.the_sync, crosses, sendable)

pub ruleset names = (text.the_send, text.the_sync, part.the_send, part.the_sync, part.the_field_send, part.the_field_sync, name.the_send, name.the_sync, name.the_field_send, name.the_field_sync, lists)

pub ruleset values = (oper.the_send, oper.the_sync, oper.the_field_send, oper.the_field_sync, value.the_send, value.the_sync, value.the_field_send, value.the_field_sync, names)

pub ruleset small = (condition.the_send, condition.the_sync, condition.the_field_send, condition.the_field_sync, trace.the_send, trace.the_sync, trace.the_field_send, trace.the_field_sync, values)

pub expr_field_send : IsSend ((expr.the_field).row)
expr_field_send = search (tree.crosses, small) depth 60 fits 20000

pub expr_field_sync : IsSync ((expr.the_field).row)
expr_field_sync = search (tree.crosses, small) depth 60 fits 20000

pub message_field_send : IsSend ((message.the_field).row)
message_field_send = search (tree.crosses, small) depth 60 fits 20000

pub message_field_sync : IsSync ((message.the_field).row)
message_field_sync = search (tree.crosses, small) depth 60 fits 20000

pub expr_send : IsSend (expr.the_row)
expr_send = recorded_send (expr.the_field).row _ _ (expr.the_type).to_one expr_field_send

pub expr_sync : IsSync (expr.the_row)
expr_sync = recorded_sync (expr.the_field).row _ _ (expr.the_type).to_one expr_field_sync

pub ruleset trees = (message_field_send, message_field_sync, expr_field_send, expr_field_sync, expr_send, expr_sync, small)

pub bound_send : IsSend ((bound.the_field).row)
bound_send = enum_send (declared.shape bound.the_type) (search trees depth 60 fits 20000)

pub bound_sync : IsSync ((bound.the_field).row)
bound_sync = enum_sync (declared.shape bound.the_type) (search trees depth 60 fits 20000)

pub test_send : IsSend ((test.the_field).row)
test_send = enum_send (declared.shape test.the_type) (search trees depth 60 fits 20000)

pub test_sync : IsSync ((test.the_field).row)
test_sync = enum_sync (declared.shape test.the_type) (search trees depth 60 fits 20000)

pub ruleset bounds = (bound_send, bound_sync, test_send, test_sync, trees)

pub header_send : IsSend ((header.the_field).row)
header_send = enum_send (declared.shape header.the_type) (search bounds depth 60 fits 20000)

pub header_sync : IsSync ((header.the_field).row)
header_sync = enum_sync (declared.shape header.the_type) (search bounds depth 60 fits 20000)

pub routine_send : IsSend (routine.the_row)
routine_send = search trees depth 60 fits 20000

pub routine_sync : IsSync (routine.the_row)
routine_sync = search trees depth 60 fits 20000

pub parameter_send : IsSend (parameter.the_row)
parameter_send = search trees depth 60 fits 20000

pub parameter_sync : IsSync (parameter.the_row)
parameter_sync = search trees depth 60 fits 20000

pub forwarded_send : IsSend ((forwarded.the_field).row)
forwarded_send = enum_send (declared.shape forwarded.the_type) (search trees depth 60 fits 20000)

pub forwarded_sync : IsSync ((forwarded.the_field).row)
forwarded_sync = enum_sync (declared.shape forwarded.the_type) (search trees depth 60 fits 20000)

pub ruleset forwards = (forwarded_send, forwarded_sync, trees)

pub forward_send : IsSend (forward.the_row)
forward_send = search forwards depth 60 fits 20000

pub forward_sync : IsSync (forward.the_row)
forward_sync = search forwards depth 60 fits 20000

pub ruleset templates = (template.the_send, template.the_sync, trap.the_send, trap.the_sync, trees)

pub from_send : IsSend ((from.the_field).row)
from_send = enum_send (declared.shape from.the_type) (search templates depth 60 fits 20000)

pub from_sync : IsSync ((from.the_field).row)
from_sync = enum_sync (declared.shape from.the_type) (search templates depth 60 fits 20000)

pub ruleset sources = (from_send, from_sync, templates)

pub parse_send : IsSend (parse.the_row)
parse_send = search sources depth 60 fits 20000

pub parse_sync : IsSync (parse.the_row)
parse_sync = search sources depth 60 fits 20000

pub ruleset parts = (header_send, header_sync, routine_send, routine_sync, parameter_send, parameter_sync, forward_send, forward_sync, parse_send, parse_sync, bounds, templates)

-- ---- clauses that hold no other clause: so many that they are searched for eight at a time

send_from : (n : ℕ) (variants : List (List RattleType)) → EachSend (take n variants) → EachSend (drop n variants) → EachSend variants
send_from zero variants front rest = rest
send_from (suc n) [] front rest = tt
send_from (suc n) (fields ∷ variants) front rest = (front.0, send_from n variants front.1 rest)

sync_from : (n : ℕ) (variants : List (List RattleType)) → EachSync (take n variants) → EachSync (drop n variants) → EachSync variants
sync_from zero variants front rest = rest
sync_from (suc n) [] front rest = tt
sync_from (suc n) (fields ∷ variants) front rest = (front.0, sync_from n variants front.1 rest)

abbrev kinds : List (List RattleType)
kinds = (declared.shape simple.the_type).variants

first_send : EachSend (take 8 kinds)
first_send = search parts depth 60 fits 20000

second_send : EachSend (take 8 (drop 8 kinds))
second_send = search parts depth 60 fits 20000

third_send : EachSend (take 8 (drop 8 (drop 8 kinds)))
third_send = search parts depth 60 fits 20000

last_send : EachSend (drop 8 (drop 8 (drop 8 kinds)))
last_send = search parts depth 60 fits 20000

pub simple_send : IsSend ((simple.the_field).row)
simple_send = enum_send (declared.shape simple.the_type)
    (send_from 8 kinds first_send (send_from 8 (drop 8 kinds) second_send (send_from 8 (drop 8 (drop 8 kinds)) third_send last_send)))

first_sync : EachSync (take 8 kinds)
first_sync = search parts depth 60 fits 20000

second_sync : EachSync (take 8 (drop 8 kinds))
second_sync = search parts depth 60 fits 20000

third_sync : EachSync (take 8 (drop 8 (drop 8 kinds)))
third_sync = search parts depth 60 fits 20000

last_sync : EachSync (drop 8 (drop 8 (drop 8 kinds)))
last_sync = search parts depth 60 fits 20000

pub simple_sync : IsSync ((simple.the_field).row)
simple_sync = enum_sync (declared.shape simple.the_type)
    (sync_from 8 kinds first_sync (sync_from 8 (drop 8 kinds) second_sync (sync_from 8 (drop 8 (drop 8 kinds)) third_sync last_sync)))

pub ruleset knots = (simple_send, simple_sync, clauses.crosses, parts)

pub clause_send : IsSend ((clause.the_field).row)
clause_send = search knots depth 60 fits 20000

pub clause_sync : IsSync ((clause.the_field).row)
clause_sync = search knots depth 60 fits 20000

pub ruleset whole = (clause_send, clause_sync, class.the_field_send, class.the_field_sync, class.the_send, class.the_sync, knots)

pub body_send : IsSend ((body.the_field).row)
body_send = search whole depth 60 fits 20000

pub body_sync : IsSync ((body.the_field).row)
body_sync = search whole depth 60 fits 20000

pub ruleset bodies = (body_send, body_sync, whole)

pub program_send : IsSend ((program.the_field).row)
program_send = search bodies depth 60 fits 20000

pub program_sync : IsSync ((program.the_field).row)
program_sync = search bodies depth 60 fits 20000

-- all of it
pub ruleset crossing = (program_send, program_sync, bodies)
