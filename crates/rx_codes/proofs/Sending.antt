-- What holds a program may be sent to another thread, and shared with it.
use denote.Param.Send.{IsSend, IsSync}
use Rattle.std.proofs.sync.Arc.TheSendSync as arc
use Rattle.rx_tree.proofs.shared.Shared.TheSendSync as shared
use Rattle.rx_vars.proofs.table.Table.TheSendSync as table
use Rattle.rx_clause_tree.proofs.Sending.{bodies}
use Rattle.rx_flow.proofs.code.Op.TheSendSync as op
use Rattle.rx_flow.specs.contracts.code.Code as code
use Rattle.rx_flow.specs.contracts.flat.Flat as flat
use Rattle.rx_eval.proofs.facts.Body.TheSendSync as fixed
use Rattle.rx_eval.proofs.postfix.Postfix.TheSendSync as postfix
use Rattle.rx_codes.specs.contracts.coded.Coded as coded
use Rattle.rx_codes.specs.contracts.package.CodedPackage as coded_package
use Rattle.rx_codes.specs.contracts.program.Program as program

pub ruleset tables = (arc.the_send, arc.the_sync, table.the_send, table.the_sync, op.the_send, op.the_sync, op.the_field_send, op.the_field_sync, bodies)

pub code_send : IsSend ((code.the_field).row)
code_send = search tables depth 60 fits 20000

pub code_sync : IsSync ((code.the_field).row)
code_sync = search tables depth 60 fits 20000

pub ruleset codes = (code_send, code_sync, tables)

pub flat_send : IsSend ((flat.the_field).row)
flat_send = search codes depth 60 fits 20000

pub flat_sync : IsSync ((flat.the_field).row)
flat_sync = search codes depth 60 fits 20000

pub ruleset flats = (flat_send, flat_sync, fixed.the_send, fixed.the_sync, postfix.the_send, postfix.the_sync, codes)

pub coded_send : IsSend ((coded.the_field).row)
coded_send = search flats depth 60 fits 20000

pub coded_sync : IsSync ((coded.the_field).row)
coded_sync = search flats depth 60 fits 20000

pub ruleset whole = (coded_send, coded_sync, shared.the_send, shared.the_sync, flats)

pub package_send : IsSend ((coded_package.the_field).row)
package_send = search whole depth 60 fits 20000

pub package_sync : IsSync ((coded_package.the_field).row)
package_sync = search whole depth 60 fits 20000

pub ruleset owners = (package_send, package_sync, whole)

pub program_send : IsSend ((program.the_field).row)
program_send = search owners depth 60 fits 20000

pub program_sync : IsSync ((program.the_field).row)
program_sync = search owners depth 60 fits 20000
