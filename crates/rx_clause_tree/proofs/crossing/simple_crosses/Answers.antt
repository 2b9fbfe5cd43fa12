use denote.Param.Send.{sendable}
use Rattle.rx_clause_tree.proofs.Sending.{simple_send, simple_sync}
use Rattle.rx_clause_tree.proofs.crossing.simple_crosses.Goals as goal

pub crosses_threads-requires-send-T : goal.crosses_threads-requires-send-T
crosses_threads-requires-send-T c κs = search (simple_send, sendable)

pub crosses_threads-requires-sync-T : goal.crosses_threads-requires-sync-T
crosses_threads-requires-sync-T c κs = search (simple_sync, sendable)
