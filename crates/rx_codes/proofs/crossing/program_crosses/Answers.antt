use denote.Param.Send.{sendable}
use Rattle.rx_codes.proofs.Sending.{program_send, program_sync}
use Rattle.rx_codes.proofs.crossing.program_crosses.Goals as goal

pub crosses_threads-requires-send-T : goal.crosses_threads-requires-send-T
crosses_threads-requires-send-T c κs = search (program_send, sendable)

pub crosses_threads-requires-sync-T : goal.crosses_threads-requires-sync-T
crosses_threads-requires-sync-T c κs = search (program_sync, sendable)
