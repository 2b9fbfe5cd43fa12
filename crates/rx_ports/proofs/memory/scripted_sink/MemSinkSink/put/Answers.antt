use Rattle.std.proofs.Common.{rules, take, drop, sym}
use Rattle.std.proofs.lemmas.List.{take-append-drop}
use Rattle.rx_ports.proofs.memory.scripted_sink.MemSinkSink.put.Goals as goal

-- the bytes that a failing call keeps, and those that it doesn't
pub returns-then-fails-2-clause-bytes : goal.returns-then-fails-2-clause-bytes
returns-then-fails-2-clause-bytes c =
    (take c.if-fails.count c.args.bytes.now, drop c.if-fails.count c.args.bytes.now, sym (take-append-drop _ _), search rules)
