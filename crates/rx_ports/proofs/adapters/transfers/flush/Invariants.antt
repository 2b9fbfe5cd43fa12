use Rattle.std.specs.Io.KnownBytes.{Keeps}
use Rattle.rx_ports.proofs.adapters.transfers.flush.Given as goal

-- a flush that was interrupted accepted nothing
abbrev pub invariant-loop : goal.invariant-loop
invariant-loop g l = Keeps (g.W.Write.contents l.initial.writer) (g.W.Write.contents l.writer)
