use Rattle.std.proofs.Common.{◌≤◌, vec_len}
use Rattle.std.specs.Io.KnownBytes.{Consumes}
use Rattle.rx_ports.proofs.adapters.transfers.read_front.Given as goal

-- what was read is the front of what was left, and no more than is wanted
abbrev pub invariant-loop : goal.invariant-loop
invariant-loop g l =
    (vec_len l.front ≤ l.most) × Consumes (g.R.Read.remaining l.initial.reader) (g.R.Read.remaining l.reader) l.front.items
