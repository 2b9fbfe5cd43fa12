use Rattle.std.proofs.Common.{◌≡◌, ◌++◌, ◌-◌}
use Rattle.rx_convfn.specs.Conversions.{bytes_from}
use Rattle.rx_convfn.proofs.bytes.bytes_from.Given as goal

-- the bytes so far, and those that are left
abbrev pub invariant-loop : goal.invariant-loop
invariant-loop l = l.bytes.items ++ bytes_from l.next (l.count - l.counter) ≡ bytes_from l.first l.count
