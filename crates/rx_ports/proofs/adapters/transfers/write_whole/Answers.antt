use Rattle.std.proofs.Common.{rules}
use Rattle.std.proofs.KnownBytes.{Appends-kept}
use Rattle.rx_ports.proofs.Transfers.{Appends-next, Appends-none, AppendsPrefix-take}
use Rattle.rx_ports.proofs.adapters.transfers.write_whole.Goals as goal

-- the bytes before `at` were appended, and the last write took none
pub returns-in-Ok-eq0 : goal.returns-in-Ok-eq0
returns-in-Ok-eq0 g c =
    let last = rw c.in-Ok-eq0.field-0-test at c.in-Ok-eq0.ensures.bytes in
    AppendsPrefix-take _ _ c.args.bytes.now c.loop-at.at (Appends-none _ _ _ _ c.loop-at.invariant.1 last)

pub loop-at-preserved : goal.loop-at-preserved
loop-at-preserved g c =
    (search rules, Appends-next _ _ _ _ c.loop-at.at c.in-Ok.count c.loop-at.invariant.1 c.in-Ok.ensures.bytes)

pub returns-then-is_out_of_memory : goal.returns-then-is_out_of_memory
returns-then-is_out_of_memory g c =
    AppendsPrefix-take _ _ c.args.bytes.now c.loop-at.at (Appends-kept _ _ _ _ c.loop-at.invariant.1 c.in-Err.ensures.bytes)

pub returns-else-is_out_of_memory : goal.returns-else-is_out_of_memory
returns-else-is_out_of_memory g c =
    AppendsPrefix-take _ _ c.args.bytes.now c.loop-at.at (Appends-kept _ _ _ _ c.loop-at.invariant.1 c.in-Err.ensures.bytes)
