use Rattle.std.proofs.Common.{append_assoc}
use Rattle.rx_top.proofs.waits.push_wait.Goals as goal

pub returns : goal.returns
returns c =
    rw (
      c.in_ok-push.ensures.items,
      c.in_ok-push_cause.ensures,
      c.in_ok-extend_from_slice-2.ensures.items,
      c.in_ok-push_number.ensures,
      c.from.ensures,
      c.in_ok-extend_from_slice.ensures.items,
    ) (simp append_assoc)
