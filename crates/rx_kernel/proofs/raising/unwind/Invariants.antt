use Rattle.std.proofs.Common.{◌≡◌, length}
use Rattle.rx_frames.specs.Activities.{IsBegun, frames_at, with_change_at}
use Rattle.rx_kernel.specs.Unwinding.{ended, unwound}
use Rattle.rx_kernel.proofs.raising.unwind.Given as goal

abbrev pub invariant-loop-frame : goal.invariant-loop-frame
invariant-loop-frame l = record {
  begun : IsBegun l.stacks l.a;
  objects : unwound l.initial.heap (frames_at l.initial.stacks l.a) l.number ≡ unwound l.heap (frames_at l.stacks l.a) l.number;
  activities : with_change_at l.stacks l.a ended ≡ with_change_at l.initial.stacks l.a ended;
}

abbrev pub decreases-loop-frame : goal.decreases-loop-frame
decreases-loop-frame l = length (frames_at l.stacks l.a)
