use Rattle.std.proofs.Common.{◌≡◌, ◌≤◌, ◌-◌, length, drop}
use Rattle.rx_frames.specs.Activities.{frames_at}
use Rattle.rx_names.specs.Homes.{home, variables_of}
use Rattle.rx_names.proofs.HomeLemmas.{lowered}
use Rattle.rx_names.proofs.home.home_of.Given as goal

abbrev pub invariant-loop-down : goal.invariant-loop-down
invariant-loop-down l = record {
  within : l.down ≤ l.height;
  walked : home (variables_of (frames_at l.stacks l.a)) l.name ≡ lowered l.down (home (variables_of (drop l.down (frames_at l.stacks l.a))) l.name);
}

abbrev pub decreases-loop-down : goal.decreases-loop-down
decreases-loop-down l = l.height - l.down
