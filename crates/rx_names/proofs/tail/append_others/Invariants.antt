use Rattle.std.proofs.Common.{◌≡◌, ◌≤◌, ◌++◌, length, take}
use Rattle.std.specs.List.{flat_map}
use Rattle.rx_names.specs.Homes.{variables_at}
use Rattle.rx_names.specs.Deriving.{next_text}
use Rattle.rx_names.proofs.tail.append_others.Given as goal

abbrev pub invariant-loop-part : goal.invariant-loop-part
invariant-loop-part l = record {
  short : length l.bytes.items ≤ l.most;
  made : l.bytes.items ≡ l.initial.bytes.items ++ flat_map (next_text (variables_at l.stacks l.a) l.pools) (take l.part-index l.parts);
}
