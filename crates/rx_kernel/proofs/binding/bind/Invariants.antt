use Rattle.std.proofs.Common.{◌≡◌, ◌++◌, drop, length}
use Rattle.rx_names.specs.Homes.{variables_at}
use Rattle.rx_machine.specs.Templates.{bound_from, targets}
use Rattle.rx_kernel.specs.Parsing.{behind}
use Rattle.rx_kernel.proofs.binding.bind.Given as goal

abbrev pub invariant-loop-part : goal.invariant-loop-part
invariant-loop-part l = record {
  targets : targets l.part-items ≡ l.targets ++ targets (drop l.part-index l.part-items);
  parts :
      bound_from (variables_at l.stacks l.a) l.pools 0 l.part-items
      ≡ behind l.parts (bound_from (variables_at l.stacks l.a) l.pools (length l.targets) (drop l.part-index l.part-items));
}
