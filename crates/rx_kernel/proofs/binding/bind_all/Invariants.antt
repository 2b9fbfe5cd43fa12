use Rattle.std.proofs.Common.{◌≡◌, drop}
use Rattle.rx_names.specs.Homes.{variables_at}
use Rattle.rx_kernel.specs.Parsing.{behind, bounds_of}
use Rattle.rx_kernel.proofs.binding.bind_all.Given as goal

abbrev pub invariant-loop-template : goal.invariant-loop-template
invariant-loop-template l =
    bounds_of (variables_at l.stacks l.a) l.pools l.templates
    ≡ behind l.bounds (bounds_of (variables_at l.stacks l.a) l.pools (drop l.template-index l.templates))
