use Rattle.std.proofs.Common.{◌≡◌, ◌++◌}
use Rattle.std.specs.Map.{values_of}
use Rattle.rx_heap.specs.Directories.{names_of}
use Rattle.rx_heap.proofs.directory.Directory.names.Given as goal

abbrev pub invariant-loop-entry : goal.invariant-loop-entry
invariant-loop-entry l = l.names ++ names_of (values_of l.entry-iterator) ≡ names_of l.self
