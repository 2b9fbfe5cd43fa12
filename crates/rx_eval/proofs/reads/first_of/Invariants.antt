use Rattle.std.proofs.Common.{◌≡◌, drop}
use Rattle.rx_eval.specs.Values.{read}
use Rattle.rx_eval.proofs.reads.first_of.Given as goal

abbrev pub invariant-loop-entry : goal.invariant-loop-entry
invariant-loop-entry l = read (drop l.entry-index l.entries) l.name ≡ read l.entries l.name
