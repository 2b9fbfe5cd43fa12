use Rattle.std.proofs.Common.{◌≡◌, take}
use Rattle.rx_eval.specs.Names.{derived_names}
use Rattle.rx_kernel.specs.Noted.{value_for, valued}
use Rattle.rx_kernel.proofs.evaluating.note_names.Given as goal

abbrev pub invariant-loop-name : goal.invariant-loop-name
invariant-loop-name l = l.noted ≡ valued (value_for l.parts l.a) (derived_names (value_for l.parts l.a) (take l.name-index l.names))
