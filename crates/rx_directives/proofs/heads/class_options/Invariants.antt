use Rattle.std.proofs.Common.{◌≡◌, length}
use Rattle.rx_directives.specs.Directives.{new_head}
use Rattle.rx_directives.specs.Reader as spec
use Rattle.rx_directives.proofs.heads.class_options.Given as goal

abbrev pub invariant-loop-alloc : goal.invariant-loop-alloc
invariant-loop-alloc l = spec.class_options_form (new_head l.fn.name) l.fn.tokens ≡ spec.class_options_form l.read l.tokens

abbrev pub decreases-loop-alloc : goal.decreases-loop-alloc
decreases-loop-alloc l = length l.tokens
