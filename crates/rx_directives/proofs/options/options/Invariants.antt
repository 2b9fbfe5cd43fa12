use Rattle.std.proofs.Common.{◌≡◌, length}
use Rattle.rx_directives.specs.DirectiveWords.{no_options}
use Rattle.rx_directives.specs.Reader as spec
use Rattle.rx_directives.proofs.options.options.Given as goal

abbrev pub invariant-loop-tokens : goal.invariant-loop-tokens
invariant-loop-tokens l = spec.options no_options l.fn.tokens ≡ spec.options l.read l.tokens

abbrev pub decreases-loop-tokens : goal.decreases-loop-tokens
decreases-loop-tokens l = length l.tokens
