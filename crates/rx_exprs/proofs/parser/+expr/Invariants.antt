use Rattle.std.proofs.Common.{◌≡◌, ◌+◌, ◌≤◌, [], ◌*◌, length}
use Rattle.rx_exprs.specs.Forms as spec
use Rattle.rx_exprs.proofs.parser.+expr.Given as goal

abbrev pub decreases-args : goal.decreases-args
decreases-args l = 64 * length l.tokens.now + 37

abbrev pub decreases-argument : goal.decreases-argument
decreases-argument l = 64 * length l.tokens.now + 36

abbrev pub decreases-chain : goal.decreases-chain
decreases-chain l = 64 * length l.tokens.now + (4 * l.n + 11)

abbrev pub decreases-terms : goal.decreases-terms
decreases-terms l = 64 * length l.tokens.now + (4 * l.n + 10)

abbrev pub decreases-operand : goal.decreases-operand
decreases-operand l = 64 * length l.tokens.now + (4 * l.n + 8)

abbrev pub decreases-prefixed : goal.decreases-prefixed
decreases-prefixed l = 64 * length l.tokens.now + 7

abbrev pub decreases-message_term : goal.decreases-message_term
decreases-message_term l = 64 * length l.tokens.now + 6

abbrev pub decreases-primary : goal.decreases-primary
decreases-primary l = 64 * length l.tokens.now + 5

abbrev pub decreases-messages : goal.decreases-messages
decreases-messages l = 64 * length l.tokens.now + 4

abbrev pub decreases-message : goal.decreases-message
decreases-message l = 64 * length l.tokens.now + 40

abbrev pub decreases-call : goal.decreases-call
decreases-call l = 64 * length l.tokens.now + 39

abbrev pub invariant-args-loop-found : goal.invariant-args-loop-found
invariant-args-loop-found l = (spec.args_form l.bracketed l.fn.tokens ≡ spec.listed_form l.bracketed l.found l.tokens) × (length l.tokens ≤ length l.fn.tokens)

abbrev pub decreases-args-loop-found : goal.decreases-args-loop-found
decreases-args-loop-found l = length l.tokens

abbrev pub invariant-messages-loop-opening : goal.invariant-messages-loop-opening
invariant-messages-loop-opening l = (spec.parts_form [] l.fn.tokens ≡ spec.parts_form l.found l.tokens) × (length l.tokens ≤ length l.fn.tokens)

abbrev pub decreases-messages-loop-opening : goal.decreases-messages-loop-opening
decreases-messages-loop-opening l = length l.tokens

abbrev pub invariant-terms-loop-oper : goal.invariant-terms-loop-oper
invariant-terms-loop-oper l = (spec.terms_form l.stops l.n [] l.fn.tokens ≡ spec.terms_form l.stops l.n l.found l.tokens) × (length l.tokens ≤ length l.fn.tokens)

abbrev pub decreases-terms-loop-oper : goal.decreases-terms-loop-oper
decreases-terms-loop-oper l = length l.tokens
