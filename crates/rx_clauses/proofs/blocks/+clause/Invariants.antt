use Rattle.std.proofs.Common.{◌≡◌, ◌+◌, ◌*◌, ◌≤◌, length}
use Rattle.rx_clauses.specs.Forms.{whens_form, clauses_form}
use Rattle.rx_clauses.proofs.Lists.{prepended}
use Rattle.rx_clauses.proofs.blocks.+clause.Given as goal

abbrev pub decreases-clause : goal.decreases-clause
decreases-clause l = 16 * length l.tokens.now + 17

abbrev pub decreases-instruction : goal.decreases-instruction
decreases-instruction l = 16 * length l.tokens.now + 16

abbrev pub decreases-block : goal.decreases-block
decreases-block l = 16 * length l.tokens.now + 15

abbrev pub decreases-choice : goal.decreases-choice
decreases-choice l = 16 * length l.tokens.now + 14

abbrev pub decreases-else_clause : goal.decreases-else_clause
decreases-else_clause l = 16 * length l.tokens.now + 2

abbrev pub decreases-select : goal.decreases-select
decreases-select l = 16 * length l.tokens.now + 14

abbrev pub decreases-whens : goal.decreases-whens
decreases-whens l = 16 * length l.tokens.now + 12

abbrev pub decreases-when : goal.decreases-when
decreases-when l = 16 * length l.tokens.now + 11

abbrev pub decreases-otherwise : goal.decreases-otherwise
decreases-otherwise l = 16 * length l.tokens.now + 3

abbrev pub decreases-group : goal.decreases-group
decreases-group l = 16 * length l.tokens.now + 19

abbrev pub decreases-repetition : goal.decreases-repetition
decreases-repetition l = 16 * length l.tokens.now + 14

abbrev pub decreases-clauses : goal.decreases-clauses
decreases-clauses l = 16 * length l.tokens.now + 18

abbrev pub invariant-whens-loop-alloc : goal.invariant-whens-loop-alloc
invariant-whens-loop-alloc l =
    (whens_form l.fn.loops l.room l.fn.tokens ≡ prepended l.found (whens_form l.fn.loops l.room l.tokens)) × (l.loops ≡ l.fn.loops) × (length l.tokens ≤ length l.fn.tokens)

abbrev pub decreases-whens-loop-alloc : goal.decreases-whens-loop-alloc
decreases-whens-loop-alloc l = length l.tokens

abbrev pub invariant-clauses-loop-alloc : goal.invariant-clauses-loop-alloc
invariant-clauses-loop-alloc l =
    (clauses_form l.fn.loops l.room l.fn.tokens ≡ prepended l.found (clauses_form l.fn.loops l.room l.tokens)) × (l.loops ≡ l.fn.loops) × (length l.tokens ≤ length l.fn.tokens)

abbrev pub decreases-clauses-loop-alloc : goal.decreases-clauses-loop-alloc
decreases-clauses-loop-alloc l = length l.tokens
