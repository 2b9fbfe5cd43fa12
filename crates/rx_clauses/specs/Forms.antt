-- The parts of a body, each with turns enough, so that functions can be compared with them.
use Rattle.std.specs.Prelude.{ℕ, zero, suc, ◌+◌, Bool, true, false, if◌then◌else◌, List, [], ◌∷◌, length, Option, Some, None, Ok, Err}
use Rattle.rx_tree.specs.declared.name.Name.{Name}
use Rattle.rx_tree.specs.declared.stops.Stops.TheVariants as s
use Rattle.rx_tree.specs.Operators.{Tokens}
use Rattle.rx_exprs.specs.Reader.{Outcome, and_then, on_some, lack, refusal, expression}
use Rattle.rx_clause_tree.specs.declared.instruction.Forward.{Forward}
use Rattle.rx_clause_tree.specs.declared.loops.Bound.{Bound}
use Rattle.rx_clause_tree.specs.declared.template.TemplatePart.{TemplatePart}
use Rattle.rx_clause_tree.specs.declared.clause.Clause.{Clause}
use Rattle.rx_clause_tree.specs.declared.clause.ClauseKind.{ClauseKind}
use Rattle.rx_clause_tree.specs.declared.clause.When.{When}
use Rattle.rx_clause_tree.specs.ClauseWords.{variable_of, behind_end}
use Rattle.rx_clause_tree.specs.Loops.{Loops, is_name, behind_block}
use Rattle.rx_clause_tree.specs.Clauses.{behind_then, when}
use Rattle.rx_clause_tree.specs.declared.clause.Before.{Before}
use Rattle.rx_clauses.specs.declared.keyword.Keyword.{Keyword}
use Rattle.rx_clauses.specs.declared.keyword.Keyword.TheVariants as w
use Rattle.rx_clauses.specs.Parts.{separated}
use Rattle.rx_clauses.specs.Looping.{bounds}
use Rattle.rx_clauses.specs.Forwarding.{options}
use Rattle.rx_clauses.specs.Parsing.{parts}
use Rattle.rx_clauses.specs.Reader.{turns, read, instruction, choice, else_clause, select, whens, otherwise, group, loop, clauses, behind, unended, body_clauses}

-- ---- lists in clauses

unfoldable pub separated_form : {A : Type 0} → ℕ → (Tokens → Outcome A) → Tokens → Outcome (List A)
separated_form number item tokens = separated number item (length tokens + 1) tokens

unfoldable pub bounds_form : List Bound → Tokens → Outcome (List Bound)
bounds_form read tokens = bounds (length tokens + 1) read tokens

unfoldable pub options_form : Forward → Tokens → Outcome Forward
options_form read tokens = options (length tokens + 1) read tokens

unfoldable pub parts_form : Tokens → Outcome (List TemplatePart)
parts_form tokens = parts (length tokens + 1) tokens

-- ---- clauses and blocks

unfoldable pub clause_form : Loops → ℕ → Tokens → Outcome Clause
clause_form loops room tokens = read (turns tokens) loops room tokens

-- an instruction, from its word on
unfoldable pub instruction_form : Loops → ℕ → Keyword → Tokens → Outcome ClauseKind
instruction_form loops room keyword tokens = instruction (turns tokens) loops room keyword tokens (behind tokens)

unfoldable pub choice_form : Loops → ℕ → Tokens → Outcome ClauseKind
choice_form loops room tokens = choice (turns tokens) loops room tokens

unfoldable pub else_form : Loops → ℕ → Tokens → Outcome (Option Clause)
else_form loops room tokens = else_clause (turns tokens) loops room tokens

unfoldable pub select_form : Loops → ℕ → Tokens → Outcome ClauseKind
select_form loops room tokens = select (turns tokens) loops room tokens

unfoldable pub whens_form : Loops → ℕ → Tokens → Outcome (List When)
whens_form loops room tokens = whens (turns tokens) loops room tokens

unfoldable pub otherwise_form : Loops → ℕ → Tokens → Outcome (Option (List Clause))
otherwise_form loops room tokens = otherwise (turns tokens) loops room tokens

unfoldable pub group_form : Loops → ℕ → Tokens → Outcome ClauseKind
group_form loops room tokens = group (turns tokens) loops room tokens

unfoldable pub loop_form : Loops → ℕ → Tokens → Outcome ClauseKind
loop_form loops room tokens = loop (turns tokens) loops room tokens

unfoldable pub clauses_form : Loops → ℕ → Tokens → Outcome (List Clause)
clauses_form loops room tokens = clauses (turns tokens) loops room tokens

-- a WHEN behind its word
abbrev pub when_form : Loops → ℕ → Tokens → Outcome When
when_form loops room tokens =
    and_then (expression s.Then tokens) (λ test others.
    on_some (behind_then others) (Err (refusal 18 others)) (λ inside.
    and_then (clause_form loops room inside) (λ chosen rest. Ok (when test chosen, rest))))

-- the end of a block
abbrev pub block_end : ℕ → Option Name → Tokens → Outcome (Unit {0})
block_end number control tokens = on_some (behind_block control tokens) (Err (lack (unended number tokens) tokens)) (λ rest. Ok (tt, rest))

-- whether an instruction is a block
abbrev pub is_block : Keyword → Bool
is_block w.If = true
is_block w.Select = true
is_block w.Do = true
is_block w.Loop = true
is_block _ = false

-- a block behind its word
abbrev pub block_form : Loops → ℕ → Keyword → Tokens → Outcome ClauseKind
block_form loops room w.If tokens = choice_form loops room tokens
block_form loops room w.Select tokens = select_form loops room tokens
block_form loops room w.Do tokens = on_some (behind_end tokens) (loop_form loops room tokens) (λ inside. group_form loops room inside)
block_form loops room _ tokens = loop_form loops room tokens

-- the loops around a loop
abbrev pub without_last : Loops → Loops
without_last [] = []
without_last (loop ∷ []) = []
without_last (loop ∷ (next ∷ loops)) = loop ∷ without_last (next ∷ loops)

-- what stands behind the variable that a loop runs by
abbrev pub behind_variable : Option Name → Tokens → Option Tokens
behind_variable None tokens = None
behind_variable (Some name) [] = None
behind_variable (Some name) (t ∷ rest) = if is_name name (variable_of t.kind) then Some rest else None

-- ---- bodies

unfoldable pub body_form : Before → Tokens → Outcome (List Clause)
body_form before tokens = body_clauses (length tokens + 1) before tokens
