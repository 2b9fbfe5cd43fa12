-- The reader of what DO and LOOP begin with, and of LEAVE and ITERATE.
use Rattle.std.specs.Prelude.{ℕ, zero, suc, ◌+◌, if◌then◌else◌, List, [], ◌∷◌, ◌++◌, length, Option, Some, None, Ok, Err, codes}
use Rattle.rx_tree.specs.declared.name.Name.{Name}
use Rattle.rx_tree.specs.declared.token.Token.{Token}
use Rattle.rx_tree.specs.declared.expr.Expr.{Expr}
use Rattle.rx_tree.specs.declared.stops.Stops.TheVariants as s
use Rattle.rx_tree.specs.Operators.{Tokens}
use Rattle.rx_exprs.specs.Reader.{Outcome, and_then, on_some, lack, refusal, no_turns, expression}
use Rattle.rx_clause_tree.specs.declared.loops.Bound.{Bound}
use Rattle.rx_clause_tree.specs.declared.loops.Bound.TheVariants as b
use Rattle.rx_clause_tree.specs.declared.loops.Header.{Header}
use Rattle.rx_clause_tree.specs.declared.loops.Header.TheVariants as h
use Rattle.rx_clause_tree.specs.declared.loops.Test.{Test}
use Rattle.rx_clause_tree.specs.declared.loops.Test.TheVariants as w
use Rattle.rx_clause_tree.specs.declared.simple.Simple.{Simple}
use Rattle.rx_clause_tree.specs.ClauseWords.{variable_of, behind_end, is_equal}
use Rattle.rx_clause_tree.specs.Loops.{Loops, is_bounded, begins_control, begins_test, are_around}
use Rattle.rx_clauses.specs.Parts.{variable_at, behind_symbol, to_end}

-- ---- bounds

abbrev pub bounding : (Expr → Bound) → Tokens → Outcome (Option Bound)
bounding make tokens = and_then (expression s.Loop tokens) (λ expr rest. Ok (Some (make expr), rest))

-- a bound, or none
abbrev pub bound_at : Tokens → Outcome (Option Bound)
bound_at tokens =
    on_some (behind_symbol (codes "TO") tokens)
    (on_some (behind_symbol (codes "BY") tokens)
    (on_some (behind_symbol (codes "FOR") tokens) (Ok (None, tokens))
    (λ behind. bounding b.For behind)) (λ behind. bounding b.By behind)) (λ behind. bounding b.To behind)

abbrev pub further_bounds : (List Bound → Tokens → Outcome (List Bound)) → List Bound → Option Bound → Tokens → Tokens → Outcome (List Bound)
further_bounds further read None here behind = Ok (read, behind)
further_bounds further read (Some one) here behind = if is_bounded one read then Err (lack 27 here) else further (read ++ one ∷ []) behind

-- the bounds behind those that were read already
abbrev pub bounds : ℕ → List Bound → Tokens → Outcome (List Bound)
bounds zero read tokens = no_turns
bounds (suc more) read tokens = and_then (bound_at tokens) (λ one behind. further_bounds (λ list ts. bounds more list ts) read one tokens behind)

-- ---- headers

abbrev pub counts : Name → Tokens → Outcome Header
counts name tokens =
    and_then (expression s.Loop tokens) (λ first behind.
    and_then (bounds (length behind + 1) [] behind) (λ list rest. Ok (h.Counts name first list, rest)))

abbrev pub over : Name → Tokens → Outcome Header
over name tokens = and_then (expression s.Loop tokens) (λ expr rest. Ok (h.Over name expr, rest))

abbrev pub controlled_by : Option Name → Token → Tokens → Outcome Header
controlled_by None u behind = Err (lack 27 (u ∷ behind))
controlled_by (Some name) u behind = if is_equal u.kind then counts name behind else over name behind

abbrev pub controlled : Tokens → Outcome Header
controlled [] = Err (lack 27 [])
controlled (t ∷ []) = Err (lack 27 (t ∷ []))
controlled (t ∷ (u ∷ behind)) = controlled_by (variable_of t.kind) u behind

abbrev pub times : Tokens → Outcome Header
times tokens = and_then (expression s.Loop tokens) (λ expr rest. Ok (h.Times expr, rest))

abbrev pub header : Tokens → Outcome Header
header tokens =
    if begins_control tokens then controlled tokens
    else on_some (behind_symbol (codes "FOREVER") tokens) (if begins_test tokens then Ok (h.Forever, tokens) else times tokens) (λ behind. Ok (h.Forever, behind))

-- ---- tests

abbrev pub tested : (Expr → Test) → Tokens → Outcome Test
tested make tokens =
    and_then (expression s.Loop tokens) (λ expr behind.
    on_some (behind_end behind) (Err (refusal 27 behind)) (λ rest. Ok (make expr, rest)))

abbrev pub test : Tokens → Outcome Test
test tokens =
    on_some (behind_end tokens)
    (on_some (behind_symbol (codes "WHILE") tokens)
    (on_some (behind_symbol (codes "UNTIL") tokens) (Err (refusal 27 tokens))
    (λ behind. tested w.Until behind)) (λ behind. tested w.While behind)) (λ rest. Ok (w.Never, rest))

-- ---- LEAVE and ITERATE

abbrev pub loop_name : Tokens → Outcome (Option Name)
loop_name tokens = on_some (behind_end tokens) (and_then (variable_at tokens) (λ name behind. to_end (Some name) behind)) (λ rest. Ok (None, rest))

-- the loop that is meant, which must be around the clause
abbrev pub meant : Loops → Tokens → Outcome (Option Name)
meant loops tokens = and_then (loop_name tokens) (λ name rest. if are_around name loops then Ok (name, rest) else Err (lack 28 tokens))

abbrev pub looping : Loops → (Option Name → Simple) → Tokens → Outcome Simple
looping loops make tokens =
    and_then (loop_name tokens) (λ name rest. if are_around name loops then Ok (make name, rest) else Err (lack 28 tokens))
