-- The reader of clauses and bodies, which refuses with the number of an error.
use Rattle.std.specs.Prelude.{ℕ, zero, suc, ◌+◌, ◌*◌, Bool, true, false, if◌then◌else◌, List, [], ◌∷◌, ◌++◌, length, Option, Some, None, Ok, Err, codes}
use Rattle.rx_tree.specs.declared.name.Name.{Name}
use Rattle.rx_tree.specs.declared.expr.Expr.{Expr}
use Rattle.rx_tree.specs.declared.stops.Stops.TheVariants as s
use Rattle.rx_tree.specs.Operators.{Tokens}
use Rattle.rx_exprs.specs.Reader.{Outcome, and_then, on_some, lack, refusal, no_turns, expression}
use Rattle.rx_clause_tree.specs.declared.simple.Simple.{Simple}
use Rattle.rx_clause_tree.specs.declared.simple.Simple.TheVariants as c
use Rattle.rx_clause_tree.specs.declared.template.Parse.{Parse}
use Rattle.rx_clause_tree.specs.declared.template.ParseFrom.TheVariants as f
use Rattle.rx_clause_tree.specs.declared.clause.Clause.{Clause}
use Rattle.rx_clause_tree.specs.declared.clause.Body.{Body}
use Rattle.rx_clause_tree.specs.declared.clause.ClauseKind.{ClauseKind}
use Rattle.rx_clause_tree.specs.declared.clause.ClauseKind.TheVariants as x
use Rattle.rx_clause_tree.specs.declared.clause.When.{When}
use Rattle.rx_clause_tree.specs.ClauseWords.{symbol_of, begins_word, behind_end, skip, behind_word, begins_assignment, begins_label}
use Rattle.rx_clause_tree.specs.Loops.{Loops, control_of, behind_block}
use Rattle.rx_clause_tree.specs.Clauses.{behind_then, clause, when}
use Rattle.rx_clause_tree.specs.declared.clause.Before.{Before}
use Rattle.rx_clause_tree.specs.declared.clause.Before.TheVariants.{Nothing, Labels, Clauses}
use Rattle.rx_clause_tree.specs.Bodies.{ends_body, most_blocks}
use Rattle.rx_clauses.specs.declared.keyword.Keyword.{Keyword}
use Rattle.rx_clauses.specs.declared.keyword.Keyword.TheVariants as w
use Rattle.rx_clauses.specs.declared.keyword.Word.{Word}
use Rattle.rx_clauses.specs.declared.keyword.Word.TheVariants as o
use Rattle.rx_clauses.specs.declared.start.Start.{Start}
use Rattle.rx_clauses.specs.declared.start.Start.TheVariants as b
use Rattle.rx_clauses.specs.Keywords.{keyword_of}
use Rattle.rx_clauses.specs.Parts.{behind_symbol, to_end, given, some_names}
use Rattle.rx_clauses.specs.Starts.{Assigned, assignment, assigned_at, send_assign, message}
use Rattle.rx_clauses.specs.Plain.{call, signal, drop_names, use_, digits, guard, raise, trace}
use Rattle.rx_clauses.specs.Looping.{header, test, looping}
use Rattle.rx_clauses.specs.Forwarding.{forward}
use Rattle.rx_clauses.specs.Parsing.{parse, parse_by}

-- ---- what a clause begins with

abbrev pub word_start : Option Keyword → Start
word_start None = b.Other
word_start (Some keyword) = b.Word keyword

abbrev pub sending_start : Option (Assigned × Tokens) → Start → Tokens → Start × Tokens
sending_start None start here = (start, here)
sending_start (Some found) start here = (b.Sending found.0.0 found.0.1, found.1)

-- what a clause begins with, and what is to be read next
unfoldable pub start : Tokens → Start × Tokens
start [] = (b.Other, [])
start (t ∷ tokens) =
    if begins_assignment (t ∷ tokens) then (b.Assignment, t ∷ tokens)
    else sending_start (assigned_at (t ∷ tokens)) (if begins_label (t ∷ tokens) then b.Label else word_start (keyword_of t.kind)) (t ∷ tokens)

-- ---- instructions that hold no other clause

abbrev pub with_given : (Option Expr → Simple) → Tokens → Outcome Simple
with_given make tokens = and_then (given tokens) (λ expr rest. Ok (make expr, rest))

abbrev pub parsed : Outcome Parse → Outcome Simple
parsed outcome = and_then outcome (λ found rest. Ok (c.Parse found, rest))

-- an instruction behind its first word
unfoldable pub simple : Loops → Word → Tokens → Outcome Simple
simple loops o.Say tokens = with_given c.Say tokens
simple loops o.Leave tokens = looping loops c.Leave tokens
simple loops o.Iterate tokens = looping loops c.Iterate tokens
simple loops o.Nop tokens = to_end c.Nop tokens
simple loops o.Call tokens = call tokens
simple loops o.Return tokens = with_given c.Return tokens
simple loops o.Exit tokens = with_given c.Exit tokens
simple loops o.Signal tokens = signal tokens
simple loops o.Use tokens = use_ tokens
simple loops o.Parse tokens = parsed (parse tokens)
simple loops o.Arg tokens = parsed (parse_by true f.Arg tokens)
simple loops o.Pull tokens = parsed (parse_by true f.Pull tokens)
simple loops o.Push tokens = with_given c.Push tokens
simple loops o.Queue tokens = with_given c.Queue tokens
simple loops o.Drop tokens = drop_names tokens
simple loops o.Numeric tokens = digits tokens
simple loops o.Guard tokens = guard tokens
simple loops o.Reply tokens = with_given c.Reply tokens
simple loops o.Forward tokens = and_then (forward tokens) (λ found rest. Ok (c.Forward found, rest))
simple loops o.Raise tokens = raise tokens
simple loops o.Trace tokens = trace tokens

-- ---- clauses

abbrev pub as_clause : ℕ → Outcome Simple → Outcome Clause
as_clause line outcome = and_then outcome (λ one rest. Ok (clause line (x.Simple one), rest))

-- the line of the first token
abbrev pub line_of : Tokens → ℕ
line_of [] = 0
line_of (t ∷ tokens) = t.line

-- the number of a block that doesn't end here: 14 where the body ends, 10 at an END, else this number
abbrev pub unended : ℕ → Tokens → ℕ
unended number tokens = if ends_body tokens then 14 else (if begins_word (codes "END") tokens then 10 else number)

-- the number of a SELECT without WHEN
abbrev pub no_when : Tokens → ℕ
no_when tokens = if ends_body tokens then 14 else 7

-- the end of a block
abbrev pub ended : ℕ → Option Name → ClauseKind → Tokens → Outcome ClauseKind
ended number control kind tokens = on_some (behind_block control tokens) (Err (lack (unended number tokens) tokens)) (λ rest. Ok (kind, rest))

abbrev pub behind : Tokens → Tokens
behind [] = []
behind (t ∷ tokens) = tokens

-- a clause by what it begins with, where an instruction is read so
abbrev pub by_start : (Keyword → Outcome ClauseKind) → Tokens → Start → Tokens → Outcome Clause
by_start read here b.Assignment tokens = as_clause (line_of here) (assignment here)
by_start read here (b.Sending receiver part) tokens = as_clause (line_of here) (send_assign (receiver, part) tokens)
by_start read here b.Label tokens = Err (lack 47 here)
by_start read here (b.Word keyword) tokens = and_then (read keyword) (λ kind rest. Ok (clause (line_of here) kind, rest))
by_start read here b.Other tokens = if ends_body here then Err (lack 14 here) else as_clause (line_of here) (message here)

abbrev pub are_none : List When → Bool
are_none [] = true
are_none (first ∷ list) = false

-- The first number bounds the turns: each part has a smaller one. Each clause is read with the loops around it, and the
-- number of blocks that may stand inside one another in it.
abbrev mutual
  pub read : ℕ → Loops → ℕ → Tokens → Outcome Clause
  read zero loops room tokens = no_turns
  read (suc more) loops room tokens =
      by_start (λ keyword. instruction more loops room keyword tokens (behind tokens)) tokens (start tokens).0 (start tokens).1

  -- an instruction behind its first word
  pub instruction : ℕ → Loops → ℕ → Keyword → Tokens → Tokens → Outcome ClauseKind
  instruction zero loops room keyword here tokens = no_turns
  instruction (suc more) loops room (w.Other word) here tokens = and_then (simple loops word tokens) (λ one rest. Ok (x.Simple one, rest))
  instruction (suc more) loops room w.Procedure here tokens = Err (lack 17 here)
  instruction (suc more) loops room w.Expose here tokens = Err (lack 99 here)
  instruction (suc more) loops zero w.If here tokens = Err (lack 11 here)
  instruction (suc more) loops zero w.Select here tokens = Err (lack 11 here)
  instruction (suc more) loops zero w.Do here tokens = Err (lack 11 here)
  instruction (suc more) loops zero w.Loop here tokens = Err (lack 11 here)
  instruction (suc more) loops (suc room) w.If here tokens = choice more loops room tokens
  instruction (suc more) loops (suc room) w.Select here tokens = select more loops room tokens
  instruction (suc more) loops (suc room) w.Do here tokens = on_some (behind_end tokens) (loop more loops room tokens) (λ inside. group more loops room inside)
  instruction (suc more) loops (suc room) w.Loop here tokens = loop more loops room tokens

  pub choice : ℕ → Loops → ℕ → Tokens → Outcome ClauseKind
  choice zero loops room tokens = no_turns
  choice (suc more) loops room tokens =
      and_then (expression s.Then tokens) (λ test after.
      on_some (behind_then after) (Err (refusal 18 after)) (λ inside.
      and_then (read more loops room inside) (λ first others.
      and_then (else_clause more loops room others) (λ other rest. Ok (x.If test first other, rest)))))

  pub else_clause : ℕ → Loops → ℕ → Tokens → Outcome (Option Clause)
  else_clause zero loops room tokens = no_turns
  else_clause (suc more) loops room tokens =
      on_some (behind_word (codes "ELSE") tokens) (Ok (None, tokens)) (λ inside.
      and_then (read more loops room inside) (λ other rest. Ok (Some other, rest)))

  pub select : ℕ → Loops → ℕ → Tokens → Outcome ClauseKind
  select zero loops room tokens = no_turns
  select (suc more) loops room tokens =
      on_some (behind_end tokens) (Err (refusal 21 tokens)) (λ inside.
      and_then (whens more loops room inside) (λ list after.
      if are_none list then Err (lack (no_when after) after)
      else and_then (otherwise more loops room after) (λ other others. ended 7 None (x.Select list other) others)))

  pub whens : ℕ → Loops → ℕ → Tokens → Outcome (List When)
  whens zero loops room tokens = no_turns
  whens (suc more) loops room tokens =
      on_some (behind_symbol (codes "WHEN") tokens) (Ok ([], tokens)) (λ after.
      and_then (expression s.Then after) (λ test others.
      on_some (behind_then others) (Err (refusal 18 others)) (λ inside.
      and_then (read more loops room inside) (λ first further.
      and_then (whens more loops room further) (λ list rest. Ok (when test first ∷ list, rest))))))

  pub otherwise : ℕ → Loops → ℕ → Tokens → Outcome (Option (List Clause))
  otherwise zero loops room tokens = no_turns
  otherwise (suc more) loops room tokens =
      on_some (behind_word (codes "OTHERWISE") tokens) (Ok (None, tokens)) (λ inside.
      and_then (clauses more loops room inside) (λ list rest. Ok (Some list, rest)))

  pub group : ℕ → Loops → ℕ → Tokens → Outcome ClauseKind
  group zero loops room inside = no_turns
  group (suc more) loops room inside = and_then (clauses more loops room inside) (λ list others. ended 10 None (x.Group list) others)

  pub loop : ℕ → Loops → ℕ → Tokens → Outcome ClauseKind
  loop zero loops room tokens = no_turns
  loop (suc more) loops room tokens =
      and_then (header tokens) (λ found after.
      and_then (test after) (λ tested inside.
      and_then (clauses more (loops ++ control_of found ∷ []) room inside) (λ list others. ended 10 (control_of found) (x.Loop found tested list) others)))

  -- clauses up to END
  pub clauses : ℕ → Loops → ℕ → Tokens → Outcome (List Clause)
  clauses zero loops room tokens = no_turns
  clauses (suc more) loops room tokens =
      if begins_word (codes "END") tokens then Ok ([], tokens)
      else and_then (read more loops room tokens) (λ first after. and_then (clauses more loops room after) (λ others rest. Ok (first ∷ others, rest)))

-- turns enough for the clauses at these tokens
abbrev pub turns : Tokens → ℕ
turns tokens = 16 * length tokens + 16

unfoldable pub clause_at : Tokens → Outcome Clause
clause_at tokens = read (turns tokens) [] most_blocks tokens

-- ---- bodies

abbrev pub labelled : Option (List ℕ) → Tokens → Outcome Simple
labelled None tokens = Err (lack 20 tokens)
labelled (Some name) tokens = Ok (c.Label name, skip tokens)

-- a label, whose colon is the second token
abbrev pub label : Tokens → Outcome Simple
label [] = Err (lack 20 [])
label (t ∷ tokens) = labelled (symbol_of t.kind) (behind tokens)

abbrev pub expose : Before → Tokens → Tokens → Outcome Simple
expose Nothing here tokens = and_then (some_names tokens) (λ list rest. Ok (c.Expose list, rest))
expose _ here tokens = Err (lack 99 here)

abbrev pub procedure_names : Tokens → Outcome Simple
procedure_names tokens =
    on_some (behind_symbol (codes "EXPOSE") tokens) (to_end (c.Procedure []) tokens) (λ after.
    and_then (some_names after) (λ list rest. Ok (c.Procedure list, rest)))

abbrev pub procedure : Before → Tokens → Tokens → Outcome Simple
procedure Labels here tokens = procedure_names tokens
procedure _ here tokens = Err (lack 17 here)

abbrev pub after : Before → Outcome Clause → Outcome (Clause × Before)
after state outcome = and_then outcome (λ one rest. Ok ((one, state), rest))

-- a clause of a body by what it begins with, and what stands before the next
abbrev pub body_clause : Before → Tokens → Start → Outcome (Clause × Before)
body_clause before here b.Label = after Labels (as_clause (line_of here) (label here))
body_clause before here (b.Word w.Expose) = after Clauses (as_clause (line_of here) (expose before here (behind here)))
body_clause before here (b.Word w.Procedure) = after Clauses (as_clause (line_of here) (procedure before here (behind here)))
body_clause before here _ = after Clauses (clause_at here)

abbrev pub body_clauses : ℕ → Before → Tokens → Outcome (List Clause)
body_clauses zero before tokens = no_turns
body_clauses (suc more) before tokens =
    if ends_body tokens then Ok ([], tokens)
    else and_then (body_clause before tokens (start tokens).0) (λ first others.
    and_then (body_clauses more first.1 others) (λ list rest. Ok (first.0 ∷ list, rest)))

abbrev pub in_body : List Clause → Body
in_body clauses = record { clauses = clauses }

-- the reader of bodies
unfoldable pub body : Tokens → Outcome Body
body tokens = and_then (body_clauses (length tokens + 1) Nothing tokens) (λ clauses rest. Ok (in_body clauses, rest))
