-- What a frame has still to do.
use Rattle.std.specs.Prelude.{ℕ, List, [], ◌∷◌, ◌++◌, slice_get, Option, None, Some}
use Rattle.rx_tree.specs.declared.value.Value.{Value}
use Rattle.rx_clause_tree.specs.declared.clause.Body.{Body}
use Rattle.rx_clause_tree.specs.declared.clause.Clause.{Clause}
use Rattle.rx_clause_tree.specs.declared.package.Package.{Package}
use Rattle.rx_frames.specs.declared.position.CallState.{CallState}
use Rattle.rx_frames.specs.declared.position.CallState.TheVariants.{NoCall}
use Rattle.rx_frames.specs.declared.position.Marks.{Marks}
use Rattle.rx_frames.specs.declared.position.Marks.TheVariants.{NoGuard}
use Rattle.rx_frames.specs.Frames.{Doing, call_with}
use Rattle.rx_flow.specs.Todo.{Item, wholes}
use Rattle.rx_eval.specs.Places.{Trees}

pub record Todo : Type 0 where
  -- the clauses and loops, in the order in which they come
  pub items : List Item
  -- the call that the expressions of the first of them have come to, and what is left of these, each with whether a string is wanted
  pub call : CallState
  pub trees : Trees
  -- the marks of the guard that it is at
  pub marks : Marks

-- nothing is done of the first of these
abbrev pub untouched : List Item → Todo
untouched items = record { items = items; call = NoCall; trees = []; marks = NoGuard }

abbrev pub clauses_of : Option Body → List Clause
clauses_of None = []
clauses_of (Some body) = body.clauses

-- The clauses of a body, by its number: the main body has the number after the last one.
abbrev pub clauses_in : Package → ℕ → List Clause
clauses_in program number = clauses_of (slice_get (program.bodies ++ program.main ∷ []) number)

-- the whole body is to be done
abbrev pub beginning : Package → ℕ → Todo
beginning program number = untouched (wholes (clauses_in program number))

-- the answer of a call, a value or none, has come where it was awaited
abbrev pub answered : Option Value → Todo → Todo
answered answer todo = record todo { call = call_with answer todo.call }

-- The frames of the machine tell what is still to be done by clauses.
abbrev pub by_clauses : Package → Doing Todo
by_clauses program = record { beginning = beginning program; answered = answered }
