-- What is found at a place of a body's code, and of what is to be done there.
use Rattle.std.specs.Prelude.{◌≡◌, ℕ, ◌+◌, ◌<◌, false, List, [], ◌∷◌, ◌++◌, length, reverse, slice_get, take, Option, Some}
use Rattle.rx_tree.specs.declared.name.Name.{Name}
use Rattle.rx_clause_tree.specs.declared.clause.Clause.{Clause}
use Rattle.rx_frames.specs.declared.position.Loop.{Loop}
use Rattle.rx_frames.specs.declared.position.LoopState.{LoopState}
use Rattle.rx_flow.specs.declared.found.Found.{Found}
use Rattle.rx_flow.specs.declared.found.Turn.{Turn}
use Rattle.rx_flow.specs.declared.found.FoundLoop.{FoundLoop}
use Rattle.rx_flow.specs.Rules.{Rule, Does, Begins, Asks, Loops, Fails, rule}
use Rattle.rx_flow.specs.Todo.{Item, Whole, Again, wholes, is_label, past_labels, from_loop, behind_loop}
use Rattle.rx_flow.specs.Kept.{kept_of, all_kept}
use Rattle.rx_flow.specs.Places.{behind, left_at, todo_at, clause_at, rest_at, loop_at}
use Rattle.rx_flow.specs.Stands.{repeated}

-- ---- the clause that is next

-- Where the code goes on with what a clause leads to, by its rule: this rest comes behind it.
abbrev pub Leads : List Clause → Found → List Loop → List Item → Rule → Type 0
-- the rest
Leads body found loops rest (Does simple) = todo_at body found.next loops ≡ rest
-- the clauses, then the rest
Leads body found loops rest (Begins clauses) = todo_at body found.next loops ≡ wholes clauses ++ rest
-- the first clauses where the test holds, else the second ones
Leads body found loops rest (Asks test one other) =
    (todo_at body found.next loops ≡ wholes one ++ rest) × (todo_at body found.otherwise loops ≡ wholes other ++ rest)
-- the loop before its first turn, with whatever state its header gives
Leads body found loops rest (Loops header test clauses) = (state : LoopState)
    → todo_at body found.next (record { turn = found.next; state = state } ∷ loops) ≡ Again (clause_at body found.at) state ∷ rest
Leads body found loops rest Fails = Unit {0}

-- The first clause that is to be done from a place on, past labels and jumps.
pub record IsNext (body : List Clause) (place : ℕ) (found : Found) : Type 0 where
  pub passed : (loops : List Loop) → past_labels (todo_at body place loops) ≡ todo_at body found.at loops
  pub first : (loops : List Loop) → todo_at body found.at loops ≡ Whole (clause_at body found.at) ∷ rest_at body found.at loops
  -- it is no label
  pub step : is_label (rule (clause_at body found.at)) ≡ false
  -- what is kept under its number
  pub kept : slice_get (all_kept body) found.number ≡ Some (kept_of (clause_at body found.at))
  pub leads : (loops : List Loop) → Leads body found loops (rest_at body found.at loops) (rule (clause_at body found.at))

-- No clause is left there in the innermost list: the innermost loop is next.
abbrev pub IsEnd : List Clause → ℕ → Type 0
IsEnd body place = (loops : List Loop) → past_labels (todo_at body place loops) ≡ behind body loops

-- ---- the turn of a loop

pub record IsTurn (body : List Clause) (place : ℕ) (turn : Turn) : Type 0 where
  -- the loop is next
  pub first : (state : LoopState) (loops : List Loop)
      → todo_at body place (record { turn = place; state = state } ∷ loops) ≡ Again (loop_at body place) state ∷ todo_at body turn.end loops
  -- what is kept under its number
  pub kept : slice_get (all_kept body) turn.number ≡ Some (kept_of (loop_at body place))
  -- a turn: its clauses, and then the loop again
  pub again : (loops : List Loop) → todo_at body turn.body loops ≡ wholes (repeated (rule (loop_at body place))) ++ behind body loops
  pub nothing_left : left_at body place ≡ []

-- no loop stands there
abbrev pub IsNoTurn : List Clause → ℕ → Type 0
IsNoTurn body place = (state : LoopState) (loops : List Loop) → behind body (record { turn = place; state = state } ∷ loops) ≡ []

-- ---- LEAVE and ITERATE

-- Among these loops, the innermost last, this is the one that is meant: where the code goes on, with the loops around it.
pub record IsMeant (body : List Clause) (loops : List Loop) (wanted : Option Name) (found : FoundLoop) : Type 0 where
  pub within : found.around < length loops
  pub iterate : (place : ℕ) → from_loop wanted (todo_at body place (reverse loops)) ≡ todo_at body found.turn (reverse (take (found.around + 1) loops))
  pub leave : (place : ℕ) → behind_loop wanted (todo_at body place (reverse loops)) ≡ todo_at body found.end (reverse (take found.around loops))

-- none of them is meant
abbrev pub IsNotMeant : List Clause → List Loop → Option Name → Type 0
IsNotMeant body loops wanted = (place : ℕ) → from_loop wanted (todo_at body place (reverse loops)) ≡ []
