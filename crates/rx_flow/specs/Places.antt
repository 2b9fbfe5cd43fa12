-- What a place in the code of a body stands for, with the loops that a frame is in: a list of what is still to be done.
use Rattle.std.specs.Prelude.{ℕ, List, [], ◌∷◌, ◌++◌, reverse}
use Rattle.rx_clause_tree.specs.declared.simple.Simple.TheVariants as simple
use Rattle.rx_clause_tree.specs.declared.clause.Clause.{Clause}
use Rattle.rx_clause_tree.specs.declared.clause.ClauseKind.TheVariants as kind
use Rattle.rx_frames.specs.declared.position.Loop.{Loop}
use Rattle.rx_frames.specs.declared.position.LoopState.{LoopState}
use Rattle.rx_frames.specs.declared.position.Position.{Position}
use Rattle.rx_flow.specs.Rules.{made}
use Rattle.rx_flow.specs.Todo.{Item, Again, wholes}
use Rattle.rx_flow.specs.Spots.{Spot, Doing, Turning, clauses_at, spot_at}

-- the clauses that are left in the innermost list at a place
abbrev pub left_at : List Clause → ℕ → List Clause
left_at body place = clauses_at (spot_at body place)

-- a loop, what comes behind it in its own list, and what comes behind that; nothing, where no loop stands
abbrev pub loop_item : LoopState → List Item → Spot → List Item
loop_item state rest (Doing clauses) = []
loop_item state rest (Turning clause after) = Again clause state ∷ (wholes after ++ rest)

-- these loops, the innermost first, each with what comes behind it
abbrev pub behind : List Clause → List Loop → List Item
behind body [] = []
behind body (loop ∷ loops) = loop_item loop.state (behind body loops) (spot_at body loop.turn)

-- the clauses that are left in the list at a place, and the loops, the innermost first
abbrev pub todo_at : List Clause → ℕ → List Loop → List Item
todo_at body place loops = wholes (left_at body place) ++ behind body loops

-- what a position stands for, but for what is done of its first clause
abbrev pub todo : List Clause → Position → List Item
todo body position = todo_at body position.place (reverse position.loops)

-- ---- the first clause at a place, and the loop of a turn

abbrev pub nothing : Clause
nothing = made 0 (kind.Simple simple.Nop)

abbrev pub first_of : List Clause → Clause
first_of [] = nothing
first_of (clause ∷ clauses) = clause

abbrev pub tail_of : List Clause → List Clause
tail_of [] = []
tail_of (clause ∷ clauses) = clauses

-- the clause that stands at a place, and what comes behind it
abbrev pub clause_at : List Clause → ℕ → Clause
clause_at body place = first_of (left_at body place)

abbrev pub rest_at : List Clause → ℕ → List Loop → List Item
rest_at body place loops = wholes (tail_of (left_at body place)) ++ behind body loops

abbrev pub turning : Spot → Clause
turning (Doing clauses) = nothing
turning (Turning clause after) = clause

-- the loop whose turn stands at a place
abbrev pub loop_at : List Clause → ℕ → Clause
loop_at body turn = turning (spot_at body turn)
