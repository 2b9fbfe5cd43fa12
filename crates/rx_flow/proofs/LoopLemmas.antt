-- LEAVE and ITERATE: the loop that is meant among those that a frame is in.
use Rattle.std.proofs.Common.{◌≡◌, ℕ, ◌+◌, ◌<◌, Bool, true, false, List, [], ◌∷◌, ◌++◌, length, slice_get, reverse, take, get_or, Option, if◌then◌else◌, refl, ap, sym, ◌∙◌, arith}
use Rattle.std.proofs.lemmas.List.{reverse-append, take_all, take_more}
use Rattle.rx_tree.specs.declared.name.Name.{Name}
use Rattle.rx_clause_tree.specs.declared.clause.Clause.{Clause}
use Rattle.rx_frames.specs.declared.position.Loop.{Loop}
use Rattle.rx_flow.specs.declared.code.Code.{Code}
use Rattle.rx_flow.specs.declared.found.Turn.{Turn}
use Rattle.rx_flow.specs.Rules.{rule}
use Rattle.rx_flow.specs.Todo.{Item, Again, wholes, is_meant_loop, from_loop, behind_first}
use Rattle.rx_flow.specs.Spots.{spot_at}
use Rattle.rx_flow.specs.Places.{behind, loop_item, left_at, todo_at, loop_at}
use Rattle.rx_flow.specs.Stands.{Stands}
use Rattle.rx_flow.specs.Finds.{IsTurn, IsNoTurn, IsMeant, IsNotMeant}
use Rattle.rx_flow.specs.Looks.{is_meant_entry}
use Rattle.rx_flow.proofs.FindLemmas.{meant-kept}

from_loop-wholes : (wanted : Option Name) (clauses : List Clause) (rest : List Item) → from_loop wanted (wholes clauses ++ rest) ≡ from_loop wanted rest
from_loop-wholes wanted [] rest = refl
from_loop-wholes wanted (clause ∷ clauses) rest = from_loop-wholes wanted clauses rest

-- The loops but for these last ones were looked at, and none of them is meant.
abbrev pub Sought : List Clause → List Loop → Option Name → ℕ → Type 0
Sought body loops wanted around =
    (place : ℕ) → from_loop wanted (todo_at body place (reverse loops)) ≡ from_loop wanted (behind body (reverse (take around loops)))

pub sought_none : (body : List Clause) (loops : List Loop) (wanted : Option Name) (around : ℕ) → around ≡ length loops → Sought body loops wanted around
sought_none body loops wanted around e = λ place.
    from_loop-wholes wanted (left_at body place) (behind body (reverse loops))
    ∙ ap (λ (ls : List Loop). from_loop wanted (behind body (reverse ls))) (sym (take_all around loops (omega arith)))

pub sought_all : (body : List Clause) (loops : List Loop) (wanted : Option Name) (around : ℕ) → around ≡ 0 → Sought body loops wanted around
    → IsNotMeant body loops wanted
sought_all body loops wanted around e h = λ place. h place ∙ ap (λ (n : ℕ). from_loop wanted (behind body (reverse (take n loops)))) e

-- one loop more
one_more : (loops : List Loop) (around : ℕ) (loop : Loop) → around < length loops → loop ≡ get_or loops around loop
    → reverse (take (around + 1) loops) ≡ loop ∷ reverse (take around loops)
one_more loops around loop lt is =
    ap reverse (take_more loops around loop lt ∙ ap (λ (l : Loop). take around loops ++ l ∷ []) (sym is)) ∙ reverse-append (take around loops) (loop ∷ [])

behind-one_more : (body : List Clause) (loops : List Loop) (around : ℕ) (loop : Loop) (turn : Turn) → around < length loops → loop ≡ get_or loops around loop
    → IsTurn body loop.turn turn
    → behind body (reverse (take (around + 1) loops)) ≡ Again (loop_at body loop.turn) loop.state ∷ todo_at body turn.end (reverse (take around loops))
behind-one_more body loops around loop turn lt is there =
    let rest = reverse (take around loops) in
    ap (behind body) (one_more loops around loop lt is)
    ∙ ap (λ (xs : List Clause). wholes xs ++ loop_item loop.state (behind body rest) (spot_at body loop.turn)) (sym there.nothing_left)
    ∙ there.first loop.state rest

entry_meant : (code : Code) (body : List Clause) (wanted : Option Name) (place : ℕ) (turn : Turn) → Stands code body → IsTurn body place turn
    → is_meant_entry wanted (slice_get code.clauses turn.number) ≡ is_meant_loop wanted (rule (loop_at body place))
entry_meant code body wanted place turn stands there =
    ap (λ (xs : List Clause). is_meant_entry wanted (slice_get xs turn.number)) stands.kept
    ∙ ap (is_meant_entry wanted) there.kept ∙ meant-kept wanted (loop_at body place)

-- The next loop isn't meant.
pub sought_more : (code : Code) (body : List Clause) (loops : List Loop) (wanted : Option Name) (around : ℕ) (loop : Loop) (turn : Turn) → Stands code body
    → around < length loops → loop ≡ get_or loops around loop → IsTurn body loop.turn turn
    → is_meant_entry wanted (slice_get code.clauses turn.number) ≡ false
    → Sought body loops wanted (around + 1) → Sought body loops wanted around
sought_more code body loops wanted around loop turn stands lt is there e h = λ place.
    let rest = reverse (take around loops) in
    h place ∙ ap (from_loop wanted) (behind-one_more body loops around loop turn lt is there)
    ∙ ap (λ (b : Bool). if b then Again (loop_at body loop.turn) loop.state ∷ todo_at body turn.end rest else from_loop wanted (todo_at body turn.end rest))
    (sym (entry_meant code body wanted loop.turn turn stands there) ∙ e)
    ∙ from_loop-wholes wanted (left_at body turn.end) (behind body rest)

-- The next loop is meant.
pub sought_found : (code : Code) (body : List Clause) (loops : List Loop) (wanted : Option Name) (around : ℕ) (loop : Loop) (turn : Turn) → Stands code body
    → around < length loops → loop ≡ get_or loops around loop → IsTurn body loop.turn turn
    → is_meant_entry wanted (slice_get code.clauses turn.number) ≡ true
    → Sought body loops wanted (around + 1) → IsMeant body loops wanted (record { around = around; turn = loop.turn; end = turn.end })
sought_found code body loops wanted around loop turn stands lt is there e h =
    let rest = reverse (take around loops) in
    let found : (place : ℕ) → from_loop wanted (todo_at body place (reverse loops)) ≡ Again (loop_at body loop.turn) loop.state ∷ todo_at body turn.end rest =
    λ place. h place ∙ ap (from_loop wanted) (behind-one_more body loops around loop turn lt is there)
    ∙ ap (λ (b : Bool). if b then Again (loop_at body loop.turn) loop.state ∷ todo_at body turn.end rest else from_loop wanted (todo_at body turn.end rest))
    (sym (entry_meant code body wanted loop.turn turn stands there) ∙ e) in
    record {
      within = lt;
      iterate = λ place.
          found place ∙ sym (behind-one_more body loops around loop turn lt is there)
          ∙ ap (λ (xs : List Clause). wholes xs ++ behind body (reverse (take (around + 1) loops))) (sym there.nothing_left);
      leave = λ place. ap behind_first (found place);
    }

-- No loop stands where the next one is sought.
pub sought_nowhere : (body : List Clause) (loops : List Loop) (wanted : Option Name) (around : ℕ) (loop : Loop)
    → around < length loops → loop ≡ get_or loops around loop → IsNoTurn body loop.turn
    → Sought body loops wanted (around + 1) → IsNotMeant body loops wanted
sought_nowhere body loops wanted around loop lt is none h = λ place.
    h place ∙ ap (λ (ls : List Loop). from_loop wanted (behind body ls)) (one_more loops around loop lt is)
    ∙ ap (from_loop wanted) (none loop.state (reverse (take around loops)))
