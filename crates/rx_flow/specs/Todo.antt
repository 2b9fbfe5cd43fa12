-- What is still to be done in a body, as a list, and what becomes of it.
use Rattle.std.specs.Prelude.{ℕ, Bool, true, false, List, [], ◌∷◌, map, Option, Some, None, is_some, if◌then◌else◌}
use Rattle.std.specs.Str.{bytes_eq}
use Rattle.rx_tree.specs.declared.name.Name.{Name}
use Rattle.rx_clause_tree.specs.declared.simple.Simple.TheVariants as simple
use Rattle.rx_clause_tree.specs.declared.clause.Clause.{Clause}
use Rattle.rx_clause_tree.specs.Loops.{control_of, is_name}
use Rattle.rx_frames.specs.declared.position.LoopState.{LoopState}
use Rattle.rx_flow.specs.Rules.{Rule, Does, Loops, rule}

pub data Item : Type 0 where
  -- a clause of which nothing is done
  Whole : Clause → Item
  -- a loop before a turn
  Again : Clause → LoopState → Item

abbrev pub wholes : List Clause → List Item
wholes clauses = map Whole clauses

-- ---- labels

-- the name of a label
abbrev pub label_of : Rule → Option (List ℕ)
label_of (Does (simple.Label name)) = Some name
label_of _ = None

abbrev pub is_label : Rule → Bool
is_label one = is_some (label_of one)

-- Labels are no steps: what is to be done but for the labels in front.
abbrev pub past_labels : List Item → List Item
past_labels [] = []
past_labels (Whole clause ∷ rest) = if is_label (rule clause) then past_labels rest else Whole clause ∷ rest
past_labels (Again clause state ∷ rest) = Again clause state ∷ rest

abbrev pub is_named : List ℕ → Option (List ℕ) → Bool
is_named name None = false
is_named name (Some label) = bytes_eq name label

-- The clauses behind the first label of this name in a body. A jump there gives up all loops.
abbrev pub after_label : List ℕ → List Clause → Option (List Clause)
after_label name [] = None
after_label name (clause ∷ clauses) = if is_named name (label_of (rule clause)) then Some clauses else after_label name clauses

-- ---- LEAVE and ITERATE

-- whether LEAVE and ITERATE mean a loop: each where they have no variable, else one that runs by it
abbrev pub is_meant : Option Name → Option Name → Bool
is_meant None control = true
is_meant (Some wanted) control = is_name wanted control

abbrev pub is_meant_loop : Option Name → Rule → Bool
is_meant_loop wanted (Loops header test clauses) = is_meant wanted (control_of header)
is_meant_loop wanted _ = false

-- ITERATE: from the innermost loop on that is meant, before its next turn
abbrev pub from_loop : Option Name → List Item → List Item
from_loop wanted [] = []
from_loop wanted (Whole clause ∷ rest) = from_loop wanted rest
from_loop wanted (Again clause state ∷ rest) =
    if is_meant_loop wanted (rule clause) then Again clause state ∷ rest else from_loop wanted rest

abbrev pub behind_first : List Item → List Item
behind_first [] = []
behind_first (item ∷ rest) = rest

-- LEAVE: what comes behind that loop
abbrev pub behind_loop : Option Name → List Item → List Item
behind_loop wanted todo = behind_first (from_loop wanted todo)
