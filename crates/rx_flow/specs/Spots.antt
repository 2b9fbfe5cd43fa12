-- What the places of a body's code stand for.
use Rattle.std.specs.Prelude.{ℕ, List, [], ◌∷◌, ◌++◌, map, get_or, Option, Some, None}
use Rattle.std.specs.Option.{option_map}
use Rattle.rx_clause_tree.specs.declared.clause.Clause.{Clause, para-Clause}
use Rattle.rx_clause_tree.specs.declared.clause.When.{When}
use Rattle.rx_clause_tree.specs.declared.clause.ClauseKind.{ClauseKind}
use Rattle.rx_clause_tree.specs.declared.clause.ClauseKind.TheVariants as kind
use Rattle.rx_clause_tree.specs.declared.clause.ClauseKind.TheOpen.{ClauseKind-F, Clause-F, When-F}
use Rattle.rx_flow.specs.Rules.{made}

pub data Spot : Type 0 where
  -- these clauses of the innermost list are still to be done
  Doing : List Clause → Spot
  -- a loop before a turn, and the clauses that are still to be done behind it
  Turning : Clause → List Clause → Spot

abbrev pub clauses_at : Spot → List Clause
clauses_at (Doing clauses) = clauses
clauses_at (Turning clause after) = []

-- The places of a clause, one for each, where these clauses come after it.
abbrev pub Laying : Type 0
Laying = List Clause → List Spot

abbrev pub firsts : {X Y : Type 0} → List (X × Y) → List X
firsts xs = map (λ x. x.0) xs

abbrev pub row : List (Clause × Laying) → List Clause → List Spot
row [] after = []
row (x ∷ xs) after = x.1 (firsts xs ++ after) ++ row xs after

-- the places of these WHENs, behind which these others stand, and OTHERWISE
abbrev pub when_row : ℕ → List (When × Laying) → List When → Option (List Clause) → List Clause → List Spot
when_row line [] rest others after = []
when_row line (x ∷ xs) rest others after =
    Doing (made line (kind.Select (x.0 ∷ firsts xs ++ rest) others) ∷ after)
    ∷ (x.1 after ++ Doing after ∷ when_row line xs rest others after)

abbrev pub tail_row : ℕ → Option (List (Clause × Laying)) → List Clause → List Spot
tail_row line None after = Doing (made line (kind.Select [] None) ∷ after) ∷ []
tail_row line (Some others) after = row others after

abbrev pub select_row : ℕ → List (When × Laying) → Option (List (Clause × Laying)) → List Clause → List Spot
select_row line [] (Some others) after = row others after
select_row line whens others after =
    Doing after ∷ (when_row line whens [] (option_map firsts others) after ++ tail_row line others after)

-- the places behind the first one
abbrev pub inner_step : ClauseKind-F (ClauseKind × (ℕ → Laying)) (Clause × Laying) (When × Laying) → ℕ → Laying
inner_step (ClauseKind-F.Simple simple) line after = []
inner_step (ClauseKind-F.If test chosen None) line after = chosen.1 after
inner_step (ClauseKind-F.If test chosen (Some other)) line after = chosen.1 after ++ Doing after ∷ other.1 after
inner_step (ClauseKind-F.Select whens others) line after = select_row line whens others after
inner_step (ClauseKind-F.Group clauses) line after = row clauses after
inner_step (ClauseKind-F.Loop header test clauses) line after =
    Turning (made line (kind.Loop header test (firsts clauses))) after ∷ (row clauses [] ++ Doing [] ∷ [])

abbrev pub clause_step : Clause-F (ClauseKind × (ℕ → Laying)) (Clause × Laying) (When × Laying) → Laying
clause_step x after = Doing (made x.line x.kind.0 ∷ after) ∷ x.kind.1 x.line after

abbrev pub when_step : When-F (ClauseKind × (ℕ → Laying)) (Clause × Laying) (When × Laying) → Laying
when_step x = x.chosen.1

abbrev pub spots : Clause → Laying
spots = para-Clause (ℕ → Laying) Laying Laying inner_step clause_step when_step

abbrev pub all_spots : List Clause → Laying
all_spots [] after = []
all_spots (clause ∷ clauses) after = spots clause (clauses ++ after) ++ all_spots clauses after

-- what this place of a body's code stands for
abbrev pub spot_at : List Clause → ℕ → Spot
spot_at body place = get_or (all_spots body []) place (Doing [])

-- ---- the rows of the places, over clauses alone

abbrev pub when_spots : ℕ → List When → List When → Option (List Clause) → Laying
when_spots line [] rest others after = []
when_spots line (when ∷ whens) rest others after =
    Doing (made line (kind.Select (when ∷ whens ++ rest) others) ∷ after)
    ∷ (spots when.chosen after ++ Doing after ∷ when_spots line whens rest others after)

abbrev pub tail_spots : ℕ → Option (List Clause) → Laying
tail_spots line None after = Doing (made line (kind.Select [] None) ∷ after) ∷ []
tail_spots line (Some others) after = all_spots others after
