-- The table of the labels of a body, each with the place behind it.
use Rattle.std.specs.Prelude.{◌≡◌, ℕ, List, Option, Some, None}
use Rattle.std.specs.Option.{option_map}
use Rattle.rx_clause_tree.specs.declared.clause.Clause.{Clause}
use Rattle.rx_vars.specs.Tables.{look_up, with_new}
use Rattle.rx_flow.specs.Todo.{after_label}
use Rattle.rx_flow.specs.Places.{left_at}

-- names with places
abbrev pub Labels : Type 0
Labels = List (List ℕ × ℕ)

abbrev pub AreLabels : List Clause → Labels → Type 0
AreLabels body labels = (name : List ℕ) → after_label name body ≡ option_map (left_at body) (look_up labels name)

-- ---- while the table is made

-- the clauses behind a place that was found, or else these
abbrev pub behind_label : List Clause → Option ℕ → Option (List Clause) → Option (List Clause)
behind_label body None others = others
behind_label body (Some place) others = Some (left_at body place)

-- the labels of a body but for those among the clauses that are left
abbrev pub AreLabelsBefore : List Clause → List Clause → Labels → Type 0
AreLabelsBefore body rest labels =
    (name : List ℕ) → after_label name body ≡ behind_label body (look_up labels name) (after_label name rest)

-- the table with this clause's label, unless the name is there, and at the place that comes next in the code
abbrev pub with_label : Option (List ℕ) → ℕ → Labels → Labels
with_label None place labels = labels
with_label (Some name) place labels = with_new labels name place
