-- How much is held with one table more.
use Rattle.std.proofs.Common.{◌≡◌, ◌+◌, List, [], ◌∷◌, ◌++◌, length, arith}
use Rattle.std.proofs.lemmas.List.Sums.{sum_by-append}
use Rattle.rx_vars.specs.Discarded.{held_by}

pub held_more : {A : Type 0} (tables : List (List A)) (table : List A) → held_by (tables ++ table ∷ []) ≡ held_by tables + (length table + 1)
held_more tables table = omega (arith, sum_by-append (λ t. length t + 1) tables (table ∷ []))
