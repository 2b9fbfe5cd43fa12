-- Positions stand for what is still to be done.
use Rattle.std.proofs.Common.{◌≡◌, List, [], ◌∷◌, ◌++◌, refl, ap, ◌∙◌}
use Rattle.std.specs.Prelude.{get_or}
use Rattle.std.proofs.lemmas.List.{append-nil}
use Rattle.rx_clause_tree.specs.declared.clause.Clause.{Clause}
use Rattle.rx_clause_tree.specs.declared.package.Package.{Package}
use Rattle.rx_flow.specs.Spots.{Spot, Doing, all_spots, clauses_at, spot_at}
use Rattle.rx_flow.specs.Todo.{wholes}
use Rattle.rx_flow.proofs.SpotLemmas.{spots-first}
use Rattle.rx_machine.specs.Todo.{by_clauses, clauses_in, untouched}
use Rattle.rx_kernel.specs.Readings.{by_bodies, fixed_for_body, fixed_for_code, reading}
use Rattle.rx_kernel.specs.Views.{IsReading}

body-begins : (body : List Clause) → clauses_at (spot_at body 0) ≡ body
body-begins [] = refl
body-begins (clause ∷ clauses) =
    ap (λ (spots : List Spot). clauses_at (get_or (spots ++ all_spots clauses []) 0 (Doing []))) (spots-first clause (clauses ++ [])).1 ∙ append-nil (clause ∷ clauses)

pub reading-is : (program : Package) → IsReading (by_clauses program) (reading program)
reading-is program = record {
  begins = λ body.
      ap (λ (clauses : List Clause). untouched (wholes clauses ++ [])) (body-begins (clauses_in program body))
      ∙ ap untouched (append-nil (wholes (clauses_in program body)));
  answers = λ body value position. refl;
}

pub code-is : (program : Package) → IsReading (by_bodies program) (fixed_for_code program)
code-is program = record { begins = λ body. refl; answers = λ body value position. refl }

pub body-is : (program : Package) → IsReading (by_bodies program) (fixed_for_body program)
body-is program = record { begins = λ body. refl; answers = λ body value position. refl }
