-- What is kept for a number.
use Rattle.std.proofs.Common.{◌≡◌, ℕ, Global, List, [], slice_get, Some, option_map, ap, sym, ◌∙◌}
use Rattle.std.proofs.lemmas.Option.{slice_get-map}
use Rattle.std.specs.declared.sync.Arc.{Arc}
use Rattle.rx_clause_tree.specs.declared.clause.Body.{Body as Written}
use Rattle.rx_clause_tree.specs.declared.clause.Clause.{Clause}
use Rattle.rx_eval.specs.Bodies.{Body}
use Rattle.rx_eval.specs.Code.{Code}
use Rattle.rx_eval.specs.Places.{Trees}
use Rattle.rx_machine.specs.Scenes.{labels_from}
use Rattle.rx_codes.specs.Codes.{AreCodes, Coded, fixed_for, seen, wanted, with_objects}

-- the code of a clause is that of its number
pub kept_code : (fixed : Body) (clauses : List Clause) (compiled : List (Arc Code Global)) (number : ℕ) (code : Arc Code Global) (clause : Clause)
    → AreCodes fixed clauses compiled → slice_get compiled number ≡ Some code → slice_get clauses number ≡ Some clause → seen code ≡ wanted fixed clause
kept_code fixed clauses compiled number code clause are got is =
    let found : Some (seen code) ≡ Some (wanted fixed clause) =
    sym (ap (option_map seen) got) ∙ sym (slice_get-map seen compiled number)
    ∙ ap (λ (xs : List (Body × Trees)). slice_get xs number) are
    ∙ slice_get-map (wanted fixed) clauses number ∙ ap (option_map (wanted fixed)) is in
    cc

-- what is fixed is that for the body
pub fixed_are : (fixed : Body) (body : Written) (coded : Coded) → fixed.labels ≡ labels_from [] body.clauses → with_objects fixed.objects body ≡ coded
    → fixed ≡ fixed_for coded
fixed_are fixed body coded labels is =
    ap (λ (ls : List (List ℕ × ℕ)). record { labels = ls; objects = fixed.objects }) labels ∙ ap fixed_for is
