-- What UNKNOWN of a Directory comes to, once its arguments are read.
use Rattle.std.proofs.Common.{◌≡◌, ℕ, List, Option, sym, ap, ◌∙◌}
use Rattle.std.specs.Prelude.{Result, Ok}
use Rattle.std.specs.Str.{str_to_ascii_uppercase}
use Rattle.rx_tree.specs.Object.{Object}
use Rattle.rx_tree.specs.declared.value.Value.{Value}
use Rattle.rx_native.specs.declared.directory.OfDirectory.TheVariants as m
use Rattle.rx_native.specs.Arguments.{Arguments, name_of, two_values}
use Rattle.rx_native.specs.DirectoryMethods.{directory_answer, entry_answer, name_to_put, places_in}
use Rattle.rx_native.specs.Outcomes.{Outcome, on}

pub unknown-is : (objects : List Object) (directory : ℕ) (args : Arguments) (first second : Value) (name upper : List ℕ) (places : List (Option Value))
    → two_values args ≡ Ok (first, second) → name_of first ≡ Ok name → places_in objects second ≡ Ok places → upper ≡ str_to_ascii_uppercase name
    → directory_answer m.Unknown objects directory args ≡ entry_answer objects directory upper (name_to_put upper) places
unknown-is objects directory args first second name upper places two named array is =
    ap (λ (r : Result (Value × Value) ℕ). on r (λ (both : Value × Value). named-by (name_of both.0) both.1)) two
    ∙ (ap (λ (r : Result (List ℕ) ℕ). named-by r second) named
    ∙ (ap (λ (r : Result (List (Option Value)) ℕ). placed-by r (str_to_ascii_uppercase name)) array
    ∙ ap (λ (u : List ℕ). entry_answer objects directory u (name_to_put u) places) (sym is)))
  where
    placed-by : Result (List (Option Value)) ℕ → List ℕ → Outcome
    placed-by array u = on array (λ (ps : List (Option Value)). entry_answer objects directory u (name_to_put u) ps)

    named-by : Result (List ℕ) ℕ → Value → Outcome
    named-by named value = on named (λ (n : List ℕ). placed-by (places_in objects value) (str_to_ascii_uppercase n))
