-- What a built-in function gives, from what its call answers.
use Rattle.std.proofs.Common.{◌≡◌, ℕ, true, is_some, List, Option, Some, None, option_map, Result, IfSome, IsTrue, refl}
use Rattle.std.proofs.lemmas.Bool.{false≢true}
use Rattle.rx_answers.specs.declared.Refused.{Refused}
use Rattle.rx_builtin.specs.Answers.{Answers}
use Rattle.rx_builtin.specs.Arguments.{Arguments}
use Rattle.rx_builtin.specs.Functions.{called, function_named, function_value, is_builtin}
use Rattle.rx_builtin.specs.declared.facts.Facts.{Facts}
use Rattle.rx_builtin.specs.declared.function.Function.{Function}
use Rattle.rx_tree.specs.declared.value.Value.{Value}
use Rattle.rx_eval.specs.Calling.{in_text, known_value}

some_map : (A B : Type 0) (f : A → B) (o : Option A) → is_some o ≡ true → is_some (option_map f o) ≡ true
some_map A B f None h = h
some_map A B f (Some x) h = refl

-- the function of a name that is one has a value or an error
pub has_value : (name : List ℕ) (args : Arguments) (frame : Facts) → IsTrue (is_builtin name) → is_some (function_value name args frame) ≡ true
has_value name args frame h = some_map Function (Result (List ℕ) ℕ) (λ function. called function args frame) (function_named name) h

pub builtin_step : (found : Option (Result (List ℕ) ℕ)) (answer : Result (List ℕ) Refused) (P : Result Value ℕ → Type 0)
    → is_some found ≡ true → IfSome found (Answers answer) → ((value : Result (List ℕ) ℕ) → Answers answer value → P (in_text value)) → P (known_value found)
builtin_step None answer P some h k = absurd (false≢true some)
builtin_step (Some value) answer P some h k = k value h
