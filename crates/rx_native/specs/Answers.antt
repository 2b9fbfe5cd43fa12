-- What a call answers.
use Rattle.std.specs.Prelude.{◌≡◌, ℕ, List, Result, Ok, Err, IfOk}
use Rattle.rx_tree.specs.Object.{Object}
use Rattle.rx_native.specs.declared.answer.NativeAnswer.{NativeAnswer}
use Rattle.rx_native.specs.declared.answer.NativeRefused.{NativeRefused}
use Rattle.rx_native.specs.declared.answer.NativeRefused.TheVariants.{Raised}
use Rattle.rx_native.specs.Outcomes.{Outcome}

-- The answer, with the objects afterwards, is what the method comes to; or the error that is raised, and nothing has changed; or
-- else memory is wanting.
pub record Answers (result : Result NativeAnswer NativeRefused) (before after : List Object) (outcome : Outcome) : Type 0 where
  pub answer : IfOk result (λ answer. outcome ≡ Ok (answer, after))
  pub raised : (number : ℕ) → result ≡ Err (Raised number) → outcome ≡ Err number
  pub unchanged : (number : ℕ) → result ≡ Err (Raised number) → after ≡ before
