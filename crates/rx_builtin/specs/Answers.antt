-- Values as texts, and what a call answers.
use Rattle.std.specs.Prelude.{◌≡◌, ℕ, decimal, List, Result, Ok, Err, IfOk}
use Rattle.rx_answers.specs.Answers.{within_limit}
use Rattle.rx_answers.specs.declared.Refused.{Refused}
use Rattle.rx_answers.specs.declared.Refused.TheVariants.{Raised}

-- a number as the value of a function: its decimal digits
abbrev pub in_digits : Result ℕ ℕ → Result (List ℕ) ℕ
in_digits (Ok number) = Ok (decimal number)
in_digits (Err error) = Err error

-- what a function comes to, where a text that is too long raises 5
abbrev pub limited : Result (List ℕ) ℕ → Result (List ℕ) ℕ
limited (Ok text) = within_limit text
limited (Err error) = Err error

-- the text, or the error that is raised, as the function comes to; or else that memory is wanting
pub record Answers (result : Result (List ℕ) Refused) (value : Result (List ℕ) ℕ) : Type 0 where
  pub text : IfOk result (λ text. value ≡ Ok text)
  pub raised : (number : ℕ) → result ≡ Err (Raised number) → value ≡ Err number
