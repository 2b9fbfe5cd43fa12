-- What a function comes to, and what a call of it answers.
use Rattle.std.specs.Prelude.{◌≡◌, ℕ, ◌==◌, nat_le, if◌then◌else◌, Vec, List, length, Result, Ok, Err, IfOk}
use Rattle.std.specs.declared.alloc.Global.{Global}
use Rattle.rx_answers.specs.declared.Refused.{Refused}
use Rattle.rx_answers.specs.declared.Refused.TheVariants.{Raised}

-- ---- what a function comes to: its value, or the number of the error that it raises

-- the most bytes of a text
abbrev pub longest : ℕ
longest = 16777216

-- a text as the value of a function: one that is too long raises 5
abbrev pub within_limit : List ℕ → Result (List ℕ) ℕ
within_limit text = if nat_le (length text) longest then Ok text else Err 5

-- what comes of the number of a place or of a word among the arguments: they begin at 1, so that 0 raises 40
abbrev pub at_place : {A : Type 0} → ℕ → Result A ℕ → Result A ℕ
at_place place value = if place == 0 then Err 40 else value

-- ---- what a call of it answers

-- a text, or the error that is raised, as the function comes to; or else that memory is wanting
pub record AnswersText (result : Result (Vec ℕ Global) Refused) (value : Result (List ℕ) ℕ) : Type 0 where
  pub text : IfOk result (λ bytes. value ≡ Ok bytes.items)
  pub raised : (number : ℕ) → result ≡ Err (Raised number) → value ≡ Err number

-- the same of a number
pub record AnswersNumber (result : Result ℕ Refused) (value : Result ℕ ℕ) : Type 0 where
  pub number : IfOk result (λ number. value ≡ Ok number)
  pub raised : (number : ℕ) → result ≡ Err (Raised number) → value ≡ Err number

-- a number that takes no memory
abbrev pub number_answer : Result ℕ ℕ → Result ℕ Refused
number_answer (Ok number) = Ok number
number_answer (Err number) = Err (Raised number)
