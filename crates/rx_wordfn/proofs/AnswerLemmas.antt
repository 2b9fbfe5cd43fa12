-- Answers of calls by what the function comes to.
use Rattle.std.proofs.Common.{◌≡◌, ℕ, List, Vec, Result, Ok, Err, ap, ◌∙◌}
use Rattle.std.specs.declared.alloc.Global.{Global}
use Rattle.rx_answers.specs.declared.Refused.TheVariants.{Raised}
use Rattle.rx_answers.specs.Answers.{AnswersText}

pub raises : (value : Result (List ℕ) ℕ) (error : ℕ) → value ≡ Err error → AnswersText (Err (Raised error)) value
raises value error e = record {
  text = tt;
  raised = λ number same. let number_is : error ≡ number = cc in e ∙ ap Err number_is;
}

pub gives : (value : Result (List ℕ) ℕ) (bytes : Vec ℕ Global) → value ≡ Ok bytes.items → AnswersText (Ok bytes) value
gives value bytes e = record { text = e; raised = λ number same. cc }
