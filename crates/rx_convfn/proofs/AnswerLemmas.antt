-- Answers of calls by what the function comes to.
use Rattle.std.proofs.Common.{◌≡◌, ◌<◌, ◌≤◌, ◌&&◌, Bool, true, if◌then◌else◌, ℕ, List, Vec, Result, Ok, Err, length, ap, ◌∙◌}
use Rattle.std.specs.declared.alloc.Global.{Global}
use Rattle.std.proofs.lemmas.Bool.{lt-leb, le-leb}
use Rattle.rx_answers.specs.declared.Refused.TheVariants.{Raised}
use Rattle.rx_tree.specs.Strings.{is_trimmed, is_grouped}
use Rattle.rx_convfn.specs.Digits.{of_digits}
use Rattle.rx_answers.specs.Answers.{within_limit, AnswersText}

pub raises : (value : Result (List ℕ) ℕ) (error : ℕ) → value ≡ Err error → AnswersText (Err (Raised error)) value
raises value error e = record {
  text = tt;
  raised = λ number same. let number_is : error ≡ number = cc in e ∙ ap Err number_is;
}

pub gives : (value : Result (List ℕ) ℕ) (bytes : Vec ℕ Global) → value ≡ Ok bytes.items → AnswersText (Ok bytes) value
gives value bytes e = record { text = e; raised = λ number same. cc }

pub too_long : (text : List ℕ) → 16777216 < length text → within_limit text ≡ Err 5
too_long text h = rw (lt-leb (length text) 16777216 h)

pub fits : (text : List ℕ) → length text ≤ 16777216 → within_limit text ≡ Ok text
fits text h = rw (le-leb (length text) 16777216 h)

pub digits_yes : (binary : Bool) (text : List ℕ) (value : Result (List ℕ) ℕ) → (is_trimmed text && is_grouped binary text) ≡ true → of_digits binary text value ≡ value
digits_yes binary text value h = ap (λ (b : Bool). if b then value else Err 40) h
