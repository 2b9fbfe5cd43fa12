use Rattle.std.proofs.Common.{◌<◌, ◌≤◌, false, ℕ, List, Ok, length, sym, ap, ◌∙◌, arith}
use Rattle.rx_tree.specs.Strings.{bytes_of}
use Rattle.rx_answers.specs.Answers.{within_limit}
use Rattle.rx_convfn.specs.Conversions.{x2c}
use Rattle.rx_convfn.proofs.AnswerLemmas.{digits_yes, fits, gives, raises, too_long}
use Rattle.rx_convfn.proofs.DigitLemmas.{length-bytes}
use Rattle.rx_convfn.proofs.digits.x2c.Goals as goal

pub returns-then-digits_in : goal.returns-then-digits_in
returns-then-digits_in c =
    let text = c.args.text.now in
    let long : 16777216 < length (bytes_of false 0 text) = omega (arith, c.digits_in.ensures, length-bytes 0 text) in
    let yes = digits_yes false text (within_limit (bytes_of false 0 text)) (sym c.are_digits.ensures ∙ c.if-not-are_digits.false) in
    record { answer = raises (x2c text) 5 (yes ∙ too_long (bytes_of false 0 text) long) }

pub returns-in-Ok : goal.returns-in-Ok
returns-in-Ok c =
    let text = c.args.text.now in
    let short : length (bytes_of false 0 text) ≤ 16777216 = omega (arith, c.digits_in.ensures, length-bytes 0 text) in
    let yes = digits_yes false text (within_limit (bytes_of false 0 text)) (sym c.are_digits.ensures ∙ c.if-not-are_digits.false) in
    record {
      answer =
          gives (x2c text) c.in-Ok.bytes
          (yes ∙ fits (bytes_of false 0 text) short ∙ ap (λ (t : List ℕ). Ok t) (sym c.in-Ok.ensures.value));
    }
