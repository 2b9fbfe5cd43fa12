use Rattle.std.proofs.Common.{◌≡◌, ◌<◌, ◌≤◌, true, ℕ, List, Ok, length, sym, ap, ◌∙◌, arith}
use Rattle.rx_answers.specs.Answers.{within_limit}
use Rattle.rx_convfn.specs.Conversions.{b2x}
use Rattle.rx_convfn.specs.Digits.{digits, whole_fours, from_fours}
use Rattle.rx_convfn.proofs.AnswerLemmas.{digits_yes, fits, gives, raises, too_long}
use Rattle.rx_convfn.proofs.DigitLemmas.{length-hexadecimal}
use Rattle.rx_convfn.proofs.digits.b2x.Goals as goal

pub returns-then-digits_in : goal.returns-then-digits_in
returns-then-digits_in c =
    let text = c.args.text.now in
    let all : List ℕ = from_fours (whole_fours (digits text)) in
    let long : 16777216 < length all = omega (arith, c.digits_in.ensures, length-hexadecimal text) in
    let yes = digits_yes true text (within_limit all) (sym c.are_digits.ensures ∙ c.if-not-are_digits.false) in
    record { answer = raises (b2x text) 5 (yes ∙ too_long all long) }

pub returns : goal.returns
returns c =
    let text = c.args.text.now in
    let all : List ℕ = from_fours (whole_fours (digits text)) in
    let short : length all ≤ 16777216 = omega (arith, c.digits_in.ensures, length-hexadecimal text) in
    let yes = digits_yes true text (within_limit all) (sym c.are_digits.ensures ∙ c.if-not-are_digits.false) in
    let items : c.in_ok-from_fours.field-0.items ≡ all =
    c.in_ok-from_fours.ensures ∙ ap from_fours (c.deref.ensures.value ∙ c.in_ok-bits.ensures) in
    record {
      answer = gives (b2x text) c.in_ok-from_fours.field-0 (yes ∙ fits all short ∙ ap (λ (t : List ℕ). Ok t) (sym items));
    }
