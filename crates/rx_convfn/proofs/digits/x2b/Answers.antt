use Rattle.std.proofs.Common.{◌≡◌, ◌<◌, ◌≤◌, ◌++◌, false, ℕ, List, Ok, length, sym, ap, ◌∙◌, arith, append-nil}
use Rattle.std.specs.Prelude.{flat_map}
use Rattle.rx_answers.specs.Answers.{within_limit}
use Rattle.rx_convfn.specs.Conversions.{x2b}
use Rattle.rx_convfn.specs.Digits.{digits, four_bits}
use Rattle.rx_convfn.proofs.AnswerLemmas.{digits_yes, fits, gives, raises, too_long}
use Rattle.rx_convfn.proofs.DigitLemmas.{length-bits, length-digits, bits-end}
use Rattle.rx_convfn.proofs.digits.x2b.Goals as goal

pub returns-then-digits_in : goal.returns-then-digits_in
returns-then-digits_in c =
    let text = c.args.text.now in
    let all : List ℕ = flat_map four_bits (digits text) in
    let long : 16777216 < length all = omega (arith, c.digits_in.ensures, length-bits (digits text), length-digits text) in
    let yes = digits_yes false text (within_limit all) (sym c.are_digits.ensures ∙ c.if-not-are_digits.false) in
    record { answer = raises (x2b text) 5 (yes ∙ too_long all long) }

pub returns : goal.returns
returns c =
    let text = c.args.text.now in
    let all : List ℕ = flat_map four_bits (digits text) in
    let short : length all ≤ 16777216 = omega (arith, c.digits_in.ensures, length-bits (digits text), length-digits text) in
    let yes = digits_yes false text (within_limit all) (sym c.are_digits.ensures ∙ c.if-not-are_digits.false) in
    let items : c.loop-rest.bits.items ≡ all =
    sym (append-nil c.loop-rest.bits.items) ∙
    ap (λ (t : List ℕ). c.loop-rest.bits.items ++ t) (sym (bits-end c.loop-rest.rest.now c.in_default.len_below)) ∙ c.loop-rest.invariant in
    record { answer = gives (x2b text) c.loop-rest.bits (yes ∙ fits all short ∙ ap (λ (t : List ℕ). Ok t) (sym items)) }
