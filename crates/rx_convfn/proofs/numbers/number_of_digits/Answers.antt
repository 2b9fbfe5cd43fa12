use Rattle.std.proofs.Common.{◌≡◌, ◌-◌, ◌+◌, ◌*◌, false, ℕ, List, min, length, get_or, take, drop, sym, ap, ◌∙◌, arith}
use Rattle.rx_tree.specs.Letters.{is_blank}
use Rattle.rx_tree.specs.Strings.{digit_value}
use Rattle.rx_convfn.specs.Digits.{digits, number_of, values_of}
use Rattle.rx_convfn.proofs.DigitLemmas.{digits-rest, digits-end}
use Rattle.rx_convfn.proofs.NumberLemmas.{greatest, number_on, number_on-more, number_on-end}
use Rattle.rx_convfn.proofs.numbers.number_of_digits.Goals as goal

pub loop-rest-preserved-then-not-is_blank : goal.loop-rest-preserved-then-not-is_blank
loop-rest-preserved-then-not-is_blank c =
    let rest = c.loop-rest.rest.now in
    let more : List ℕ = take (length rest - 1) (drop 1 rest) in
    let no_blank : is_blank (get_or rest 0 0) ≡ false = sym c.is_blank.ensures.blank ∙ c.if-not-is_blank.true in
    let next : c.with_digit-number.result ≡ min (c.loop-rest.number * 16 + digit_value (get_or rest 0 0)) greatest =
    c.with_digit-number.ensures ∙ ap (λ (d : ℕ). min (c.loop-rest.number * 16 + d) greatest) c.digit_value.ensures in
    record {
      small = omega (arith, c.with_digit-number.ensures);
      same =
          number_on-more 16 c.loop-rest.number (digit_value (get_or rest 0 0)) c.with_digit-number.result (values_of (digits more)) (omega arith) next ∙
          ap (λ (ds : List ℕ). min (number_on 16 c.loop-rest.number (values_of ds)) greatest) (sym (digits-rest rest c.in-len1-up.len_at_least no_blank)) ∙
          c.loop-rest.invariant.same;
    }

pub returns : goal.returns
returns c =
    number_on-end 16 c.loop-rest.number (number_of 16 (values_of (digits c.args.text.now))) (values_of (digits c.loop-rest.rest.now))
    (digits-end c.loop-rest.rest.now c.in_default.len_below) c.loop-rest.invariant.small c.loop-rest.invariant.same
