use Rattle.std.proofs.Common.{◌∙◌, arith}
use Rattle.rx_convfn.specs.Digits.{number_of}
use Rattle.rx_convfn.proofs.NumberLemmas.{number_on-rest, number_on-end}
use Rattle.rx_convfn.proofs.numbers.number_of_bytes.Goals as goal

pub loop-rest-preserved : goal.loop-rest-preserved
loop-rest-preserved c = record {
  small = omega (arith, c.with_digit-number.ensures);
  same =
      number_on-rest 256 c.loop-rest.number c.with_digit-number.result c.loop-rest.rest.now (omega arith) c.in-len1-up.len_at_least c.with_digit-number.ensures ∙
      c.loop-rest.invariant.same;
}

pub returns : goal.returns
returns c =
    number_on-end 256 c.loop-rest.number (number_of 256 c.args.bytes.now) c.loop-rest.rest.now c.in_default.len_below c.loop-rest.invariant.small
    c.loop-rest.invariant.same
