use Rattle.std.proofs.Common.{sym, ap, ◌∙◌, is_ok, pos, w64}
use Rattle.std.proofs.lemmas.Int.{to_z-of_z}
use Rattle.rx_whole.specs.Arithmetic.{order_of}
use Rattle.rx_whole.specs.Digits.{has_at_most}
use Rattle.rx_whole.specs.Number.{num}
use Rattle.rx_whole.specs.Numeral.{numeral_of}
use Rattle.rx_builtin.specs.Numbers.{given}
use Rattle.rx_builtin.proofs.NumeralLemmas.{is_ok-order_of, long, no_number, whole, whole_fits, zero_within}
use Rattle.rx_builtin.proofs.number.is_within.Goals as goal

pub returns-in-Whole : goal.returns-in-Whole
returns-in-Whole c =
    let read = c.in-Whole.ensures.numeral ∙ ap (λ text. numeral_of (num text)) c.given.ensures in
    let number_is = whole (num (given c.args.argument.now)) c.in-Whole.number read in
    let same = to_z-of_z w64 c.in-Whole.number (whole_fits (num (given c.args.argument.now)) c.in-Whole.number read) in
    c.is_ok.ensures.value ∙
    ap is_ok c.compare.ensures.order ∙
    ap (λ n. is_ok (order_of n (pos 0) c.args.digits)) same ∙
    is_ok-order_of c.in-Whole.number c.args.digits c.requires.at_least_1 ∙
    ap (has_at_most c.args.digits) (sym number_is)

pub returns-in-Long : goal.returns-in-Long
returns-in-Long c =
    let read = c.in-Long.ensures.numeral ∙ ap (λ text. numeral_of (num text)) c.given.ensures in
    sym (long (num (given c.args.argument.now)) c.args.digits c.requires.at_most_18 read)

pub returns-in-NoNumber : goal.returns-in-NoNumber
returns-in-NoNumber c =
    let read = c.in-NoNumber.ensures.numeral ∙ ap (λ text. numeral_of (num text)) c.given.ensures in
    let number_is = no_number (num (given c.args.argument.now)) read in
    sym (ap (has_at_most c.args.digits) number_is ∙ zero_within c.args.digits c.requires.at_least_1)
