use Rattle.std.proofs.Common.{◌≡◌, ◌++◌, ◌-◌, ◌%◌, ℕ, List, replicate, sym, ap, ◌∙◌, arith}
use Rattle.rx_convfn.specs.Digits.{digits}
use Rattle.rx_convfn.proofs.DigitLemmas.{length-digits}
use Rattle.rx_convfn.proofs.digits.whole_fours.Goals as goal

pub loop-rest-init : goal.loop-rest-init
loop-rest-init c =
    let zeros : c.loop.counter ≡ (4 - c.digits_in.result % 4) % 4 = omega arith in
    let count = ap (λ (n : ℕ). (4 - n % 4) % 4) (c.digits_in.ensures ∙ sym (length-digits c.args.text.now)) in
    ap (λ (t : List ℕ). t ++ digits c.args.text.now) (c.loop.invariant ∙ ap (λ (n : ℕ). replicate n 48) (zeros ∙ count))
