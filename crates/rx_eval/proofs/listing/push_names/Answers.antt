use Rattle.std.proofs.Common.{◌++◌, get_or, ap, ◌∙◌}
use Rattle.std.proofs.lemmas.Option.{slice_get-get_or}
use Rattle.rx_eval.proofs.NumberLemmas.{named_next, named_all}
use Rattle.rx_eval.proofs.listing.push_names.Goals as goal

pub loop-number-preserved : goal.loop-number-preserved
loop-number-preserved c = λ wanted h.
    let numbers = c.args.numbers.now in
    let at = c.loop-number.number-index in
    named_next c.args.names.now wanted numbers at (get_or numbers at 0) c.loop-number.found c.push_name.new.found c.args.found.now
    (slice_get-get_or numbers at 0 c.loop-number-test.true) h c.in_ok-push_name.ensures (c.loop-number.invariant wanted h)

pub returns : goal.returns
returns c = λ wanted h. c.loop-number.invariant wanted h ∙ ap (λ names. c.args.found.now ++ names) (named_all c.args.names.now wanted c.args.numbers.now c.loop-number.number-index c.loop-number-test.false h)
