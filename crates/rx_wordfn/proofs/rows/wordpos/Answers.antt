use Rattle.std.proofs.Common.{◌≡◌, ◌-◌, Some, length, sym, ap, ◌∙◌, arith, length-drop}
use Rattle.rx_wordfn.specs.Functions.{before_row}
use Rattle.rx_wordfn.specs.Words.{words}
use Rattle.rx_wordfn.proofs.RowLemmas.{before_row-below}
use Rattle.rx_wordfn.proofs.WordLemmas.{length-words}
use Rattle.rx_wordfn.proofs.rows.wordpos.Goals as goal

pub overflow_add-result : goal.overflow_add-result
overflow_add-result c =
    let found : before_row (words c.args.phrase.now) (words c.from_word.result.now) ≡ Some c.in-Some.count = sym c.in_ok-count.ensures ∙ c.in-Some.is in
    let below = before_row-below (words c.args.phrase.now) (words c.from_word.result.now) c.in-Some.count found in
    let left = ap length c.from_word.ensures.words ∙ length-drop (c.unwrap_or-from.result - 1) (words c.args.text.now) in
    omega (arith, length-words c.args.text.now)
