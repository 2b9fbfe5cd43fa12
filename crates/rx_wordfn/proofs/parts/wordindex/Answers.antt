use Rattle.std.proofs.Common.{◌≡◌, ◌+◌, ◌-◌, ℕ, length, drop, ap, ◌∙◌, arith}
use Rattle.rx_wordfn.specs.Words.{words}
use Rattle.rx_wordfn.proofs.WordLemmas.{drop-from_word}
use Rattle.rx_wordfn.proofs.parts.wordindex.Goals as goal

pub returns-clause-there : goal.returns-clause-there
returns-clause-there c = λ some.
    let before = length c.args.text.now - length c.from_word-part.result.now in
    let place : before + 1 - 1 ≡ before = omega arith in
    ap (λ (n : ℕ). words (drop n c.args.text.now)) place ∙
    ap words (drop-from_word (c.args.n - 1) c.args.text.now c.from_word-part.result.now c.from_word-part.ensures.rest) ∙
    c.from_word-part.ensures.words
