use Rattle.std.proofs.Common.{◌≡◌, ◌<◌, [], ◌∷◌, ℕ, List, length, sym, ap, ◌∙◌, arith, rules}
use Rattle.std.proofs.lemmas.Grind.{common_steps}
use Rattle.rx_text.specs.Blanks.{without_blanks_in_front}
use Rattle.rx_wordfn.specs.Words.{words, from_blank}
use Rattle.rx_wordfn.proofs.WordLemmas.{words-next, words-none, length-next}
use Rattle.rx_wordfn.proofs.cursor.next_word.Goals as goal

pub returns-then-is_empty-clause-none : goal.returns-then-is_empty-clause-none
returns-then-is_empty-clause-none c =
    let none : without_blanks_in_front c.args.text.now ≡ [] = grind (arith, common_steps) in
    words-none c.args.text.now none

pub returns-clause-word : goal.returns-clause-word
returns-clause-word c =
    let front = c.strip_front-text.result.now in
    let some : 0 < length front = search rules in
    words-next c.args.text.now front (sym c.strip_front-text.ensures.rest) some ∙
    ap (λ (w : List ℕ). w ∷ words (from_blank front)) (sym c.split_word.ensures.word) ∙
    ap (λ (t : List ℕ). c.split_word.result.0.now ∷ words t) (sym c.split_word.ensures.behind)

pub returns-clause-some : goal.returns-clause-some
returns-clause-some c =
    let front = c.strip_front-text.result.now in
    let some : 0 < length front = search rules in
    omega (arith, length-next c.args.text.now front (sym c.strip_front-text.ensures.rest) some, ap length c.split_word.ensures.word)
