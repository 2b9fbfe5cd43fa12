use Rattle.std.proofs.Common.{◌≡◌, ◌-◌, ◌+◌, ℕ, List, suc, sym, ap, ◌∙◌, arith}
use Rattle.rx_wordfn.specs.Words.{from_word, words}
use Rattle.rx_wordfn.proofs.WordLemmas.{from_word-none, words-from_word}
use Rattle.rx_wordfn.proofs.cursor.from_word.Goals as goal
use Rattle.rx_wordfn.proofs.cursor.from_word.Goals.{else-loop-test, then-loop-test+in_default}

pub loop-preserved : goal.loop-preserved
loop-preserved c =
    let left : c.args.count - c.loop.counter ≡ suc (c.args.count - (c.loop.counter + 1)) = omega arith in
    record {
      same =
          ap (λ (t : List ℕ). from_word (c.args.count - (c.loop.counter + 1)) t) c.in-Some.ensures.behind ∙
          sym (ap (λ (n : ℕ). from_word n c.loop.rest.now) left) ∙ c.loop.invariant.same;
      no_longer = omega (arith, c.in-Some.ensures.lengths);
    }

rest_is : goal.returns-clause-rest
rest_is c = elim c.loop-test.branch [
  | else-loop-test w ↦
      let none_left : c.args.count - c.loop.counter ≡ 0 = omega arith in
      c.strip_front.ensures.rest ∙ sym (ap (λ (n : ℕ). from_word n c.loop.rest.now) none_left) ∙ c.loop.invariant.same
  | then-loop-test+in_default w ↦
      c.strip_front.ensures.rest ∙ w.in_default.ensures.blank ∙
      sym (from_word-none (c.args.count - c.loop.counter) c.loop.rest.now w.in_default.ensures.blank) ∙ c.loop.invariant.same
]

pub returns-clause-rest : goal.returns-clause-rest
returns-clause-rest c = rest_is c

pub returns-clause-words : goal.returns-clause-words
returns-clause-words c = ap words (rest_is c) ∙ words-from_word c.args.count c.args.text.now
