use Rattle.std.proofs.Common.{◌≡◌, ◌++◌, drop}
use Rattle.std.specs.Prelude.{map}
use Rattle.rx_top.specs.Words.{with_blanks}
use Rattle.rx_top.proofs.words.join.Given as goal

-- the text so far, and the words that are left
abbrev pub invariant-loop-word : goal.invariant-loop-word
invariant-loop-word l =
    l.text.items ++ with_blanks (map (λ word. word.items) (drop l.word-index l.words)) ≡ l.first ++ with_blanks (map (λ word. word.items) l.words)
