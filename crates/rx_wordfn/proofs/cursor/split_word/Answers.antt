use Rattle.std.proofs.Common.{ℕ, length, take, drop, ap, ◌∙◌}
use Rattle.std.specs.Prelude.{unwrap_or}
use Rattle.rx_wordfn.proofs.WordLemmas.{first-or-length}
use Rattle.rx_wordfn.proofs.cursor.split_word.Goals as goal

pub returns-clause-word : goal.returns-clause-word
returns-clause-word c =
    c.split_at.ensures.front ∙
    ap (λ (n : ℕ). take n c.args.text.now)
    (c.unwrap_or.ensures ∙ ap (λ p. unwrap_or p (length c.args.text.now)) c.first_blank.ensures ∙ first-or-length c.args.text.now)

pub returns-clause-behind : goal.returns-clause-behind
returns-clause-behind c =
    c.split_at.ensures.back ∙
    ap (λ (n : ℕ). drop n c.args.text.now)
    (c.unwrap_or.ensures ∙ ap (λ p. unwrap_or p (length c.args.text.now)) c.first_blank.ensures ∙ first-or-length c.args.text.now)
