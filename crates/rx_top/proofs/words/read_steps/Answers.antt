use Rattle.std.proofs.Common.{sym, ◌∙◌, pos}
use Rattle.rx_top.proofs.WordLemmas.{none-unread}
use Rattle.rx_top.proofs.words.read_steps.Goals as goal

pub returns-in_default : goal.returns-in_default
returns-in_default c = sym (none-unread c.args.word.now (λ number is. c.in_default.not-Whole (pos number) (c.read_number.ensures.numeral ∙ is)))
