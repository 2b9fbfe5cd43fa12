use Rattle.std.proofs.Common.{◌≡◌, ◌++◌, ℕ, List, Ok, replicate, sym, ap, ◌∙◌, append-nil}
use Rattle.rx_wordfn.specs.Functions.{space, spaced}
use Rattle.rx_wordfn.specs.Words.{words}
use Rattle.rx_wordfn.proofs.AnswerLemmas.{gives, raises}
use Rattle.rx_wordfn.proofs.SpaceLemmas.{led, space-fits, space-long}
use Rattle.rx_wordfn.proofs.spacing.space.Goals as goal

pub returns-then-not-fits : goal.returns-then-not-fits
returns-then-not-fits c = record {
  answer =
      raises (space c.args.n c.args.pad c.args.text.now) 5
      (space-long c.args.n c.args.pad c.unwrap_or-gap.result c.args.text.now c.unwrap_or-gap.ensures (sym c.fits.ensures ∙ c.if-not-fits.true));
}

pub returns : goal.returns
returns c =
    let gap : List ℕ = replicate c.unwrap_or-gap.result c.args.pad in
    let none = ap (led gap) c.in_default-next_word.ensures.none in
    let built : c.loop-word.bytes.items ≡ spaced gap (words c.args.text.now) =
    sym (append-nil c.loop-word.bytes.items) ∙ ap (λ (t : List ℕ). c.loop-word.bytes.items ++ t) (sym none) ∙ c.loop-word.invariant in
    record {
      answer =
          gives (space c.args.n c.args.pad c.args.text.now) c.loop-word.bytes
          (space-fits c.args.n c.args.pad c.unwrap_or-gap.result c.args.text.now c.unwrap_or-gap.ensures (sym c.fits.ensures ∙ c.if-not-fits.false) ∙
          ap (λ (t : List ℕ). Ok t) (sym built));
    }
