use Rattle.std.proofs.Common.{◌≡◌, w64, sym, ◌∙◌, ap}
use Rattle.std.specs.Prelude.{unsigned_abs}
use Rattle.std.proofs.lemmas.Int.{to_z-of_z}
use Rattle.rx_top.specs.Words.{is_number_between}
use Rattle.rx_top.proofs.WordLemmas.{number-found, none-otherwise}
use Rattle.rx_top.proofs.words.steps_read.Goals as goal

pub returns-then-are_steps : goal.returns-then-are_steps
returns-then-are_steps c = sym (number-found c.args.word.now c.unsigned_abs-steps.result (sym c.are_steps.ensures ∙ c.if-are_steps.true))

pub returns-else-are_steps : goal.returns-else-are_steps
returns-else-are_steps c =
    let steps : c.unsigned_abs-steps.result ≡ unsigned_abs c.args.number =
    c.unsigned_abs-steps.ensures.value ∙ ap unsigned_abs (to_z-of_z w64 c.args.number c.ranges.number) in
    sym (none-otherwise c.args.word.now c.args.number c.requires
    (ap (λ n. is_number_between 1 10000000 n c.args.word.now) (sym steps) ∙ (sym c.are_steps.ensures ∙ c.if-are_steps.false)))
