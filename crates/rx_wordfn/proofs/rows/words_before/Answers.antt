use Rattle.std.proofs.Common.{◌≡◌, ℕ, List, None, Some, take, sym, ap, ◌∙◌}
use Rattle.std.specs.Prelude.{count_by}
use Rattle.rx_wordfn.specs.Lines.{line}
use Rattle.rx_wordfn.specs.Words.{words}
use Rattle.rx_wordfn.proofs.RowLemmas.{found_lines, is_space}
use Rattle.rx_wordfn.proofs.rows.words_before.Goals as goal

pub returns-in_default : goal.returns-in_default
returns-in_default c =
    let hay : c.deref.result.now ≡ line (words c.args.text.now) = c.deref.ensures.value ∙ c.in_ok-line.ensures in
    let needle : c.deref-2.result.now ≡ line (words c.args.phrase.now) = c.deref-2.ensures.value ∙ c.in_ok-row.ensures in
    found_lines c.args.phrase.now c.args.text.now c.deref.result.now c.deref-2.result.now hay needle c.requires None c.in_default.ensures

pub returns : goal.returns
returns c =
    let hay : c.deref.result.now ≡ line (words c.args.text.now) = c.deref.ensures.value ∙ c.in_ok-line.ensures in
    let needle : c.deref-2.result.now ≡ line (words c.args.phrase.now) = c.deref-2.ensures.value ∙ c.in_ok-row.ensures in
    let same : c.deref-3.result.now ≡ c.deref.result.now = c.deref-3.ensures.value ∙ sym c.deref.ensures.value in
    ap (λ (n : ℕ). Some n) (c.spaces.ensures ∙ ap (λ (t : List ℕ). count_by is_space (take c.in-Some.at t)) same) ∙
    found_lines c.args.phrase.now c.args.text.now c.deref.result.now c.deref-2.result.now hay needle c.requires (Some c.in-Some.at) c.in-Some.ensures
