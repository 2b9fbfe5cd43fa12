use Rattle.std.proofs.Common.{◌∙◌, ◌≤◌, ◌+◌, ◌-◌, ap, refl, sym, arith, length, rules, Some}
use Rattle.std.proofs.lemmas.Option.{slice_get-get_or}
use Rattle.rx_frames.specs.Frames.{IsShared}
use Rattle.rx_frames.proofs.RunLemmas.{IsRun-more}
use Rattle.rx_frames.proofs.activity.run_at.Goals as goal

pub overflow_add-result : goal.overflow_add-result
overflow_add-result c =
    let few : c.in-Some.run'.now ≤ length c.args.runs.now - 1 + 1 = c.requires.counted.within (length c.args.runs.now - 1) c.in-Some.run'.now (sym c.in-Some.ensures.value) in
    omega (arith, c.requires.few, c.requires.within, c.requires.next)

pub returns-in-Some-clause-shared : goal.returns-in-Some-clause-shared
returns-in-Some-clause-shared c =
    let is : IsShared c.index-frames-place.result.variables = search rules in
    IsRun-more c.args.runs.now c.args.frames.now c.args.place c.index-frames-place.result (Some c.in-Some.run'.now) c.in-Some.run'.now
    c.requires.counted c.requires.next
    (slice_get-get_or c.args.frames.now c.args.place c.index-frames-place.result c.requires.within ∙ ap (λ f. Some f) (sym c.index-frames-place.is))
    is c.in-Some.ensures.value (ap (λ n. Some n) refl)
