use Rattle.std.proofs.Common.{◌≡◌, ◌<◌, ◌≤◌, true, false, not, [], length, ap, subst, sym, ◌∙◌, rules}
use Rattle.std.specs.Arc.{arc_value}
use Rattle.rx_eval.specs.Pauses.{Pause, ends_wanted, is_bare, left_of}
use Rattle.rx_eval.specs.Places.{fits}
use Rattle.rx_eval.proofs.PauseLemmas.{dropped_plain, ends_bare, left_plain, valued_plain}
use Rattle.rx_eval.proofs.paused.Paused.is_bare.Goals as goal
use Rattle.rx_eval.proofs.paused.Paused.is_bare.Goals.{then-self, else-self, then-is_empty, else-is_empty}

pub returns-then-self-code : goal.returns-then-self-code
returns-then-self-code c =
    let inside = c.self.inside in
    let pause : Pause = record { code = arc_value inside.code; place = inside.place; values = inside.values; kept = inside.kept } in
    let fit : fits pause.code.body pause.code.instrs [] ≡ true =
    subst (λ code. fits code.body code.instrs [] ≡ true) c.deref.ensures (subst (λ instrs. fits c.deref.result.now.body instrs [] ≡ true) c.as_slice-code.ensures.value c.as_slice-code.ensures.whole) in
    let kept : inside.kept ≡ true =
    elim c.if-is_empty.branch [ then-is_empty w ↦ elim c.if-self.branch [ then-self v ↦ v.if-self.true | else-self v ↦ search rules ] | else-is_empty w ↦ search rules ] in
    let none : inside.values ≡ [] =
    elim c.if-is_empty.branch [ then-is_empty w ↦ elim c.if-self.branch [ then-self v ↦ search rules | else-self v ↦ search rules ] | else-is_empty w ↦ search rules ] in
    let end : length pause.code.instrs ≤ pause.place = elim c.if-is_empty.branch [ then-is_empty w ↦ search rules | else-is_empty w ↦ search rules ] in
    ap not (c.ends_wanted.ensures ∙ ap ends_wanted (c.as_slice-code.ensures.value ∙ ap (λ code. code.instrs) c.deref.ensures))
    ∙ sym (ends_bare pause fit c.self.invariant kept none end) ∙ ap (λ pause. is_bare (left_of pause)) c.self.view_is

pub returns-else-self-code : goal.returns-else-self-code
returns-else-self-code c =
    let inside = c.self.inside in
    let pause : Pause = record { code = arc_value inside.code; place = inside.place; values = inside.values; kept = inside.kept } in
    let fit : fits pause.code.body pause.code.instrs [] ≡ true =
    subst (λ code. fits code.body code.instrs [] ≡ true) c.deref.ensures (subst (λ instrs. fits c.deref.result.now.body instrs [] ≡ true) c.as_slice-code.ensures.value c.as_slice-code.ensures.whole) in
    let plain : is_bare (left_of pause) ≡ false =
    elim c.if-is_empty.branch [
      | then-is_empty w ↦ (let within : pause.place < length pause.code.instrs = search rules in left_plain pause fit c.self.invariant within)
      | else-is_empty w ↦ elim c.if-self.branch [
        | then-self v ↦ valued_plain pause fit c.self.invariant (λ p. search rules)
        | else-self v ↦ dropped_plain pause fit c.self.invariant v.if-self.false
      ]
    ] in
    c.if-self-code.false ∙ sym plain ∙ ap (λ pause. is_bare (left_of pause)) c.self.view_is
