use Rattle.std.proofs.Common.{◌≡◌, sym, ◌∙◌, arith}
use Rattle.rx_flow.proofs.FindLemmas.{jump_forth, jump_back, jump_ends}
use Rattle.rx_flow.proofs.finding.look_at_jump.Goals as goal

pub returns-then-to-place : goal.returns-then-to-place
returns-then-to-place c = (c.if-to-place.true, jump_forth _ _ _ _ c.requires.stands c.requires.here)

pub returns-in-None : goal.returns-in-None
returns-in-None c =
    let far = c.if-to-place.false in
    jump_ends _ _ _ _ c.requires.stands c.requires.here (λ near. omega arith) (λ next is on. let is_none = sym c.jump_at.ensures ∙ c.in-None.is in cc)

pub returns-then-next-place : goal.returns-then-next-place
returns-then-next-place c = (c.if-next-place.true, jump_back _ _ _ _ _ c.requires.stands c.requires.here (sym c.jump_at.ensures ∙ c.in-Some.is))

pub returns-else-next-place : goal.returns-else-next-place
returns-else-next-place c =
    let far = c.if-to-place.false in
    jump_ends _ _ _ _ c.requires.stands c.requires.here (λ near. omega arith)
    (λ next is on.
    let some = sym is ∙ (sym c.jump_at.ensures ∙ c.in-Some.is) in
    let same : next ≡ c.in-Some.next = cc in
    let below = c.if-next-place.false in
    omega arith)
