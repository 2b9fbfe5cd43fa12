use Rattle.std.proofs.Common.{◌≡◌, ◌∙◌, ℕ, Option, Some, None}
use Rattle.std.specs.Prelude.{MatchOption, option_to_list}
use Rattle.rx_frames.proofs.ActivityLemmas.{waiting-popped}
use Rattle.rx_frames.proofs.RunLemmas.{kept-popped}
use Rattle.rx_frames.proofs.activity.Activity.pop.Goals as goal

emptied : {A : Type 0} (result : Option A) (before after : ℕ) (P : A → Type 0) → MatchOption result ((before ≡ 0) × (after ≡ 0)) P → MatchOption result (after ≡ 0) (λ x. Unit {0})
emptied None before after P h = h.1
emptied (Some x) before after P h = tt

pub returns-clause-rest : goal.returns-clause-rest
returns-clause-rest c =
    waiting-popped c.self.inside.wait c.self.inside.frames.items c.pop-top.new.self.items c.pop-top.result c.args.self.now c.pop-top.new.self.len
    c.self.view_is c.pop-top.ensures.items c.pop-top.new.self.ok.0 (emptied c.pop-top.result _ _ _ c.pop-top.ensures.cases)

pub invariant_of-self : goal.invariant_of-self
invariant_of-self c =
    rw c.truncate.ensures.items
    (kept-popped c.self.inside.runs.items c.self.inside.frames.items c.pop-top.new.self.items (option_to_list c.pop-top.result) c.len.result
    c.self.invariant c.pop-top.ensures.items (c.len.ensures ∙ c.pop-top.new.self.ok.0))
