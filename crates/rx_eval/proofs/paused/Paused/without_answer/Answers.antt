use Rattle.std.proofs.Common.{◌≡◌, false, ap, ◌∙◌}
use Rattle.std.specs.Arc.{arc_value}
use Rattle.rx_eval.proofs.PauseLemmas.{unanswered}
use Rattle.rx_eval.proofs.paused.Paused.without_answer.Goals as goal

pub at-requires : goal.at-requires
at-requires c =
    let dropped : c.self.inside.kept ≡ false = ap (λ pause. pause.kept) c.self.view_is ∙ c.requires in
    record { placed = unanswered (record { code = arc_value c.self.inside.code; place = c.self.inside.place; values = c.self.inside.values; kept = c.self.inside.kept }) dropped c.self.invariant }
