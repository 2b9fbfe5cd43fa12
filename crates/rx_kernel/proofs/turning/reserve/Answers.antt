use Rattle.std.proofs.Common.{◌≡◌, ◌∙◌, ap, sym}
use Rattle.rx_frames.specs.Activities.{with_frame}
use Rattle.rx_kernel.proofs.TopLemmas.{OnFalse-map, top-same}
use Rattle.rx_kernel.proofs.turning.reserve.Goals as goal

pub returns-in-Some-clause-same : goal.returns-in-Some-clause-same
returns-in-Some-clause-same c =
    OnFalse-map c.reserve.result _ _
    (λ (is : c.reserve.new.self ≡ c.in-Some.frame.now).
    ap (with_frame c.args.stacks.now c.args.a 0) is ∙ top-same c.args.stacks.now c.args.a c.in-Some.frame.now (sym c.in-Some.ensures.frame))
    c.reserve.ensures.same
