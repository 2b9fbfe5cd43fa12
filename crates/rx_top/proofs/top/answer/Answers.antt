use Rattle.std.proofs.lemmas.Result.{IfOk-weaker}
use Rattle.rx_top.specs.Conclusions.{Fulfils, IsConclusion}
use Rattle.rx_top.specs.Ports.{Supplies, supplies}
use Rattle.rx_top.proofs.top.answer.Goals as goal

pub returns-in-Ok-clause-conclusion : goal.returns-in-Ok-clause-conclusion
returns-in-Ok-clause-conclusion g c =
    let before : Supplies = supplies (g.F.Shelf.files c.args.shelf.now) (g.F.Shelf.faults c.args.shelf.now) (g.I.Source.left c.args.input.now) (g.I.Source.faults c.args.input.now) in
    let now : Supplies = supplies (g.F.Shelf.files c.fulfil.new.shelf) (g.F.Shelf.faults c.fulfil.new.shelf) (g.I.Source.left c.fulfil.new.input) (g.I.Source.faults c.fulfil.new.input) in
    IfOk-weaker c.fulfil.result (Fulfils c.in-Ok.asks before now) (IsConclusion _ before now) (λ told fulfils. fulfils _ c.in-Ok.ensures.reading)
    c.fulfil.ensures.conclusion
