use Rattle.std.proofs.Common.{[], refl}
use Rattle.std.proofs.lemmas.Result.{IfOk-weaker}
use Rattle.rx_top.specs.Conclusions.{IsRefusal, RanNothing, RunsFile, line_bad, unbuilt}
use Rattle.rx_top.specs.Ports.{Supplies, supplies}
use Rattle.rx_top.specs.Runs.{IsPlayed}
use Rattle.rx_top.proofs.Endings.{runs-found, runs-refused, runs-unbuilt}
use Rattle.rx_top.proofs.top.run_file.Goals as goal

pub returns-in-Found-clause-conclusion : goal.returns-in-Found-clause-conclusion
returns-in-Found-clause-conclusion g c =
    let before : Supplies = supplies (g.F.Shelf.files c.args.shelf.now) (g.F.Shelf.faults c.args.shelf.now) (g.I.Source.left c.args.input.now) (g.I.Source.faults c.args.input.now) in
    let now : Supplies = supplies (g.F.Shelf.files c.load.new.shelf) (g.F.Shelf.faults c.load.new.shelf) (g.I.Source.left c.play.new.input) (g.I.Source.faults c.play.new.input) in
    IfOk-weaker c.play.result
    (IsPlayed c.in-Found.program c.args.argument c.args.steps (g.I.Source.left c.args.input.now) (g.I.Source.faults c.args.input.now)
    (g.I.Source.left c.play.new.input) (g.I.Source.faults c.play.new.input))
    (RunsFile c.args.name.now c.args.steps c.args.argument before now)
    (λ told is. runs-found before now c.in-Found.program c.args.name.now c.args.steps c.args.argument told c.in-Found.ensures.loaded is)
    c.play.ensures.played

pub returns-in-Unbuilt-clause-conclusion : goal.returns-in-Unbuilt-clause-conclusion
returns-in-Unbuilt-clause-conclusion g c =
    let before : Supplies = supplies (g.F.Shelf.files c.args.shelf.now) (g.F.Shelf.faults c.args.shelf.now) (g.I.Source.left c.args.input.now) (g.I.Source.faults c.args.input.now) in
    let now : Supplies = supplies (g.F.Shelf.files c.load.new.shelf) (g.F.Shelf.faults c.load.new.shelf) (g.I.Source.left c.args.input.now) (g.I.Source.faults c.args.input.now) in
    IfOk-weaker c.tell_bad.result (RanNothing 240 [] (line_bad c.in-Unbuilt.line unbuilt)) (RunsFile c.args.name.now c.args.steps c.args.argument before now)
    (λ told ran. runs-unbuilt before now c.args.name.now c.in-Unbuilt.line c.args.steps c.args.argument told c.in-Unbuilt.ensures.loaded refl ran)
    c.tell_bad.ensures

pub returns-in-Refused-clause-conclusion : goal.returns-in-Refused-clause-conclusion
returns-in-Refused-clause-conclusion g c =
    let before : Supplies = supplies (g.F.Shelf.files c.args.shelf.now) (g.F.Shelf.faults c.args.shelf.now) (g.I.Source.left c.args.input.now) (g.I.Source.faults c.args.input.now) in
    let now : Supplies = supplies (g.F.Shelf.files c.load.new.shelf) (g.F.Shelf.faults c.load.new.shelf) (g.I.Source.left c.args.input.now) (g.I.Source.faults c.args.input.now) in
    IfOk-weaker c.tell_refused.result (IsRefusal c.in-Refused.refused) (RunsFile c.args.name.now c.args.steps c.args.argument before now)
    (λ told is. runs-refused before now c.args.name.now c.args.steps c.args.argument c.in-Refused.refused told c.in-Refused.ensures.loaded refl is)
    c.tell_refused.ensures
