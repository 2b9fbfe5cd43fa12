use Rattle.std.proofs.Common.{ℕ, List, Option, rules}
use Rattle.std.proofs.lemmas.Result.{IfOk-weaker}
use Rattle.rx_top.specs.Conclusions.{ChecksFile, Fulfils, RunsFile}
use Rattle.rx_top.specs.Ports.{Supplies, supplies}
use Rattle.rx_top.proofs.top.fulfil.Goals as goal

pub returns-in-Run-clause-conclusion : goal.returns-in-Run-clause-conclusion
returns-in-Run-clause-conclusion g c =
    let before : Supplies = supplies (g.F.Shelf.files c.args.shelf.now) (g.F.Shelf.faults c.args.shelf.now) (g.I.Source.left c.args.input.now) (g.I.Source.faults c.args.input.now) in
    let now : Supplies = supplies (g.F.Shelf.files c.run_file.new.shelf) (g.F.Shelf.faults c.run_file.new.shelf) (g.I.Source.left c.run_file.new.input) (g.I.Source.faults c.run_file.new.input) in
    IfOk-weaker c.run_file.result (RunsFile c.as_slice.result.now c.in-Run.steps c.in-Run.arg before now) (Fulfils c.args.asks before now)
    (λ told runs words asked. runs words (record { workers = c.in-Run.workers; schedule = c.in-Run.schedule; asked = search rules }))
    c.run_file.ensures.conclusion

pub returns-clause-conclusion : goal.returns-clause-conclusion
returns-clause-conclusion g c =
    let before : Supplies = supplies (g.F.Shelf.files c.args.shelf.now) (g.F.Shelf.faults c.args.shelf.now) (g.I.Source.left c.args.input.now) (g.I.Source.faults c.args.input.now) in
    let now : Supplies = supplies (g.F.Shelf.files c.check_file.new.shelf) (g.F.Shelf.faults c.check_file.new.shelf) (g.I.Source.left c.args.input.now) (g.I.Source.faults c.args.input.now) in
    IfOk-weaker c.check_file.result
    (λ told. (input : Option (List ℕ)) (faults : ℕ) → ChecksFile c.as_slice-in-Check.result.now
    (supplies (g.F.Shelf.files c.args.shelf.now) (g.F.Shelf.faults c.args.shelf.now) input faults)
    (supplies (g.F.Shelf.files c.check_file.new.shelf) (g.F.Shelf.faults c.check_file.new.shelf) input faults) told)
    (Fulfils c.args.asks before now)
    (λ told checks words asked. checks (g.I.Source.left c.args.input.now) (g.I.Source.faults c.args.input.now) words (search rules))
    c.check_file.ensures.conclusion
