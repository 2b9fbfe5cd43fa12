use Rattle.std.proofs.Common.{ℕ, List, Option}
use Rattle.std.proofs.lemmas.Result.{IfOk-weaker}
use Rattle.rx_packages.specs.Checking.{IsChecked}
use Rattle.rx_top.specs.Conclusions.{ChecksFile, IsToldOf}
use Rattle.rx_top.specs.Ports.{supplies}
use Rattle.rx_top.proofs.Loads.{checks-source}
use Rattle.rx_top.proofs.checking.check_file.Goals as goal

pub returns-in-Bytes-clause-conclusion : goal.returns-in-Bytes-clause-conclusion
returns-in-Bytes-clause-conclusion g c =
    let checked : IsChecked c.in-Bytes.source.items c.check_source.result = rw c.as_slice.ensures.value at c.check_source.ensures.checked in
    IfOk-weaker c.tell_checked.result (IsToldOf c.check_source.result)
    (λ told. (input : Option (List ℕ)) (faults : ℕ) → ChecksFile c.args.name.now
    (supplies (g.F.Shelf.files c.args.shelf.now) (g.F.Shelf.faults c.args.shelf.now) input faults)
    (supplies (g.F.Shelf.files c.fetch.new.self) (g.F.Shelf.faults c.fetch.new.self) input faults) told)
    (λ told ran. checks-source (g.F.Shelf.files c.args.shelf.now) (g.F.Shelf.files c.fetch.new.self) (g.F.Shelf.faults c.args.shelf.now)
    (g.F.Shelf.faults c.fetch.new.self) c.args.name.now c.in-Bytes.source c.check_source.result told c.in-Bytes.ensures.bytes checked ran)
    c.tell_checked.ensures
