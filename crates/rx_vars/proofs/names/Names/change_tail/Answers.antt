use Rattle.std.proofs.Common.{ap}
use Rattle.rx_vars.specs.Names.{with_tail}
use Rattle.rx_vars.proofs.NameLemmas.{absent_changed, found_changed, found_same}
use Rattle.rx_vars.proofs.names.Names.change_tail.Goals as goal

pub returns-in-Some-clause-ok : goal.returns-in-Some-clause-ok
returns-in-Some-clause-ok g c =
    found_changed c.change.result c.self.inside.simple c.self.inside.stems.entries _ c.args.self.now c.args.stem.now c.in-Some.row.now c.change.new.self
    (λ row. with_tail row c.args.tail.now c.args.value) c.self.view_is c.in-Some.ensures.value (c.get_mut.follows.holds c.change.new.self).0 c.change.ensures.ok

pub returns-in-Some-clause-err : goal.returns-in-Some-clause-err
returns-in-Some-clause-err g c =
    found_same c.change.result c.self.inside.simple c.self.inside.stems.entries _ c.args.self.now c.args.stem.now c.in-Some.row.now c.change.new.self
    c.self.view_is c.in-Some.ensures.value (c.get_mut.follows.holds c.change.new.self).0 c.change.ensures.err

pub returns-in_ok-change-in-None-clause-ok : goal.returns-in_ok-change-in-None-clause-ok
returns-in_ok-change-in-None-clause-ok g c =
    absent_changed c.insert_stem.result c.insert_stem.new.self c.self.inside.simple c.self.inside.stems.entries _ c.args.self.now c.args.stem.now
    c.change-in-None.new.self c.new-row.result (λ row. with_tail row c.args.tail.now c.args.value) c.self.view_is c.in-None.ensures.value
    (ap (λ stems. stems.entries) c.get_mut.follows.holds-at-none) c.new-row.ensures c.in_ok-change-in-None.ensures.ok c.insert_stem.ensures.ok
