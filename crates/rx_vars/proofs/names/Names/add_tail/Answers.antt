use Rattle.std.proofs.Common.{ap}
use Rattle.rx_vars.specs.Names.{with_new_tail}
use Rattle.rx_vars.proofs.NameLemmas.{absent_changed, found_changed, found_same}
use Rattle.rx_vars.proofs.names.Names.add_tail.Goals as goal

pub returns-in-Some-clause-ok : goal.returns-in-Some-clause-ok
returns-in-Some-clause-ok g c =
    found_changed c.add.result c.self.inside.simple c.self.inside.stems.entries _ c.args.self.now c.args.stem.now c.in-Some.row.now c.add.new.self
    (λ row. with_new_tail row c.args.tail.now c.args.value) c.self.view_is c.in-Some.ensures.value (c.get_mut.follows.holds c.add.new.self).0 c.add.ensures.ok

pub returns-in-Some-clause-err : goal.returns-in-Some-clause-err
returns-in-Some-clause-err g c =
    found_same c.add.result c.self.inside.simple c.self.inside.stems.entries _ c.args.self.now c.args.stem.now c.in-Some.row.now c.add.new.self
    c.self.view_is c.in-Some.ensures.value (c.get_mut.follows.holds c.add.new.self).0 c.add.ensures.err

pub returns-in_ok-add-in-None-clause-ok : goal.returns-in_ok-add-in-None-clause-ok
returns-in_ok-add-in-None-clause-ok g c =
    absent_changed c.insert_stem.result c.insert_stem.new.self c.self.inside.simple c.self.inside.stems.entries _ c.args.self.now c.args.stem.now
    c.add-in-None.new.self c.new-row.result (λ row. with_new_tail row c.args.tail.now c.args.value) c.self.view_is c.in-None.ensures.value
    (ap (λ stems. stems.entries) c.get_mut.follows.holds-at-none) c.new-row.ensures c.in_ok-add-in-None.ensures.ok c.insert_stem.ensures.ok
