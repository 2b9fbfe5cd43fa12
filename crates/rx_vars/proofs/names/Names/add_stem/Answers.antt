use Rattle.std.proofs.Common.{◌∙◌, ap}
use Rattle.rx_vars.specs.Names.{with_own, with_stem}
use Rattle.rx_vars.proofs.NameLemmas.{names_of, stem_in-absent, stem_in-found, stem_inserted, with_stem-written}
use Rattle.rx_vars.proofs.names.Names.add_stem.Goals as goal

pub returns-in-Some-clause-ok : goal.returns-in-Some-clause-ok
returns-in-Some-clause-ok g c =
    let row = c.in-Some.row.now in
    let there = stem_in-found c.self.inside.simple c.self.inside.stems.entries c.args.self.now c.args.stem.now row c.self.view_is c.in-Some.ensures.value in
    with_stem-written c.self.inside.simple c.self.inside.stems.entries _ c.args.self.now c.args.stem.now c.add_own.new.self row
    c.self.view_is c.in-Some.ensures.value (c.get_mut.follows.holds c.add_own.new.self).0
    ∙ ap (λ r. with_stem c.args.self.now c.args.stem.now r) (c.add_own.ensures ∙ ap (λ r. with_own r c.args.value) there)

pub returns-in-None-clause-ok : goal.returns-in-None-clause-ok
returns-in-None-clause-ok g c =
    let absent = stem_in-absent c.self.inside.simple c.self.inside.stems.entries c.args.self.now c.args.stem.now c.self.view_is c.in-None.ensures.value in
    let row = c.add_own-in-None.ensures ∙ ap (λ r. with_own r c.args.value) (c.new-row.ensures ∙ absent) in
    let self = ap (λ stems. names_of c.self.inside.simple stems.entries) c.get_mut.follows.holds-at-none ∙ c.self.view_is in
    stem_inserted c.insert_stem.result c.insert_stem.new.self _ c.args.self.now c.args.stem.now _ _ self row c.insert_stem.ensures.ok
