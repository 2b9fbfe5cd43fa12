use Rattle.std.proofs.Common.{◌∙◌, ap}
use Rattle.rx_vars.specs.Names.{with_stem}
use Rattle.rx_vars.proofs.NameLemmas.{with_stem-written}
use Rattle.rx_vars.proofs.names.Names.change_stem.Goals as goal

pub returns-in-Some-clause-ok : goal.returns-in-Some-clause-ok
returns-in-Some-clause-ok g c =
    let tails = c.replace.ensures.after ∙ c.new-tails.ensures in
    with_stem-written c.self.inside.simple c.self.inside.stems.entries _ c.args.self.now c.args.stem.now _ c.in-Some.row.now
    c.self.view_is c.in-Some.ensures.value (c.get_mut.follows.holds (record { own = c.args.own; tails = c.replace.new.dest })).0
    ∙ ap (λ ts. with_stem c.args.self.now c.args.stem.now (record { own = c.args.own; tails = ts })) tails
