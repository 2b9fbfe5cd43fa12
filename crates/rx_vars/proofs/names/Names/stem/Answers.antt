use Rattle.std.proofs.Common.{◌∙◌, ap}
use Rattle.rx_vars.specs.Tables.{look_up}
use Rattle.rx_vars.proofs.TableLemmas.{look_up-entries}
use Rattle.rx_vars.proofs.names.Names.stem.Goals as goal

pub returns : goal.returns
returns g c =
    c.get.ensures.value
    ∙ look_up-entries c.self.inside.stems.entries c.args.stem.now
    ∙ ap (λ names. look_up names.stems c.args.stem.now) c.self.view_is
