use Rattle.std.proofs.Common.{◌∙◌, ap}
use Rattle.rx_vars.specs.Tables.{table_of, without_entry}
use Rattle.rx_vars.proofs.TableLemmas.{without_entry-entries}
use Rattle.rx_vars.proofs.table.Table.remove.Goals as goal

pub returns : goal.returns
returns g c =
    ap table_of c.swap_remove.ensures.entries
    ∙ without_entry-entries c.self.inside.entries.entries c.args.name.now
    ∙ ap (λ table. without_entry table c.args.name.now) c.self.view_is
