use Rattle.std.proofs.Common.{ℕ, List, ◌∙◌, ap}
use Rattle.rx_vars.specs.Tables.{table_of, with_entry}
use Rattle.rx_vars.specs.Names.{with_stem}
use Rattle.rx_vars.proofs.TableLemmas.{with_entry-entries}
use Rattle.rx_vars.proofs.names.Names.insert_stem.Goals as goal

pub returns-clause-ok : goal.returns-clause-ok
returns-clause-ok g c =
    ap (λ stems. record { simple = c.self.inside.simple; stems = stems })
    (ap table_of c.in_ok-insert.ensures.entries
    ∙ with_entry-entries c.self.inside.stems.entries c.in_ok-key.key c.args.row
    ∙ ap (λ (name : List ℕ). with_entry (table_of c.self.inside.stems.entries) name c.args.row) c.in_ok-key.ensures.items)
    ∙ ap (λ names. with_stem names c.args.stem.now c.args.row) c.self.view_is
