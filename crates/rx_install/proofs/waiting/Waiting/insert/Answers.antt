use Rattle.std.proofs.Common.{ℕ, List, ◌∙◌, ap}
use Rattle.rx_vars.specs.Tables.{table_of, with_entry}
use Rattle.rx_vars.proofs.TableLemmas.{with_entry-entries}
use Rattle.rx_install.proofs.WaitingLemmas.{changes-with}
use Rattle.rx_install.proofs.waiting.Waiting.insert.Goals as goal

pub returns : goal.returns
returns c =
    changes-with c.args.self.now (table_of c.insert.new.self.entries) c.args.name.now c.args.list
    (ap table_of c.in_ok-insert.ensures.entries
    ∙ with_entry-entries c.self.inside.lists.entries c.in_ok-key.key c.args.list
    ∙ ap (λ (name : List ℕ). with_entry (table_of c.self.inside.lists.entries) name c.args.list) c.in_ok-key.ensures.items
    ∙ ap (λ table. with_entry table c.args.name.now c.args.list) c.self.view_is)
