use Rattle.std.proofs.Common.{ℕ, List, sym, ap, subst, ◌∙◌}
use Rattle.rx_vars.specs.Tables.{look_up, table_of}
use Rattle.rx_vars.proofs.TableLemmas.{look_up-entries}
use Rattle.rx_heap.specs.Stamps.{Stay}
use Rattle.rx_heap.proofs.StampLemmas.{stay}
use Rattle.rx_heap.proofs.directory.give.Goals as goal

pub returns-clause-stamp : goal.returns-clause-stamp
returns-clause-stamp c =
    ap (λ (name : List ℕ). look_up (table_of c.insert.new.self.entries) name) (sym c.in_ok-key.ensures.items)
    ∙ sym (look_up-entries c.insert.new.self.entries c.in_ok-key.key.items) ∙ c.in_ok-insert.ensures.updates.1

pub returns-clause-others : goal.returns-clause-others
returns-clause-others c =
    subst (λ (name : List ℕ). Stay name (table_of c.args.stamps.now.entries) (table_of c.insert.new.self.entries)) c.in_ok-key.ensures.items
    (stay c.in_ok-key.key.items c.args.stamps.now.entries c.insert.new.self.entries c.in_ok-insert.ensures.updates.3)
