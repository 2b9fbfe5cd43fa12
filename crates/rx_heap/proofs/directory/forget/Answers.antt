use Rattle.std.proofs.Common.{sym, ◌∙◌}
use Rattle.rx_vars.proofs.TableLemmas.{look_up-entries}
use Rattle.rx_heap.proofs.StampLemmas.{stay}
use Rattle.rx_heap.proofs.directory.forget.Goals as goal

pub returns-clause-stamp : goal.returns-clause-stamp
returns-clause-stamp c = c.swap_remove.ensures.value ∙ look_up-entries c.args.stamps.now.entries c.args.name.now

pub returns-clause-gone : goal.returns-clause-gone
returns-clause-gone c = sym (look_up-entries c.swap_remove.new.self.entries c.args.name.now) ∙ c.swap_remove.ensures.updates.1

pub returns-clause-others : goal.returns-clause-others
returns-clause-others c = stay c.args.name.now c.args.stamps.now.entries c.swap_remove.new.self.entries c.swap_remove.ensures.updates.3
