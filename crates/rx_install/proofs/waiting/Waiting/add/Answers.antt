use Rattle.std.proofs.Common.{ap, ◌∙◌}
use Rattle.rx_vars.specs.Tables.{table_of}
use Rattle.rx_install.proofs.WaitingLemmas.{absent-added, changes-written, found-added, waiters-absent, waiters-found}
use Rattle.rx_install.proofs.waiting.Waiting.add.Goals as goal

pub returns-in_ok-push-in-Some : goal.returns-in_ok-push-in-Some
returns-in_ok-push-in-Some c =
    let entries = c.self.inside.lists.entries in
    let new = (c.get_mut.follows.lender c.push.new.self).entries in
    found-added c.args.self.now (table_of new) c.args.name.now c.in-Some.list.now c.push.new.self c.args.waiter
    (waiters-found entries c.args.self.now c.args.name.now c.self.view_is c.in-Some.list.now c.in-Some.ensures.value) c.in_ok-push-in-Some.ensures.ok
    (changes-written entries c.args.self.now c.args.name.now c.self.view_is new c.in-Some.list.now c.push.new.self c.in-Some.ensures.value
    (c.get_mut.follows.holds c.push.new.self).0)

pub returns-in_ok-push-in-None : goal.returns-in_ok-push-in-None
returns-in_ok-push-in-None c =
    let entries = c.self.inside.lists.entries in
    absent-added c.insert.result _ c.args.self.now c.insert.new.self c.args.name.now c.push-in-None.new.self c.new-list.result c.args.waiter
    (ap (λ lists. table_of lists.entries) c.get_mut.follows.holds-at-none ∙ c.self.view_is)
    (waiters-absent entries c.args.self.now c.args.name.now c.self.view_is c.in-None.ensures.value) c.in_ok-push-in-None.ensures.ok
    c.new-list.ensures c.insert.ensures
