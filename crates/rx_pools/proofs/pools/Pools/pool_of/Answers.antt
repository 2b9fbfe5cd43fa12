use Rattle.std.proofs.Common.{◌∙◌, ap, Some}
use Rattle.indexmap.proofs.CallerLemmas.{insert_entry-new}
use Rattle.rx_vars.specs.Names.{no_names}
use Rattle.rx_pools.proofs.PoolLemmas.{key-absent, number-made, with_pool-made}
use Rattle.rx_pools.proofs.pools.Pools.pool_of.Goals as goal

pub returns-clause-ok : goal.returns-clause-ok
returns-clause-ok c =
    let absent = key-absent c.self.inside.pools.entries c.self.inside.counts.items c.args.self.now c.args.object c.args.scope c.self.view_is c.in_default.ensures in
    with_pool-made c.self.inside.pools.entries c.insert.new.self.entries c.self.inside.counts.items c.args.self.now c.args.object c.args.scope
    (record { rows = c.new.result; cells = c.new-2.result }) c.self.view_is c.in_default.ensures
    (c.in_ok-insert.ensures.entries ∙ insert_entry-new _ c.self.inside.pools (c.args.object, c.args.scope.class, c.args.scope.class_side) _ absent)
    (ap (λ rows. record { rows = rows; cells = c.new-2.result }) c.new.ensures ∙ ap (λ cells. record { rows = no_names; cells = cells }) c.new-2.ensures)

pub returns-clause-number : goal.returns-clause-number
returns-clause-number c =
    let absent = key-absent c.self.inside.pools.entries c.self.inside.counts.items c.args.self.now c.args.object c.args.scope c.self.view_is c.in_default.ensures in
    ap (λ n. Some n) c.len-number.ensures.len
    ∙ number-made c.self.inside.pools.entries c.insert.new.self.entries c.self.inside.counts.items c.args.self.now c.args.object c.args.scope
    (record { rows = c.new.result; cells = c.new-2.result }) c.self.view_is c.in_default.ensures
    (c.in_ok-insert.ensures.entries ∙ insert_entry-new _ c.self.inside.pools (c.args.object, c.args.scope.class, c.args.scope.class_side) _ absent)
    (ap (λ rows. record { rows = rows; cells = c.new-2.result }) c.new.ensures ∙ ap (λ cells. record { rows = no_names; cells = cells }) c.new-2.ensures)
