use Rattle.std.proofs.Common.{◌≡◌, ◌∙◌, ap, sym, arith}
use Rattle.indexmap.proofs.MapLemmas.{OnOk-map}
use Rattle.indexmap.specs.IndexMap.{set_value_at}
use Rattle.indexmap.specs.Layout.{length-set_value_at}
use Rattle.rx_vars.specs.Names.{changed}
use Rattle.rx_vars.proofs.NameLemmas.{OnErr-map}
use Rattle.rx_pools.specs.Pools.{Pool, with_rows_changed}
use Rattle.rx_pools.specs.Entries.{pools_of}
use Rattle.rx_pools.proofs.PoolLemmas.{pools_of-same, pools_of-written}
use Rattle.rx_pools.proofs.pools.Pools.change_rows.Goals as goal

pub invariant_of-self-2 : goal.invariant_of-self-2
invariant_of-self-2 c =
    omega (arith, length-set_value_at c.self.inside.pools.entries c.args.number (record c.in-Some.pool.now { rows = c.change.new.self }), c.self.invariant)

pub returns-clause-ok : goal.returns-clause-ok
returns-clause-ok c =
    let kept = c.in-Some.pool.now in
    OnOk-map c.change.result _ _
    (λ (is : c.change.new.self ≡ changed kept.rows c.args.name.now c.args.value).
    ap (λ pools. record { pools = pools; counts = c.self.inside.counts.items })
    (pools_of-written c.self.inside.pools.entries c.args.number kept (record kept { rows = c.change.new.self })
    (λ (pool : Pool). record pool { rows = changed pool.rows c.args.name.now c.args.value }) (sym c.in-Some.ensures.value)
    (λ key. ap (λ rows. record { object = key.0; scope = record { class = key.1; class_side = key.2 }; rows = rows; cells = kept.cells }) is))
    ∙ ap (λ all. with_rows_changed all c.args.number c.args.name.now c.args.value) c.self.view_is)
    c.change.ensures.ok

pub returns-clause-err : goal.returns-clause-err
returns-clause-err c =
    let kept = c.in-Some.pool.now in
    OnErr-map c.change.result _ _
    (λ (is : c.change.new.self ≡ kept.rows).
    ap (λ rows. record { pools = pools_of (set_value_at c.self.inside.pools.entries c.args.number (record kept { rows = rows })); counts = c.self.inside.counts.items }) is
    ∙ ap (λ pools. record { pools = pools; counts = c.self.inside.counts.items }) (pools_of-same c.self.inside.pools.entries c.args.number kept (sym c.in-Some.ensures.value))
    ∙ c.self.view_is)
    c.change.ensures.err
