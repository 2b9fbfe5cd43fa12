use Rattle.std.proofs.Common.{◌≡◌, ◌∙◌, ap, sym, arith}
use Rattle.indexmap.proofs.MapLemmas.{OnOk-map}
use Rattle.indexmap.specs.IndexMap.{set_value_at}
use Rattle.indexmap.specs.Layout.{length-set_value_at}
use Rattle.rx_vars.specs.Tables.{with_entry}
use Rattle.rx_vars.proofs.NameLemmas.{OnErr-map}
use Rattle.rx_pools.specs.Pools.{Pool, with_numbered_cell}
use Rattle.rx_pools.specs.Entries.{pools_of}
use Rattle.rx_pools.proofs.PoolLemmas.{pools_of-same, pools_of-written}
use Rattle.rx_pools.proofs.pools.Pools.insert_cell.Goals as goal

pub invariant_of-self-2 : goal.invariant_of-self-2
invariant_of-self-2 c =
    omega (arith, length-set_value_at c.self.inside.pools.entries c.args.number (record c.in-Some.pool.now { cells = c.insert.new.self }), c.self.invariant)

pub returns-clause-ok : goal.returns-clause-ok
returns-clause-ok c =
    let kept = c.in-Some.pool.now in
    OnOk-map c.insert.result _ _
    (λ (is : c.insert.new.self ≡ with_entry kept.cells c.args.name.now c.args.cell).
    ap (λ pools. record { pools = pools; counts = c.self.inside.counts.items })
    (pools_of-written c.self.inside.pools.entries c.args.number kept (record kept { cells = c.insert.new.self })
    (λ (pool : Pool). record pool { cells = with_entry pool.cells c.args.name.now c.args.cell }) (sym c.in-Some.ensures.value)
    (λ key. ap (λ cells. record { object = key.0; scope = record { class = key.1; class_side = key.2 }; rows = kept.rows; cells = cells }) is))
    ∙ ap (λ all. with_numbered_cell all c.args.number c.args.name.now c.args.cell) c.self.view_is)
    c.insert.ensures.ok

pub returns-clause-err : goal.returns-clause-err
returns-clause-err c =
    let kept = c.in-Some.pool.now in
    OnErr-map c.insert.result _ _
    (λ (is : c.insert.new.self ≡ kept.cells).
    ap (λ cells. record { pools = pools_of (set_value_at c.self.inside.pools.entries c.args.number (record kept { cells = cells })); counts = c.self.inside.counts.items }) is
    ∙ ap (λ pools. record { pools = pools; counts = c.self.inside.counts.items }) (pools_of-same c.self.inside.pools.entries c.args.number kept (sym c.in-Some.ensures.value))
    ∙ c.self.view_is)
    c.insert.ensures.err
