use Rattle.std.proofs.Common.{◌<◌, ◌∙◌, List, ℕ, ap, sym, subst, length}
use Rattle.rx_pools.specs.Pools.{Pools, cell_in, with_numbered_cell}
use Rattle.rx_pools.proofs.PoolLemmas.{cell_in-numbered}
use Rattle.rx_pools.proofs.pools.Pools.cell.Goals as goal

pub returns-in-Ok-clause-cell : goal.returns-in-Ok-clause-cell
returns-in-Ok-clause-cell c =
    let before : Pools = record { pools = (Rattle.rx_pools.specs.Entries.pools_of c.self.inside.pools.entries); counts = c.push.new.self.items } in
    let within : c.args.number < length before.pools = subst (λ (a : Pools). c.args.number < length a.pools) (sym c.self.view_is) c.requires in
    sym (ap (λ (a : Pools). cell_in a c.args.number c.args.name.now) c.in-Ok.ensures.ok
    ∙ ap (λ (name : List ℕ). cell_in (with_numbered_cell before c.args.number name c.len-cell.result) c.args.number c.args.name.now) c.bytes-2.ensures.bytes
    ∙ cell_in-numbered before c.args.number c.args.name.now c.len-cell.result within)
