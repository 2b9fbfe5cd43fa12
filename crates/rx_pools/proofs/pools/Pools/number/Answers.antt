use Rattle.std.proofs.Common.{◌∙◌, ap}
use Rattle.rx_pools.specs.Pools.{pool_number}
use Rattle.rx_pools.proofs.PoolLemmas.{number-entries}
use Rattle.rx_pools.proofs.pools.Pools.number.Goals as goal

pub returns-in_err-place : goal.returns-in_err-place
returns-in_err-place c =
    c.from_residual.ensures
    ∙ c.in_err-place.ensures.index
    ∙ number-entries c.args.object c.args.scope c.self.inside.pools.entries
    ∙ ap (λ all. pool_number all c.args.object c.args.scope) c.self.view_is

pub returns : goal.returns
returns c =
    c.in_ok-place.ensures.index
    ∙ number-entries c.args.object c.args.scope c.self.inside.pools.entries
    ∙ ap (λ all. pool_number all c.args.object c.args.scope) c.self.view_is
