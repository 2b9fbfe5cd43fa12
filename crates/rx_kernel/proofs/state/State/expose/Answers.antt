use Rattle.std.proofs.Common.{◌∙◌, [], ◌∷◌, ap, rules}
use Rattle.rx_pools.specs.Pools.{with_cell}
use Rattle.rx_machine.specs.Assigning.{expose_from}
use Rattle.rx_kernel.specs.States.{world_of}
use Rattle.rx_kernel.proofs.NameLemmas.{comes-refused, expose-long, expose-short, exposing-codes}
use Rattle.rx_kernel.proofs.state.State.expose.Goals as goal

pub returns-in_err-name-clause-comes : goal.returns-in_err-name-clause-comes
returns-in_err-name-clause-comes c =
    comes-refused c.from_residual.result (world_of c.args.self.now) (expose_from (world_of c.args.self.now) c.args.a c.args.pool (c.args.name.now ∷ []))
    c.from_residual.ensures.0
    (λ is. expose-long c.args.self.now c.args.a c.args.pool c.args.name.now (c.in_err-name.ensures.long (search rules)))

pub invariant_of-self-2-clause-codes : goal.invariant_of-self-2-clause-codes
invariant_of-self-2-clause-codes c still =
    exposing-codes c.args.self.now.program c.args.self.now.parts.stacks c.expose_on_top.new.stacks c.args.a c.in_ok-name.name c.args.pool
    c.in_ok-expose_on_top.ensures.ok (c.args.self.now.codes still)

pub returns-clause-comes : goal.returns-clause-comes
returns-clause-comes c =
    expose-short c.args.self.now c.args.a c.args.pool c.args.name.now c.in_ok-name.name c.expose_on_top.new.stacks c.cell.new.self
    c.in_ok-name.ensures.derived c.in_ok-name.ensures.short c.in_ok-expose_on_top.ensures.ok
    (c.in_ok-cell.ensures.ok ∙ ap (with_cell c.args.self.now.parts.pools c.args.pool) c.watched_name.ensures)
