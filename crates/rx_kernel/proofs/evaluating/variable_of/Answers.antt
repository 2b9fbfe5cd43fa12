use Rattle.std.proofs.Common.{Some, Err, ap, sym, ◌∙◌}
use Rattle.rx_names.specs.Homes.{variables_at}
use Rattle.rx_kernel.specs.Noted.{if_known}
use Rattle.rx_kernel.proofs.NotedLemmas.{derived-known, derived-long}
use Rattle.rx_kernel.proofs.evaluating.variable_of.Goals as goal

pub returns-in-Ok : goal.returns-in-Ok
returns-in-Ok c =
    let parts = c.args.parts.now in
    ap Some c.in-Ok.ensures.derived ∙ sym (ap if_known (derived-known (variables_at parts.stacks c.args.a) parts.pools c.args.name.now c.in-Ok.ensures.short))

pub returns-in-Compound : goal.returns-in-Compound
returns-in-Compound c =
    let parts = c.args.parts.now in
    derived-long (variables_at parts.stacks c.args.a) parts.pools c.args.name.now _ _ c.in-Compound.is (c.in-Err-Long.ensures.long (ap Err c.in-Err-Long.field-0-is))
