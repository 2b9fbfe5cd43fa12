use Rattle.std.proofs.Common.{[], ◌∷◌, rules}
use Rattle.rx_names.specs.Homes.{home, variables_at}
use Rattle.rx_machine.specs.Assigning.{assign_from}
use Rattle.rx_kernel.specs.States.{world_of}
use Rattle.rx_kernel.proofs.NameLemmas.{assign-long, assign-short, comes-refused, set-codes}
use Rattle.rx_kernel.proofs.state.State.assign.Goals as goal

pub returns-in_err-name-clause-comes : goal.returns-in_err-name-clause-comes
returns-in_err-name-clause-comes c =
    comes-refused c.from_residual.result (world_of c.args.self.now) (assign_from (world_of c.args.self.now) c.args.a ((c.args.name.now, c.args.value) ∷ []))
    c.from_residual.ensures.0
    (λ is. assign-long c.args.self.now c.args.a c.args.name.now c.args.value (c.in_err-name.ensures.long (search rules)))

pub invariant_of-self-2-clause-codes : goal.invariant_of-self-2-clause-codes
invariant_of-self-2-clause-codes c still =
    set-codes c.args.self.now.program c.args.self.now.parts.stacks c.set.new.stacks c.args.a
    (home (variables_at c.args.self.now.parts.stacks c.args.a) c.in_ok-name.name) c.in_ok-name.name c.args.value c.set.result
    c.set.ensures.frames c.set.ensures.frames_kept (c.args.self.now.codes still)

pub returns-clause-comes : goal.returns-clause-comes
returns-clause-comes c =
    assign-short c.args.self.now c.args.a c.args.name.now c.args.value c.in_ok-name.name c.set.new.stacks c.set.new.pools c.in_ok-name.ensures.derived
    c.in_ok-name.ensures.short c.in_ok-set.ensures.frames c.in_ok-set.ensures.pools
