use Rattle.std.proofs.Common.{◌≡◌, IfOk, Some, option_map, ap, subst, sym}
use Rattle.rx_kernel.specs.declared.onward.Onward.TheVariants as onward
use Rattle.rx_kernel.specs.States.{world_of}
use Rattle.rx_kernel.specs.Stepping.{IsStepped, goes_with, resumed_of}
use Rattle.rx_kernel.proofs.state.State.go_onward.Goals as goal

pub returns-in-Some-With : goal.returns-in-Some-With
returns-in-Some-With c = λ t turn.
    let same : c.args.onward ≡ Some (onward.With c.in-Some-With.ready) = cc (c.in-Some-With.is, c.in-Some-With.field-0-is) in
    subst (λ so. IfOk c.stretch.result (λ stepped. IsStepped (world_of c.args.self.now) so stepped (world_of c.stretch.new.self)))
    (ap (λ one. goes_with t c.args.simple.now (option_map resumed_of one)) (sym same))
    (c.stretch.ensures t turn)

pub returns-in-Some-Without : goal.returns-in-Some-Without
returns-in-Some-Without c = λ t turn.
    let same : c.args.onward ≡ Some onward.Without = cc (c.in-Some-Without.is, c.in-Some-Without.field-0-is) in
    subst (λ so. IfOk c.finish.result (λ stepped. IsStepped (world_of c.args.self.now) so stepped (world_of c.finish.new.self)))
    (ap (λ one. goes_with t c.args.simple.now (option_map resumed_of one)) (sym same))
    (c.finish.ensures t turn)
