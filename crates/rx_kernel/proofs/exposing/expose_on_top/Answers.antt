use Rattle.std.proofs.Common.{◌≡◌, ◌∙◌, sym}
use Rattle.rx_vars.proofs.NameLemmas.{OnErr-map}
use Rattle.rx_kernel.specs.Exposing.{exposing}
use Rattle.rx_kernel.proofs.TopLemmas.{top-kept, top-none}
use Rattle.rx_kernel.proofs.exposing.expose_on_top.Goals as goal

pub returns-in-Some-clause-err : goal.returns-in-Some-clause-err
returns-in-Some-clause-err c =
    OnErr-map c.expose.result _ _
    (λ (is : c.expose.new.self ≡ c.variables_mut.result.now).
    top-kept c.args.stacks.now c.args.a c.in-Some.frame.now c.expose.new.self (sym c.in-Some.ensures.frame) (is ∙ c.variables_mut.ensures.variables))
    c.expose.ensures.err

pub returns-in-None-clause-ok : goal.returns-in-None-clause-ok
returns-in-None-clause-ok c = sym (top-none c.args.stacks.now c.args.a (exposing c.args.name.now c.args.pool) (sym c.in-None.ensures.frame))
