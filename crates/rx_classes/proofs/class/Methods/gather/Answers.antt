use Rattle.std.proofs.Common.{List, ℕ, ◌∙◌, sym, ap}
use Rattle.std.specs.Prelude.{is_some}
use Rattle.rx_vars.specs.Tables.{look_up}
use Rattle.rx_classes.specs.Kept.{side_of}
use Rattle.rx_classes.proofs.MethodLemmas.{repeated-here, gathered-next}
use Rattle.rx_classes.proofs.class.Methods.gather.Goals as goal

pub returns-then-is_some-clause-twice : goal.returns-then-is_some-clause-twice
returns-then-is_some-clause-twice c =
    repeated-here c.args.defs.now c.loop-def.def-index c.def-item.result c.in_ok-share.field-0 c.loop-def.methods c.loop-def-test.true c.def-item.is
    c.loop-def.invariant.0
    (ap (λ (name : List ℕ). is_some (look_up (side_of c.loop-def.methods c.def-item.result.class_side) name)) (sym c.bytes.ensures.bytes)
    ∙ ap is_some (sym c.get.ensures) ∙ sym c.is_some.ensures ∙ c.if-is_some.true)
    c.loop-def.invariant.1 c.in_ok-share.ensures.same

pub loop-def-preserved : goal.loop-def-preserved
loop-def-preserved c =
    gathered-next c.args.defs.now c.loop-def.def-index c.def-item.result c.loop-def.methods c.add.new.self c.loop-def-test.true c.def-item.is
    c.loop-def.invariant.0
    (ap (λ (name : List ℕ). is_some (look_up (side_of c.loop-def.methods c.def-item.result.class_side) name)) (sym c.bytes.ensures.bytes)
    ∙ ap is_some (sym c.get.ensures) ∙ sym c.is_some.ensures ∙ c.if-is_some.false)
    c.loop-def.invariant.1 c.in_ok-add.ensures
