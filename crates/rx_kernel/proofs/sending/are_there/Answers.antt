use Rattle.std.proofs.Common.{All, subst, rules}
use Rattle.std.proofs.lemmas.List.{take_all}
use Rattle.std.proofs.lemmas.List.Elements.{All-more}
use Rattle.rx_native.specs.Fitting.{IsThereIfGiven}
use Rattle.rx_kernel.proofs.sending.are_there.Goals as goal

pub loop-arg-preserved : goal.loop-arg-preserved
loop-arg-preserved c =
    let here : IsThereIfGiven c.args.heap.now c.arg-item.result = search rules in
    All-more (IsThereIfGiven c.args.heap.now) c.args.args.now c.loop-arg.arg-index c.arg-item.result c.loop-arg-test.true c.loop-arg.invariant
    (subst (IsThereIfGiven c.args.heap.now) c.arg-item.is here)

pub returns : goal.returns
returns c = λ _.
    subst (All (IsThereIfGiven c.args.heap.now)) (take_all c.loop-arg.arg-index c.args.args.now c.loop-arg-test.false) c.loop-arg.invariant
