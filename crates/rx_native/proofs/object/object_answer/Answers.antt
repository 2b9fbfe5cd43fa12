use Rattle.std.proofs.Common.{sym, subst}
use Rattle.rx_native.specs.declared.object.OfObject.{OfObject}
use Rattle.rx_native.specs.Answers.{Answers}
use Rattle.rx_native.specs.ObjectMethods.{object_answer}
use Rattle.rx_native.proofs.object.object_answer.Goals as goal

pub returns-in-Same : goal.returns-in-Same
returns-in-Same c =
    subst (λ (method : OfObject). Answers c.same.result c.args.heap.now c.args.heap.now
    (object_answer method c.args.classes.now c.args.heap.now c.args.target.now c.args.args.now)) (sym c.in-Same.is)
    (c.same.ensures c.args.classes.now)

pub returns-in-Different : goal.returns-in-Different
returns-in-Different c =
    subst (λ (method : OfObject). Answers c.different.result c.args.heap.now c.args.heap.now
    (object_answer method c.args.classes.now c.args.heap.now c.args.target.now c.args.args.now)) (sym c.in-Different.is)
    (c.different.ensures c.args.classes.now)

pub returns-in-Class : goal.returns-in-Class
returns-in-Class c =
    subst (λ (method : OfObject). Answers c.class.result c.args.heap.now c.args.heap.now
    (object_answer method c.args.classes.now c.args.heap.now c.args.target.now c.args.args.now)) (sym c.in-Class.is)
    (c.class.ensures c.args.classes.now)

pub returns-in-Start : goal.returns-in-Start
returns-in-Start c =
    subst (λ (method : OfObject). Answers c.start.result c.args.heap.now c.start.new.heap
    (object_answer method c.args.classes.now c.args.heap.now c.args.target.now c.args.args.now)) (sym c.in-Start.is)
    (c.start.ensures c.args.classes.now)

pub returns-in-Init : goal.returns-in-Init
returns-in-Init c =
    subst (λ (method : OfObject). Answers c.init.result c.args.heap.now c.args.heap.now
    (object_answer method c.args.classes.now c.args.heap.now c.args.target.now c.args.args.now)) (sym c.in-Init.is)
    (c.init.ensures c.args.classes.now c.args.target.now)
