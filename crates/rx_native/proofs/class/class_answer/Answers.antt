use Rattle.std.proofs.Common.{sym, subst}
use Rattle.rx_native.specs.declared.class.OfClass.{OfClass}
use Rattle.rx_native.specs.Answers.{Answers}
use Rattle.rx_native.specs.ClassMethods.{class_answer}
use Rattle.rx_native.proofs.class.class_answer.Goals as goal

pub returns-in-New : goal.returns-in-New
returns-in-New c =
    subst (λ (method : OfClass). Answers c.new.result c.args.heap.now c.new.new.heap
    (class_answer method c.args.classes.now c.args.heap.now c.args.class c.args.args.now)) (sym c.in-New.is) (c.new.ensures c.args.args.now)

pub returns-in-Id : goal.returns-in-Id
returns-in-Id c =
    subst (λ (method : OfClass). Answers c.id.result c.args.heap.now c.args.heap.now
    (class_answer method c.args.classes.now c.args.heap.now c.args.class c.args.args.now)) (sym c.in-Id.is) (c.id.ensures c.args.heap.now)

pub returns-in-Superclass : goal.returns-in-Superclass
returns-in-Superclass c =
    subst (λ (method : OfClass). Answers c.superclass.result c.args.heap.now c.args.heap.now
    (class_answer method c.args.classes.now c.args.heap.now c.args.class c.args.args.now)) (sym c.in-Superclass.is)
    (c.superclass.ensures c.args.heap.now)
