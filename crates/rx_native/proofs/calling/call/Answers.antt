use Rattle.std.proofs.Common.{◌∙◌, ℕ, Some, sym, ap, subst}
use Rattle.rx_classes.specs.Classes.{IsClass}
use Rattle.rx_heap.specs.declared.kind.Kind.TheVariants as k
use Rattle.rx_heap.specs.Objects.{IsOfKind}
use Rattle.rx_native.specs.declared.method.Method.{Method}
use Rattle.rx_native.proofs.ReachLemmas.{array-receiver, class-receiver, directory-receiver, queue-receiver}
use Rattle.rx_native.proofs.calling.call.Goals as goal

pub class_answer-requires : goal.class_answer-requires
class_answer-requires c =
    subst (λ (object : ℕ). IsClass c.args.classes.now object) (sym c.object_in-object.ensures)
    (class-receiver c.args.classes.now c.args.heap.now c.args.target.now c.args.id c.in-Class.method
    (c.built_method.ensures ∙ ap (λ (method : Method). Some method) c.in-Class.is)
    c.requires.reached c.requires.target_there c.requires.fits)

pub array_answer-requires : goal.array_answer-requires
array_answer-requires c =
    subst (λ (object : ℕ). IsOfKind c.args.heap.now object k.Array) (sym c.object_in-object.ensures)
    (array-receiver c.args.classes.now c.args.heap.now c.args.target.now c.args.id c.in-Array.method
    (c.built_method.ensures ∙ ap (λ (method : Method). Some method) c.in-Array.is)
    c.requires.reached c.requires.target_there c.requires.fits)

pub queue_answer-requires : goal.queue_answer-requires
queue_answer-requires c =
    subst (λ (object : ℕ). IsOfKind c.args.heap.now object k.Queue) (sym c.object_in-object.ensures)
    (queue-receiver c.args.classes.now c.args.heap.now c.args.target.now c.args.id c.in-Queue.method
    (c.built_method.ensures ∙ ap (λ (method : Method). Some method) c.in-Queue.is)
    c.requires.reached c.requires.target_there c.requires.fits)

pub directory_answer-requires-clause-directory : goal.directory_answer-requires-clause-directory
directory_answer-requires-clause-directory c =
    subst (λ (object : ℕ). IsOfKind c.args.heap.now object k.Directory) (sym c.object_in-object.ensures)
    (directory-receiver c.args.classes.now c.args.heap.now c.args.target.now c.args.id c.in-Directory.method
    (c.built_method.ensures ∙ ap (λ (method : Method). Some method) c.in-Directory.is)
    c.requires.reached c.requires.target_there c.requires.fits)
