use Rattle.std.proofs.Common.{◌∙◌, ℕ, List, Option, Some, ap, subst}
use Rattle.rx_heap.specs.Objects.{places_at}
use Rattle.rx_native.specs.Answers.{Answers}
use Rattle.rx_native.specs.DirectoryMethods.{entry_answer, name_to_put}
use Rattle.rx_native.proofs.directory.message.Goals as goal

pub returns-in_ok-put-in-Some : goal.returns-in_ok-put-in-Some
returns-in_ok-put-in-Some c =
    subst (λ (put : Option (List ℕ)). Answers c.put_entry.result c.args.heap.now c.put_entry.new.heap
    (entry_answer c.args.heap.now c.args.o c.args.name.now put (places_at c.args.heap.now c.args.array)))
    (ap (λ (bytes : List ℕ). Some bytes) c.in_ok-put-in-Some.ensures.bytes ∙ (c.in-Some.ensures ∙ ap name_to_put c.bytes.ensures.bytes))
    (c.put_entry.ensures c.args.name.now)
