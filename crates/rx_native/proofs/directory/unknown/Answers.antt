use Rattle.std.proofs.Common.{sym, subst}
use Rattle.rx_heap.specs.Objects.{places_at}
use Rattle.rx_native.specs.Answers.{Answers}
use Rattle.rx_native.specs.Outcomes.{Outcome}
use Rattle.rx_native.proofs.DirectoryLemmas.{unknown-is}
use Rattle.rx_native.proofs.directory.unknown.Goals as goal

pub returns : goal.returns
returns c =
    subst (λ (outcome : Outcome). Answers c.message.result c.args.heap.now c.message.new.heap outcome)
    (sym (unknown-is c.args.heap.now c.args.o c.args.args.now c.in_ok-name.name.now c.in_ok-name.value.now c.in_ok-name-2.name.now c.in_ok-name-3.name
    (places_at c.args.heap.now c.in_ok-array.array) c.in_ok-name.ensures c.in_ok-name-2.ensures c.in_ok-array.ensures.1 c.in_ok-name-3.ensures))
    c.message.ensures
