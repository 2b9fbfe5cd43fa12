use Rattle.std.proofs.Common.{ℕ, List, ap, ◌∙◌}
use Rattle.std.proofs.lemmas.List.{take_all}
use Rattle.rx_heap.specs.Objects.{entries_at}
use Rattle.rx_native.proofs.NameLemmas.{texts, names-texts}
use Rattle.rx_native.proofs.directory.names_of.Goals as goal

pub returns : goal.returns
returns c =
    c.loop-name.invariant
    ∙ ap (λ (names : List (List ℕ)). texts names)
    (take_all c.loop-name.name-index c.as_slice-name-items.result.now c.loop-name-test.false
    ∙ c.as_slice-name-items.ensures ∙ c.in_ok-kept.ensures.names)
    ∙ names-texts (entries_at c.args.heap.now c.args.o)
