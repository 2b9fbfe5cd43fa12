use Rattle.std.proofs.Common.{ap, ◌∙◌}
use Rattle.rx_clause_tree.specs.declared.clause.Clause.{Clause}
use Rattle.rx_flow.specs.Kept.{select_of}
use Rattle.rx_flow.specs.Laid.{with_entry}
use Rattle.rx_flow.proofs.LaidLemmas.{opened}
use Rattle.rx_flow.proofs.flatten.open_select.Goals as goal

pub returns : goal.returns
returns c =
    opened c.args.code.now c.keep.new.code c.put.new.code c.put-2.new.code c.patch.new.code
    (select_of c.args.line c.args.otherwise) c.in_ok-number.number c.in_ok-at.at c.in_ok-place.place c.in_ok-first.first
    c.in_ok-number.ensures (c.in_ok-keep.ensures ∙ ap (λ (z : Clause). with_entry c.args.code.now z) c.kept_select.ensures)
    c.in_ok-at.ensures c.in_ok-put.ensures c.in_ok-place.ensures c.in_ok-put-2.ensures c.in_ok-first.ensures c.patch.ensures
