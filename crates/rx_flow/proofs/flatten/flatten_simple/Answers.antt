use Rattle.std.proofs.Common.{ap, ◌∙◌}
use Rattle.rx_clause_tree.specs.declared.clause.Clause.{Clause}
use Rattle.rx_flow.specs.Laid.{with_entry}
use Rattle.rx_flow.proofs.LaidLemmas.{laid_simple}
use Rattle.rx_flow.proofs.flatten.flatten_simple.Goals as goal

pub returns : goal.returns
returns c =
    laid_simple c.args.code.now c.keep.new.code c.put.new.code c.args.line c.in_ok-number.number c.args.simple.now
    c.in_ok-number.ensures (c.in_ok-keep.ensures ∙ ap (λ (z : Clause). with_entry c.args.code.now z) c.in_ok-clause.ensures) c.in_ok-put.ensures
