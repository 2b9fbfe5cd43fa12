use Rattle.std.proofs.Common.{ap, ◌∙◌, length, Result, Ok, Err, OnOk, refl}
use Rattle.rx_clause_tree.specs.declared.clause.Clause.{Clause}
use Rattle.rx_flow.specs.declared.code.Op.TheVariants as op
use Rattle.rx_flow.specs.Kept.{kept_test}
use Rattle.rx_flow.specs.Laid.{with_entry}
use Rattle.rx_flow.proofs.LaidLemmas.{laid_if, laid_when, laid_select, laid_group, laid_no_when, laid_loop, laid_none, laid_next, laid_no_whens, laid_next_when, laid_both, laid_whole_select}
use Rattle.rx_flow.proofs.flatten.+flatten.Goals as goal

-- what an `Ok` brings
on_ok : {A E : Type 0} (r : Result A E) (P Q : Type 0) → (P → Q) → OnOk r P → OnOk r Q
on_ok (Ok x) P Q f h = f h
on_ok (Err e) P Q f h = h

pub flatten_if-returns : goal.flatten_if-returns
flatten_if-returns t c =
    let pending = c.in_ok-pending in
    on_ok c.close_test.result _ _
    (λ closed.
    laid_if c.args.code.now (with_entry c.args.code.now (kept_test c.args.line c.args.test.now)) c.open_test.new.code c.flatten_clause.new.code c.close_test.new.code
    c.args.line c.args.test.now pending.pending.number pending.pending.place (length c.flatten_clause.new.code.ops) c.args.chosen.now
    (kept_test c.args.line c.args.test.now) (op.Jump 0)
    refl pending.ensures.number refl pending.ensures.place pending.ensures.code c.in_ok-flatten_clause.ensures refl closed)
    c.close_test.ensures

pub flatten_when-returns : goal.flatten_when-returns
flatten_when-returns t c =
    let pending = c.in_ok-pending in
    on_ok c.close_test.result _ _
    (λ closed.
    laid_when c.args.exit c.args.code.now (with_entry c.args.code.now (kept_test c.args.line c.args.when.now.test)) c.open_test.new.code c.flatten_clause.new.code
    c.put.new.code c.close_test.new.code c.args.line pending.pending.number pending.pending.place (length c.put.new.code.ops) c.args.when.now
    (kept_test c.args.line c.args.when.now.test) (op.Jump 0)
    refl pending.ensures.number refl pending.ensures.place pending.ensures.code c.in_ok-flatten_clause.ensures c.in_ok-put.ensures refl closed)
    c.close_test.ensures

pub flatten_whens-loop-when-init : goal.flatten_whens-loop-when-init
flatten_whens-loop-when-init t c = laid_no_whens c.args.exit c.args.code.now c.args.line

pub flatten_whens-loop-when-preserved : goal.flatten_whens-loop-when-preserved
flatten_whens-loop-when-preserved t c =
    laid_next_when c.args.exit c.args.code.now c.loop-when.code c.flatten_when.new.code c.args.line c.args.whens.now c.loop-when.when-index c.when-item.result
    c.loop-when-test.true c.when-item.is c.loop-when.invariant c.in_ok-flatten_when.ensures

pub flatten_select-returns : goal.flatten_select-returns
flatten_select-returns t c =
    let exit = c.in_ok-exit in
    on_ok c.close_jump.result _ _
    (λ closed.
    laid_select c.args.code.now c.open_select.new.code c.flatten_whens.new.code c.put.new.code c.close_jump.new.code
    c.args.line exit.exit.number exit.exit.place (length c.put.new.code.ops) c.args.whens.now
    exit.ensures c.in_ok-flatten_whens.ensures c.in_ok-put.ensures refl closed)
    c.close_jump.ensures

pub flatten_group-returns : goal.flatten_group-returns
flatten_group-returns t c =
    on_ok c.flatten_clauses.result _ _
    (λ laid.
    laid_group c.args.code.now c.keep.new.code c.put.new.code c.flatten_clauses.new.code c.args.line c.in_ok-number.number c.args.clauses.now
    c.in_ok-number.ensures (c.in_ok-keep.ensures ∙ ap (λ (z : Clause). with_entry c.args.code.now z) c.kept_group.ensures) c.in_ok-put.ensures laid)
    c.flatten_clauses.ensures

pub flatten_otherwise-returns : goal.flatten_otherwise-returns
flatten_otherwise-returns t c =
    on_ok c.flatten_clauses.result _ _
    (λ laid.
    laid_no_when c.args.code.now c.keep.new.code c.put.new.code c.flatten_clauses.new.code c.args.line c.in_ok-number.number c.args.clauses.now
    c.in_ok-number.ensures (c.in_ok-keep.ensures ∙ ap (λ (z : Clause). with_entry c.args.code.now z) c.kept_select.ensures) c.in_ok-put.ensures laid)
    c.flatten_clauses.ensures

pub flatten_loop-returns : goal.flatten_loop-returns
flatten_loop-returns t c =
    laid_loop c.args.code.now c.keep.new.code c.put.new.code c.put-2.new.code c.flatten_clauses.new.code c.put-3.new.code c.patch.new.code
    c.args.line c.in_ok-number.number c.in_ok-turn.turn c.in_ok-end.end c.args.header.now c.args.test.now c.args.clauses.now _
    c.in_ok-number.ensures (c.in_ok-keep.ensures ∙ ap (λ (z : Clause). with_entry c.args.code.now z) c.in_ok-clause.ensures)
    c.in_ok-put.ensures c.in_ok-turn.ensures c.in_ok-put-2.ensures c.in_ok-flatten_clauses.ensures c.in_ok-put-3.ensures c.in_ok-end.ensures c.patch.ensures

pub flatten_clauses-loop-clause-init : goal.flatten_clauses-loop-clause-init
flatten_clauses-loop-clause-init t c = laid_none c.args.code.now

pub flatten_clauses-loop-clause-preserved : goal.flatten_clauses-loop-clause-preserved
flatten_clauses-loop-clause-preserved t c =
    laid_next c.args.code.now c.loop-clause.code c.flatten_clause.new.code c.args.clauses.now c.loop-clause.clause-index c.clause-item.result
    c.loop-clause-test.true c.clause-item.is c.loop-clause.invariant c.in_ok-flatten_clause.ensures

pub flatten_clause-returns-in_ok-flatten_clause-in-Some-2 : goal.flatten_clause-returns-in_ok-flatten_clause-in-Some-2
flatten_clause-returns-in_ok-flatten_clause-in-Some-2 t c =
    let test = c.in_ok-test-in-Some in
    let jump = c.in_ok-jump-in-Some in
    on_ok c.close_jump.result _ _
    (λ closed.
    laid_both c.args.code.now c.open_test.new.code c.flatten_clause.new.code c.split_test.new.code c.flatten_clause-in-Some.new.code c.close_jump.new.code
    c.args.clause.now c.in-If.test test.test.number test.test.place jump.jump
    c.in-If.chosen c.get-in-Some.result.now c.in-Some.other c.get-in-Some-2.result.now c.in-If.other
    c.in-If.is c.in-Some.is c.get-in-Some.ensures c.get-in-Some-2.ensures
    test.ensures.number test.ensures.place test.ensures.code c.in_ok-flatten_clause-in-Some.ensures
    jump.ensures.jump jump.ensures.code c.in_ok-flatten_clause-in-Some-2.ensures closed)
    c.close_jump.ensures

pub flatten_clause-returns-in_ok-flatten_clauses-in-Some-others : goal.flatten_clause-returns-in_ok-flatten_clauses-in-Some-others
flatten_clause-returns-in_ok-flatten_clauses-in-Some-others t c =
    let exit = c.in_ok-exit-in-Some-others in
    on_ok c.close_jump-else-len-eq0.result _ _
    (λ closed.
    laid_whole_select c.args.code.now c.open_select.new.code c.flatten_whens.new.code c.flatten_clauses.new.code c.close_jump-else-len-eq0.new.code
    c.args.clause.now exit.exit.number exit.exit.place c.in-Select.whens c.as_slice-else-len-eq0.result.now
    c.in-Some-others.others c.as_slice-else-len-eq0-2.result.now c.in-Select.others
    c.in-Select.is c.in-Some-others.is c.as_slice-else-len-eq0.ensures c.as_slice-else-len-eq0-2.ensures (λ e. c.if-len-eq0.false (c.len.ensures ∙ e))
    exit.ensures c.in_ok-flatten_whens-in-Some-others.ensures c.in_ok-flatten_clauses-in-Some-others.ensures closed)
    c.close_jump-else-len-eq0.ensures
