use Rattle.std.proofs.Common.{◌≡◌, ◌≢◌, ◌++◌, ◌∷◌, [], rules, Err, sym, ◌∙◌, ap, length}
use Rattle.rx_tree.specs.declared.name.Name.{Name}
use Rattle.rx_exprs.specs.declared.refused.Refused.TheVariants.{OutOfMemory}
use Rattle.rx_exprs.specs.Reads.{fault_of}
use Rattle.rx_clause_tree.specs.declared.clause.Clause.{Clause}
use Rattle.rx_clause_tree.specs.declared.clause.ClauseKind.TheVariants as x
use Rattle.rx_clause_tree.specs.Clauses.{clause}
use Rattle.rx_clause_tree.specs.Loops.{Loops, control_of}
use Rattle.rx_clauses.specs.declared.start.Start.{Start}
use Rattle.rx_clauses.specs.Forms as spec
use Rattle.rx_clauses.proofs.Sure.{outcome}
use Rattle.rx_clauses.proofs.Ways.{expression_less, then_less, end_less, header_less, test_less, whens_less, start_same, assign_ok, send_ok, loop_ok, loop_bad_test, loop_bad_clauses, loop_bad_end}
use Rattle.rx_clauses.proofs.blocks.+clause.Goals as goal

pub choice-clause-requires : goal.choice-clause-requires
choice-clause-requires t c =
    let h = expression_less c.args.tokens.now c.read_expr.new.tokens c.in_ok-test.test c.in_ok-test.ensures in
    let g = then_less c.read_expr.new.tokens c.eat_then.new.tokens c.if-not-eat_then.ensures in
    search rules

pub clause-instruction-requires : goal.clause-instruction-requires
clause-instruction-requires t c =
    let e = start_same c.args.tokens.now c.start_of.new.tokens c.in-Word.keyword
    (c.in_ok-start_of.ensures ∙ ap (λ (s : Start). (s, c.start_of.new.tokens)) c.in-Word.is) in
    let l = ap length e in
    search rules

pub clause-returns-in_ok-assignment-in-Assignment-clause-reads : goal.clause-returns-in_ok-assignment-in-Assignment-clause-reads
clause-returns-in_ok-assignment-in-Assignment-clause-reads t c =
    assign_ok c.args.loops.now c.args.room c.args.tokens.now c.start_of.new.tokens c.assignment.new.tokens c.in_ok-assignment-in-Assignment.field-0
    (c.in_ok-start_of.ensures ∙ ap (λ (s : Start). (s, c.start_of.new.tokens)) c.in-Assignment.is) c.in_ok-assignment-in-Assignment.ensures
    ∙ ap (λ (k : Clause). outcome k c.assignment.new.tokens)
    (sym (c.simple_clause.ensures ∙ ap (λ l. clause l (x.Simple c.in_ok-assignment-in-Assignment.field-0)) c.line_of-line.ensures))

pub clause-returns-in_ok-send_assign-in-Sending-clause-reads : goal.clause-returns-in_ok-send_assign-in-Sending-clause-reads
clause-returns-in_ok-send_assign-in-Sending-clause-reads t c =
    send_ok c.args.loops.now c.args.room c.args.tokens.now c.start_of.new.tokens c.send_assign.new.tokens c.in-Sending.receiver c.in-Sending.part
    c.in_ok-send_assign-in-Sending.field-0
    (c.in_ok-start_of.ensures ∙ ap (λ (s : Start). (s, c.start_of.new.tokens)) c.in-Sending.is) c.in_ok-send_assign-in-Sending.ensures
    ∙ ap (λ (k : Clause). outcome k c.send_assign.new.tokens)
    (sym (c.simple_clause-in-Sending.ensures ∙ ap (λ l. clause l (x.Simple c.in_ok-send_assign-in-Sending.field-0)) c.line_of-line.ensures))

pub repetition-returns-in_err-test-clause-reads : goal.repetition-returns-in_err-test-clause-reads
repetition-returns-in_err-test-clause-reads t c =
    let bad : c.in_err-test.field-0.0 ≢ OutOfMemory → spec.loop_form c.args.loops.now c.args.room c.args.tokens.now ≡ Err (fault_of c.in_err-test.field-0.0) =
    λ some. loop_bad_test c.args.loops.now c.args.room c.args.tokens.now c.header.new.tokens c.in_ok-header.header (fault_of c.in_err-test.field-0.0)
    c.in_ok-header.ensures (c.in_err-test.ensures some) in
    search rules

pub repetition-clauses-requires : goal.repetition-clauses-requires
repetition-clauses-requires t c =
    let h = header_less c.args.tokens.now c.header.new.tokens c.in_ok-header.header c.in_ok-header.ensures in
    let g = test_less c.header.new.tokens c.test.new.tokens c.in_ok-test.test c.in_ok-test.ensures in
    search rules

pub repetition-returns-in_err-clauses-clause-reads : goal.repetition-returns-in_err-clauses-clause-reads
repetition-returns-in_err-clauses-clause-reads t c =
    let inside : c.push.new.self ≡ c.args.loops.now ++ control_of c.in_ok-header.header ∷ [] =
    c.in_ok-push.ensures.ok ∙ ap (λ (k : Loops). c.args.loops.now ++ k) (ap (λ n. n ∷ []) c.in_ok-control_of.ensures) in
    let bad : c.in_err-clauses.field-0.0 ≢ OutOfMemory → spec.loop_form c.args.loops.now c.args.room c.args.tokens.now ≡ Err (fault_of c.in_err-clauses.field-0.0) =
    λ some. loop_bad_clauses c.args.loops.now c.args.room c.args.tokens.now c.header.new.tokens c.test.new.tokens c.in_ok-header.header c.in_ok-test.test
    (fault_of c.in_err-clauses.field-0.0) c.in_ok-header.ensures c.in_ok-test.ensures
    (ap (λ (l : Loops). spec.clauses_form l c.args.room c.test.new.tokens) (sym inside) ∙ c.in_err-clauses.ensures.reads some) in
    search rules

pub repetition-returns-in_err-end_block-clause-reads : goal.repetition-returns-in_err-end_block-clause-reads
repetition-returns-in_err-end_block-clause-reads t c =
    let inside : c.push.new.self ≡ c.args.loops.now ++ control_of c.in_ok-header.header ∷ [] =
    c.in_ok-push.ensures.ok ∙ ap (λ (k : Loops). c.args.loops.now ++ k) (ap (λ n. n ∷ []) c.in_ok-control_of.ensures) in
    let bad : c.in_err-end_block.field-0.0 ≢ OutOfMemory → spec.loop_form c.args.loops.now c.args.room c.args.tokens.now ≡ Err (fault_of c.in_err-end_block.field-0.0) =
    λ some. loop_bad_end c.args.loops.now c.args.room c.args.tokens.now c.header.new.tokens c.test.new.tokens c.clauses.new.tokens c.in_ok-header.header c.in_ok-test.test
    c.in_ok-clauses.clauses (fault_of c.in_err-end_block.field-0.0) c.in_ok-header.ensures c.in_ok-test.ensures
    (ap (λ (l : Loops). spec.clauses_form l c.args.room c.test.new.tokens) (sym inside) ∙ c.in_ok-clauses.ensures.reads)
    (ap (λ n. spec.block_end 10 n c.clauses.new.tokens) (sym c.in_ok-control.ensures) ∙ c.in_err-end_block.ensures some) in
    search rules

pub repetition-returns-clause-reads : goal.repetition-returns-clause-reads
repetition-returns-clause-reads t c =
    let inside : c.push.new.self ≡ c.args.loops.now ++ control_of c.in_ok-header.header ∷ [] =
    c.in_ok-push.ensures.ok ∙ ap (λ (k : Loops). c.args.loops.now ++ k) (ap (λ n. n ∷ []) c.in_ok-control_of.ensures) in
    loop_ok c.args.loops.now c.args.room c.args.tokens.now c.header.new.tokens c.test.new.tokens c.clauses.new.tokens c.end_block.new.tokens c.in_ok-header.header
    c.in_ok-test.test c.in_ok-clauses.clauses c.in_ok-end_block.field-0 c.in_ok-header.ensures c.in_ok-test.ensures
    (ap (λ (l : Loops). spec.clauses_form l c.args.room c.test.new.tokens) (sym inside) ∙ c.in_ok-clauses.ensures.reads)
    (ap (λ n. spec.block_end 10 n c.clauses.new.tokens) (sym c.in_ok-control.ensures) ∙ c.in_ok-end_block.ensures)

pub select-otherwise-requires : goal.select-otherwise-requires
select-otherwise-requires t c =
    let h = end_less c.args.tokens.now c.eat_end.new.tokens c.if-not-eat_end.ensures in
    let g = whens_less c.args.loops.now c.args.room c.eat_end.new.tokens c.whens.new.tokens c.in_ok-whens.whens c.in_ok-whens.ensures.reads in
    search rules

pub when-clause-requires : goal.when-clause-requires
when-clause-requires t c =
    let h = expression_less c.args.tokens.now c.read_expr.new.tokens c.in_ok-test.test c.in_ok-test.ensures in
    let g = then_less c.read_expr.new.tokens c.eat_then.new.tokens c.if-not-eat_then.ensures in
    search rules
