use Rattle.std.proofs.Common.{sym, ◌∙◌, ap, subst, arith, Some}
use Rattle.std.proofs.lemmas.Option.{slice_get_within}
use Rattle.rx_flow.specs.declared.code.Op.{Op}
use Rattle.rx_flow.specs.Looks.{Sees}
use Rattle.rx_flow.proofs.FindLemmas.{clause_next, header_next, label_passed, no_when_next, test_next, turn_ends}
use Rattle.rx_flow.proofs.finding.look_at.Goals as goal

pub overflow_add-next : goal.overflow_add-next
overflow_add-next c = omega (arith, slice_get_within c.args.code.now.ops c.args.place c.args.op c.requires.here, c.requires.few)

pub returns-then-is_label_at : goal.returns-then-is_label_at
returns-then-is_label_at c = (
  omega arith,
  label_passed _ _ _ _ c.requires.stands (c.requires.here ∙ ap (λ (o : Op). Some o) c.in-Clause.is) (sym c.is_label_at.ensures ∙ c.if-is_label_at.true),
)

pub returns-else-is_label_at : goal.returns-else-is_label_at
returns-else-is_label_at c =
    subst (Sees c.args.body.now.clauses c.args.place) (sym c.clause.ensures)
    (clause_next _ _ _ _ c.requires.stands (c.requires.here ∙ ap (λ (o : Op). Some o) c.in-Clause.is) (sym c.is_label_at.ensures ∙ c.if-is_label_at.false))

pub returns-in-Test : goal.returns-in-Test
returns-in-Test c =
    subst (Sees c.args.body.now.clauses c.args.place) (sym c.clause-in-Test.ensures)
    (test_next _ _ _ _ _ c.requires.stands (c.requires.here ∙ ap (λ (o : Op). Some o) c.in-Test.is))

pub returns-in-Header : goal.returns-in-Header
returns-in-Header c =
    subst (Sees c.args.body.now.clauses c.args.place) (sym c.clause-in-Header.ensures)
    (header_next _ _ _ _ c.requires.stands (c.requires.here ∙ ap (λ (o : Op). Some o) c.in-Header.is))

pub returns-in-NoWhen : goal.returns-in-NoWhen
returns-in-NoWhen c =
    subst (Sees c.args.body.now.clauses c.args.place) (sym c.clause-in-NoWhen.ensures)
    (no_when_next _ _ _ _ c.requires.stands (c.requires.here ∙ ap (λ (o : Op). Some o) c.in-NoWhen.is))

pub returns-in-Turn : goal.returns-in-Turn
returns-in-Turn c = turn_ends _ _ _ _ _ c.requires.stands (c.requires.here ∙ ap (λ (o : Op). Some o) c.in-Turn.is)
