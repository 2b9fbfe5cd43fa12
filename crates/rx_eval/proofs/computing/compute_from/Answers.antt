use Rattle.std.proofs.Common.{◌≡◌, ◌+◌, ◌<◌, length, true, if◌then◌else◌, [], slice_get, Some, None, ap, sym, ◌∙◌, rules, arith}
use Rattle.std.proofs.lemmas.Grind.{common_steps}
use Rattle.std.proofs.lemmas.Option.{slice_get_within}
use Rattle.rx_eval.specs.declared.step.Step.TheVariants as step
use Rattle.rx_eval.specs.Code.{scene}
use Rattle.rx_eval.specs.Evaluation.{evaluate_all}
use Rattle.rx_eval.specs.Places.{partial, fits}
use Rattle.rx_eval.proofs.Soundness.{sound_at}
use Rattle.rx_eval.proofs.Runs.{executed, called, done}
use Rattle.rx_eval.proofs.computing.compute_from.Goals as goal
use Rattle.rx_eval.proofs.computing.compute_from.Goals.{then-again, else-again}

pub loop-at-preserved : goal.loop-at-preserved
loop-at-preserved c =
    let get : slice_get c.args.code.now.instrs c.loop-at.at ≡ Some c.in-Some.instr.now = search rules in
    let whole : fits c.args.code.now.body c.args.code.now.instrs [] ≡ true = search rules in
    let h = executed (scene c.args.code.now c.args.facts.now) c.args.code.now.instrs c.loop-at.at c.in-Some.instr.now c.loop-at.stack c.execute.new.stack c.in_ok-execute.field-0 step.Next whole get c.loop-at.invariant.placed c.in_ok-execute.ensures c.in-Next.is in
    record { placed = h.0; same = c.loop-at.invariant.same ∙ h.1 }

pub returns-in-Raises : goal.returns-in-Raises
returns-in-Raises c =
    let get : slice_get c.args.code.now.instrs c.loop-at.at ≡ Some c.in-Some.instr.now = search rules in
    let whole : fits c.args.code.now.body c.args.code.now.instrs [] ≡ true = search rules in
    ap (λ vs. evaluate_all (scene c.args.code.now c.args.facts.now) (partial c.args.code.now.instrs c.args.place vs)) (sym c.from_vec-stack.ensures) ∙ c.loop-at.invariant.same
    ∙ executed (scene c.args.code.now c.args.facts.now) c.args.code.now.instrs c.loop-at.at c.in-Some.instr.now c.loop-at.stack c.execute.new.stack c.in_ok-execute.field-0 (step.Raises c.in-Raises.number) whole get c.loop-at.invariant.placed c.in_ok-execute.ensures c.in-Raises.is

pub returns-in-Lacks : goal.returns-in-Lacks
returns-in-Lacks c =
    let get : slice_get c.args.code.now.instrs c.loop-at.at ≡ Some c.in-Some.instr.now = search rules in
    let whole : fits c.args.code.now.body c.args.code.now.instrs [] ≡ true = search rules in
    ap (λ vs. evaluate_all (scene c.args.code.now c.args.facts.now) (partial c.args.code.now.instrs c.args.place vs)) (sym c.from_vec-stack.ensures) ∙ c.loop-at.invariant.same
    ∙ executed (scene c.args.code.now c.args.facts.now) c.args.code.now.instrs c.loop-at.at c.in-Some.instr.now c.loop-at.stack c.execute.new.stack c.in_ok-execute.field-0 (step.Lacks c.in-Lacks.name) whole get c.loop-at.invariant.placed c.in_ok-execute.ensures c.in-Lacks.is

pub returns-in-Calls : goal.returns-in-Calls
returns-in-Calls c =
    let get : slice_get c.args.code.now.instrs c.loop-at.at ≡ Some c.in-Some.instr.now = search rules in
    let whole : fits c.args.code.now.body c.args.code.now.instrs [] ≡ true = search rules in
    let h = executed (scene c.args.code.now c.args.facts.now) c.args.code.now.instrs c.loop-at.at c.in-Some.instr.now c.loop-at.stack c.execute.new.stack c.in_ok-execute.field-0 (step.Calls c.in-Calls.sent c.in-Calls.again) whole get c.loop-at.invariant.placed c.in_ok-execute.ensures c.in-Calls.is in
    let place : c.if-again.place ≡ (if c.in-Calls.again then c.loop-at.at else c.loop-at.at + 1) = elim c.if-again.branch [ then-again w ↦ grind (arith, common_steps) | else-again w ↦ grind (arith, common_steps) ] in
    let r = called (scene c.args.code.now c.args.facts.now) c.args.code.now.instrs c.loop-at.at c.if-again.place c.in-Calls.sent c.in-Calls.again c.execute.new.stack c.into_items.result _ h place c.into_items.ensures in
    (ap (λ vs. evaluate_all (scene c.args.code.now c.args.facts.now) (partial c.args.code.now.instrs c.args.place vs)) (sym c.from_vec-stack.ensures) ∙ c.loop-at.invariant.same ∙ r.0, r.1)

pub unreachable-requires : goal.unreachable-requires
unreachable-requires c =
    let get : slice_get c.args.code.now.instrs c.loop-at.at ≡ Some c.in-Some.instr.now = search rules in
    let whole : fits c.args.code.now.body c.args.code.now.instrs [] ≡ true = search rules in
    executed (scene c.args.code.now c.args.facts.now) c.args.code.now.instrs c.loop-at.at c.in-Some.instr.now c.loop-at.stack c.execute.new.stack c.in_ok-execute.field-0 step.Stuck whole get c.loop-at.invariant.placed c.in_ok-execute.ensures c.in-Stuck.is

pub returns : goal.returns
returns c =
    let none : slice_get c.args.code.now.instrs c.loop-at.at ≡ None = search rules in
    ap (λ vs. evaluate_all (scene c.args.code.now c.args.facts.now) (partial c.args.code.now.instrs c.args.place vs)) (sym c.from_vec-stack.ensures) ∙ c.loop-at.invariant.same
    ∙ done (scene c.args.code.now c.args.facts.now) c.args.code.now.instrs c.loop-at.at c.loop-at.stack c.into_items-2.result none c.loop-at.invariant.placed c.into_items-2.ensures

pub execute-requires-clause-sound : goal.execute-requires-clause-sound
execute-requires-clause-sound c =
    let get : slice_get c.args.code.now.instrs c.loop-at.at ≡ Some c.in-Some.instr.now = search rules in
    let whole : fits c.args.code.now.body c.args.code.now.instrs [] ≡ true = search rules in
    sound_at c.args.code.now.body c.args.code.now.instrs c.loop-at.at c.in-Some.instr.now whole get

pub loop-at-smaller : goal.loop-at-smaller
loop-at-smaller c =
    let get : slice_get c.args.code.now.instrs c.loop-at.at ≡ Some c.in-Some.instr.now = search rules in
    let within : c.loop-at.at < length c.args.code.now.instrs = slice_get_within c.args.code.now.instrs c.loop-at.at c.in-Some.instr.now get in
    omega arith
