use Rattle.std.proofs.Common.{◌≡◌, ◌∷◌, ◌++◌, [], slice_get, option_map, IfOk, Some, ap, sym, subst, ◌∙◌, rules}
use Rattle.std.specs.Arc.{arc_value}
use Rattle.rx_flow.specs.Kept.{all_kept}
use Rattle.rx_eval.specs.Places.{trees_of}
use Rattle.rx_machine.specs.Todo.{clauses_in}
use Rattle.rx_codes.specs.Codes.{done_by, trees_by}
use Rattle.rx_codes.specs.Programs.{coded_in}
use Rattle.rx_codes.proofs.ProgramLemmas.{clauses_are}
use Rattle.rx_codes.proofs.program.Program.code.Goals as goal

pub returns-in-Some-clause-trees : goal.returns-in-Some-clause-trees
returns-in-Some-clause-trees c = λ clause simple kept does.
    let program = c.args.self.now in
    let found = slice_get (program.bodies ++ program.main ∷ []) c.args.body in
    let is : Some c.in-Some.coded.now ≡ option_map (coded_in program) found = search rules in
    let here : clauses_in program c.args.body ≡ c.in-Some.coded.now.body.clauses = clauses_are program found c.in-Some.coded.now is in
    let stands : slice_get (all_kept c.in-Some.coded.now.body.clauses) c.args.number ≡ Some clause =
    ap (λ cs. slice_get (all_kept cs) c.args.number) (sym here) ∙ kept in
    subst (λ rule. IfOk c.code.result (λ code. trees_of (arc_value code).instrs ≡ trees_by c.args.args.now (done_by rule))) does
    (c.code.ensures.trees clause stands)
