use Rattle.std.proofs.Common.{◌≡◌, [], slice_get, Some, ap, sym, ◌∙◌, rules}
use Rattle.std.specs.Arc.{arc_value}
use Rattle.rx_flow.specs.Kept.{all_kept}
use Rattle.rx_eval.specs.Places.{trees_of}
use Rattle.rx_codes.specs.Codes.{fixed_for, seen, trees_in, wanted}
use Rattle.rx_codes.proofs.KeptLemmas.{fixed_are, kept_code}
use Rattle.rx_codes.proofs.coded.Coded.code.Goals as goal

pub returns-in_ok-try_clone-in-Some-get-clause-body : goal.returns-in_ok-try_clone-in-Some-get-clause-body
returns-in_ok-try_clone-in-Some-get-clause-body c =
    let inside = c.self.inside in
    let fixed = arc_value inside.fixed in
    let got : slice_get inside.compiled c.args.number ≡ Some c.in-Some-get.code.now = search rules in
    let is : slice_get (all_kept inside.flat.clauses) c.args.number ≡ Some c.in-Some.clause.now = search rules in
    let here : seen c.in-Some-get.code.now ≡ wanted fixed c.in-Some.clause.now =
    kept_code fixed (all_kept inside.flat.clauses) inside.compiled c.args.number c.in-Some-get.code.now c.in-Some.clause.now c.self.invariant.codes got is in
    let fixed_is : fixed ≡ fixed_for c.args.self.now = fixed_are fixed inside.flat c.args.self.now c.self.invariant.labels c.self.view_is in
    ap (λ code. code.body) c.in_ok-try_clone-in-Some-get.ensures ∙ ap (λ one. one.0) here ∙ fixed_is

pub returns-in_ok-try_clone-in-Some-get-clause-trees : goal.returns-in_ok-try_clone-in-Some-get-clause-trees
returns-in_ok-try_clone-in-Some-get-clause-trees c = λ clause kept.
    let inside = c.self.inside in
    let fixed = arc_value inside.fixed in
    let got : slice_get inside.compiled c.args.number ≡ Some c.in-Some-get.code.now = search rules in
    let is : slice_get (all_kept inside.flat.clauses) c.args.number ≡ Some c.in-Some.clause.now = search rules in
    let here : seen c.in-Some-get.code.now ≡ wanted fixed c.in-Some.clause.now =
    kept_code fixed (all_kept inside.flat.clauses) inside.compiled c.args.number c.in-Some-get.code.now c.in-Some.clause.now c.self.invariant.codes got is in
    let known : slice_get (all_kept c.args.self.now.body.clauses) c.args.number ≡ Some c.in-Some.clause.now =
    ap (λ coded. slice_get (all_kept coded.body.clauses) c.args.number) (sym c.self.view_is) ∙ is in
    let both : Some c.in-Some.clause.now ≡ Some clause = sym known ∙ kept in
    let same : c.in-Some.clause.now ≡ clause = cc in
    let none : trees_in c.args.args.now c.in-Some.clause.now ≡ trees_in [] c.in-Some.clause.now = search rules in
    ap (λ code. trees_of code.instrs) c.in_ok-try_clone-in-Some-get.ensures ∙ ap (λ one. one.1) here ∙ sym none ∙ ap (trees_in c.args.args.now) same
