use Rattle.std.proofs.Common.{◌≡◌, [], ◌∷◌, ◌++◌, ap, subst, ◌∙◌, rules}
use Rattle.std.specs.Arc.{arc_value}
use Rattle.rx_eval.specs.Places.{trees_of}
use Rattle.rx_eval.specs.Whole.{AppendsTree}
use Rattle.rx_eval.proofs.Built.{one_more}
use Rattle.rx_eval.proofs.postfix.Postfix.postfix.Goals as goal

pub invariant_of-self-2 : goal.invariant_of-self-2
invariant_of-self-2 c =
    let body = arc_value c.self.inside.body in
    let code = c.self.inside.code in
    let new = c.append_tree.new.code in
    let body_is : c.deref.result.now ≡ body = search rules in
    let old_is : c.replace-code.result ≡ code = search rules in
    let appends : AppendsTree body c.args.expr.now c.args.string code new =
    subst (λ b. AppendsTree b c.args.expr.now c.args.string code new) body_is
    (subst (λ old. AppendsTree c.deref.result.now c.args.expr.now c.args.string old new) old_is c.in_ok-append_tree.ensures) in
    (one_more body code new c.args.expr.now c.args.string c.self.invariant appends c.requires).1

pub returns-clause-trees : goal.returns-clause-trees
returns-clause-trees c =
    let body = arc_value c.self.inside.body in
    let code = c.self.inside.code in
    let new = c.append_tree.new.code in
    let body_is : c.deref.result.now ≡ body = search rules in
    let old_is : c.replace-code.result ≡ code = search rules in
    let is : code ≡ c.args.self.now.instrs = ap (λ view. view.instrs) c.self.view_is in
    let appends : AppendsTree body c.args.expr.now c.args.string code new =
    subst (λ b. AppendsTree b c.args.expr.now c.args.string code new) body_is
    (subst (λ old. AppendsTree c.deref.result.now c.args.expr.now c.args.string old new) old_is c.in_ok-append_tree.ensures) in
    (one_more body code new c.args.expr.now c.args.string c.self.invariant appends c.requires).0
    ∙ ap (λ code. trees_of code ++ (c.args.expr.now, c.args.string) ∷ []) is
