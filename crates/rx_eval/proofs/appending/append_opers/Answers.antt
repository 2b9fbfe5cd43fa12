use Rattle.std.proofs.Common.{◌≡◌, ◌∷◌, false, drop, arith, subst}
use Rattle.rx_tree.specs.declared.expr.Expr.TheVariants as e
use Rattle.rx_eval.specs.Whole.{IsBuilt}
use Rattle.rx_eval.proofs.Built.{turn_opers}
use Rattle.rx_eval.proofs.appending.append_opers.Goals as goal

pub loop-at-preserved : goal.loop-at-preserved
loop-at-preserved c = record {
  bound = omega arith;
  built = λ body inner trees b. turn_opers body c.args.opers.now c.loop-at.at inner c.args.code.now c.loop-at.code c.push.new.self _ trees (omega arith) c.loop-at.invariant.bound (c.loop-at.invariant.built body inner trees) c.in_ok-push.ensures.ok b;
}

pub returns : goal.returns
returns c =
    let zero : c.loop-at.at ≡ 0 = omega (arith, c.loop-at-test.false) in
    λ body inner trees b. subst (λ n. IsBuilt body c.loop-at.code ((e.Prefix (drop n c.args.opers.now) inner, false) ∷ trees)) zero (c.loop-at.invariant.built body inner trees b)
