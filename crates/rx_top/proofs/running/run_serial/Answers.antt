use Rattle.std.proofs.Common.{◌≡◌, ◌∷◌, [], ◌++◌, rules, subst}
use Rattle.rx_top.specs.declared.feeding.Fed.{Fed}
use Rattle.rx_top.specs.Running.{IsTried}
use Rattle.rx_top.proofs.LineLemmas.{shrinks-then}
use Rattle.rx_top.proofs.CourseLemmas.{goes-on, last-is, spends}
use Rattle.rx_top.proofs.running.run_serial.Goals as goal

pub returns-in_err-try_step-clause-shrinks : goal.returns-in_err-try_step-clause-shrinks
returns-in_err-try_step-clause-shrinks g c =
    shrinks-then (g.I.Source.left c.args.input.now) (g.I.Source.left c.loop-a.input) (g.I.Source.left c.try_step.new.input)
    c.loop-a.invariant.shrinks c.try_step.ensures.shrinks

pub returns-in_err-push-in-Done-clause-shrinks : goal.returns-in_err-push-in-Done-clause-shrinks
returns-in_err-push-in-Done-clause-shrinks g c =
    shrinks-then (g.I.Source.left c.args.input.now) (g.I.Source.left c.loop-a.input) (g.I.Source.left c.try_step.new.input)
    c.loop-a.invariant.shrinks c.try_step.ensures.shrinks

pub returns-in-Failed-clause-shrinks : goal.returns-in-Failed-clause-shrinks
returns-in-Failed-clause-shrinks g c =
    shrinks-then (g.I.Source.left c.args.input.now) (g.I.Source.left c.loop-a.input) (g.I.Source.left c.try_step.new.input)
    c.loop-a.invariant.shrinks c.try_step.ensures.shrinks

pub loop-a-smaller : goal.loop-a-smaller
loop-a-smaller g c =
    spends c.loop-a.kernel c.try_step.new.kernel c.in-Some.a (g.I.Source.left c.loop-a.input) (g.I.Source.left c.try_step.new.input)
    c.in-Some.ensures.enabled c.in-Some.ensures.going
    (subst (λ (one : Fed). IsTried c.loop-a.kernel c.try_step.new.kernel c.in-Some.a (g.I.Source.left c.loop-a.input) (g.I.Source.left c.try_step.new.input) one)
    c.in-Done.is c.in_ok-try_step.ensures.tried)

pub loop-a-preserved : goal.loop-a-preserved
loop-a-preserved g c =
    let pushed : c.push.new.self.items ≡ c.loop-a.picks.items ++ c.in-Some.a ∷ [] = search rules in
    record {
      goes = goes-on c.args.kernel.now c.loop-a.kernel c.try_step.new.kernel c.loop-a.picks.items c.push.new.self.items c.loop-a.last c.in-Some.a
          (g.I.Source.left c.args.input.now) (g.I.Source.left c.loop-a.input) (g.I.Source.left c.try_step.new.input)
          c.loop-a.invariant.goes c.loop-a.invariant.last c.in-Some.ensures
          (subst (λ (one : Fed). IsTried c.loop-a.kernel c.try_step.new.kernel c.in-Some.a (g.I.Source.left c.loop-a.input) (g.I.Source.left c.try_step.new.input) one)
          c.in-Done.is c.in_ok-try_step.ensures.tried) pushed;
      last = last-is c.loop-a.picks.items c.push.new.self.items c.in-Some.a pushed;
      later = search rules;
      shrinks = shrinks-then (g.I.Source.left c.args.input.now) (g.I.Source.left c.loop-a.input) (g.I.Source.left c.try_step.new.input)
          c.loop-a.invariant.shrinks c.try_step.ensures.shrinks;
    }
