use Rattle.std.proofs.Common.{sym, subst}
use Rattle.rx_machine.proofs.WantLemmas.{wants-where}
use Rattle.rx_top.specs.declared.feeding.Fed.{Fed}
use Rattle.rx_top.specs.Feeding.{IsFed}
use Rattle.rx_top.specs.Running.{IsTried}
use Rattle.rx_top.proofs.CourseLemmas.{enabled-gets, going-gets, steps-behind}
use Rattle.rx_top.proofs.running.step_behind.Goals as goal

pub feed-requires : goal.feed-requires
feed-requires g c = record { unknown = (wants-where c.args.kernel.now c.args.a c.requires.wants).1 }

pub step_fed-requires-clause-enabled : goal.step_fed-requires-clause-enabled
step_fed-requires-clause-enabled g c =
    enabled-gets c.args.kernel.now c.feed.new.kernel (g.I.Source.left c.args.input.now) (g.I.Source.left c.feed.new.input) c.args.a
    (subst (λ (one : Fed). IsFed c.args.kernel.now c.feed.new.kernel (g.I.Source.left c.args.input.now) (g.I.Source.left c.feed.new.input) one)
    c.in-Done.is c.in_ok-fed.ensures.fed) c.requires.enabled

pub step_fed-requires-clause-going : goal.step_fed-requires-clause-going
step_fed-requires-clause-going g c =
    going-gets c.args.kernel.now c.feed.new.kernel (g.I.Source.left c.args.input.now) (g.I.Source.left c.feed.new.input)
    (subst (λ (one : Fed). IsFed c.args.kernel.now c.feed.new.kernel (g.I.Source.left c.args.input.now) (g.I.Source.left c.feed.new.input) one)
    c.in-Done.is c.in_ok-fed.ensures.fed) c.requires.going

pub returns-in_ok-step_fed-clause-tried : goal.returns-in_ok-step_fed-clause-tried
returns-in_ok-step_fed-clause-tried g c =
    subst (λ (one : Fed). IsTried c.args.kernel.now c.step_fed.new.kernel c.args.a (g.I.Source.left c.args.input.now) (g.I.Source.left c.feed.new.input) one)
    (sym c.in-Done.is)
    (steps-behind c.args.kernel.now c.feed.new.kernel c.step_fed.new.kernel c.args.a (g.I.Source.left c.args.input.now) (g.I.Source.left c.feed.new.input)
    c.requires.wants
    (subst (λ (one : Fed). IsFed c.args.kernel.now c.feed.new.kernel (g.I.Source.left c.args.input.now) (g.I.Source.left c.feed.new.input) one)
    c.in-Done.is c.in_ok-fed.ensures.fed)
    c.in_ok-step_fed.ensures)
