use Rattle.std.proofs.Common.{◌≡◌, true, [], subst, rules}
use Rattle.std.specs.Arc.{arc_value}
use Rattle.rx_eval.specs.Names.{Lists}
use Rattle.rx_eval.specs.Places.{fits}
use Rattle.rx_eval.specs.Reaching.{Suffice}
use Rattle.rx_eval.proofs.NotingLemmas.{names_suffice}
use Rattle.rx_eval.proofs.ready.Ready.names.Goals as goal

pub returns : goal.returns
returns c =
    let inside = c.self.inside in
    let names = c.names.result.now in
    let is : c.deref.result.now ≡ arc_value c.self.inside.code = search rules in
    let whole = subst (λ code. fits code.body code.instrs [] ≡ true) is c.names.ensures.whole in
    let listed = subst (λ code. Lists c.names.result.now code.instrs) is c.names.ensures.listed in
    subst (λ going. Suffice going c.names.result.now) c.self.view_is
    (λ facts value noted are. names_suffice (arc_value inside.code) facts inside.place inside.values value names noted whole c.self.invariant listed are)
