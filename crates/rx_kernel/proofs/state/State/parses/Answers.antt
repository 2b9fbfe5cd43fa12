use Rattle.std.proofs.Common.{IfOk, Err, ap, subst, sym, ◌∙◌}
use Rattle.std.proofs.lemmas.Bool.{false≢true}
use Rattle.rx_names.specs.Homes.{variables_at}
use Rattle.rx_machine.specs.Templates.{bound_all}
use Rattle.rx_kernel.specs.Parsing.{IsRead, bounds_of}
use Rattle.rx_kernel.specs.States.{world_of}
use Rattle.rx_kernel.specs.Stepping.{IsStepped}
use Rattle.rx_kernel.proofs.ParseLemmas.{all-of, parses-by, refuses-by}
use Rattle.rx_kernel.proofs.state.State.parses.Goals as goal

pub cuts-requires-clause-turn : goal.cuts-requires-clause-turn
cuts-requires-clause-turn c =
    let at = c.requires.turn.1 in (
      c.requires.turn.0,
      record {
        world = at.world;
        number = at.number;
        its_line = at.its_line;
        top = at.top;
        is_top = at.is_top;
        frame = at.frame;
        items = at.items;
        rest = at.rest;
      },
    )

pub returns-in-Ok : goal.returns-in-Ok
returns-in-Ok c = λ t turn.
    let stacks = c.args.self.now.parts.stacks in
    let pools = c.args.self.now.parts.pools in
    let found = all-of (bound_all (variables_at stacks c.args.a) pools c.as_slice.result.now) c.in-Ok.bounds c.in-Ok.ensures in
    subst (λ so. IfOk c.cuts.result (λ stepped. IsStepped (world_of c.args.self.now) so stepped (world_of c.cuts.new.self)))
    (parses-by c.args.self.now c.args.a c.args.here t turn c.args.parse.now c.args.values.now _
    (ap (bound_all (variables_at stacks c.args.a) pools) (sym c.as_slice.ensures) ∙ found.1.0))
    (c.cuts.ensures t
    (record {
      world = turn.world;
      number = turn.number;
      its_line = turn.its_line;
      top = turn.top;
      is_top = turn.is_top;
      frame = turn.frame;
      items = turn.items;
      rest = turn.rest;
    })
    found.0 (found.1.1 ∙ sym c.as_slice-in-Ok.ensures))

pub returns-in_ok-refuse-in-Err : goal.returns-in_ok-refuse-in-Err
returns-in_ok-refuse-in-Err c = λ t turn.
    refuses-by c.args.self.now c.args.a c.args.here t turn c.args.parse.now c.args.values.now c.in-Err.refused (world_of c.refuse.new.self)
    (subst (λ templates. IsRead (Err c.in-Err.refused) (bounds_of (variables_at c.args.self.now.parts.stacks c.args.a) c.args.self.now.parts.pools templates)) c.as_slice.ensures
    c.in-Err.ensures)
    c.in_ok-refuse-in-Err.ensures.raised (λ is. false≢true (c.in_ok-refuse-in-Err.ensures.memory is))
