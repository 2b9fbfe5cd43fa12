use Rattle.std.proofs.Common.{◌≡◌, ◌<◌, ◌+◌, ◌-◌, length, Option, Some, None, refl, sym, ◌∙◌, subst, arith}
use Rattle.std.specs.Prelude.{IfNone}
use Rattle.rx_frames.specs.declared.position.Loop.{Loop}
use Rattle.rx_flow.specs.Finds.{IsMeant, IsTurn, IsNoTurn}
use Rattle.rx_flow.proofs.LoopLemmas.{Sought, sought_none, sought_more, sought_found, sought_nowhere}
use Rattle.rx_flow.proofs.loops.find_loop.Goals as goal

if_none : {A : Type 0} (o : Option A) (P : Type 0) → P → IfNone o P
if_none None P p = p
if_none (Some x) P p = tt

pub loop-around-init : goal.loop-around-init
loop-around-init c = record {
  within = omega arith;
  sought = sought_none c.args.body.now.clauses c.args.loops.now c.args.wanted.now (length c.args.loops.now) refl;
}

pub bounds-loops-around : goal.bounds-loops-around
bounds-loops-around c = omega (arith, c.loop-around.invariant.within, c.loop-around-test.true)

pub bounds-loops-around-in-loop-around : goal.bounds-loops-around-in-loop-around
bounds-loops-around-in-loop-around c = omega (arith, c.loop-around.invariant.within, c.loop-around-test.true)

pub returns-in_err-there-clause-none : goal.returns-in_err-there-clause-none
returns-in_err-there-clause-none c =
    let body = c.args.body.now.clauses in
    let around = c.loop-around.around - 1 in
    let loop = c.index-loops-around.result in
    let near : around + 1 ≡ c.loop-around.around = omega (arith, c.loop-around-test.true) in
    let lt : around < length c.args.loops.now = omega (arith, c.loop-around.invariant.within, c.loop-around-test.true) in
    if_none c.from_residual.result _
    (sought_nowhere body c.args.loops.now c.args.wanted.now around loop lt c.index-loops-around.is
    (subst (λ (l : Loop). IsNoTurn body l.turn) (sym c.index-loops-around.is) c.in_err-there.ensures.none)
    (subst (Sought body c.args.loops.now c.args.wanted.now) (sym near) c.loop-around.invariant.sought))

pub returns-then-is_meant_at-clause-meant : goal.returns-then-is_meant_at-clause-meant
returns-then-is_meant_at-clause-meant c =
    let body = c.args.body.now.clauses in
    let around = c.loop-around.around - 1 in
    let loop = c.index-loops-around.result in
    let near : around + 1 ≡ c.loop-around.around = omega (arith, c.loop-around-test.true) in
    let lt : around < length c.args.loops.now = omega (arith, c.loop-around.invariant.within, c.loop-around-test.true) in
    subst (λ (l : Loop). IsMeant body c.args.loops.now c.args.wanted.now (record { around = around; turn = l.turn; end = c.in_ok-there.there.end }))
    c.index-loops-around.is
    (sought_found c.args.code.now body c.args.loops.now c.args.wanted.now around loop c.in_ok-there.there c.requires.stands lt c.index-loops-around.is
    (subst (λ (l : Loop). IsTurn body l.turn c.in_ok-there.there) (sym c.index-loops-around.is) c.in_ok-there.ensures.turn)
    (sym c.is_meant_at.ensures ∙ c.if-is_meant_at.true)
    (subst (Sought body c.args.loops.now c.args.wanted.now) (sym near) c.loop-around.invariant.sought))

pub loop-around-preserved : goal.loop-around-preserved
loop-around-preserved c =
    let body = c.args.body.now.clauses in
    let around = c.loop-around.around - 1 in
    let loop = c.index-loops-around.result in
    let near : around + 1 ≡ c.loop-around.around = omega (arith, c.loop-around-test.true) in
    let lt : around < length c.args.loops.now = omega (arith, c.loop-around.invariant.within, c.loop-around-test.true) in
    record {
      within = omega (arith, lt);
      sought =
          sought_more c.args.code.now body c.args.loops.now c.args.wanted.now around loop c.in_ok-there.there c.requires.stands lt c.index-loops-around.is
          (subst (λ (l : Loop). IsTurn body l.turn c.in_ok-there.there) (sym c.index-loops-around.is) c.in_ok-there.ensures.turn)
          (sym c.is_meant_at.ensures ∙ c.if-is_meant_at.false)
          (subst (Sought body c.args.loops.now c.args.wanted.now) (sym near) c.loop-around.invariant.sought);
    }
