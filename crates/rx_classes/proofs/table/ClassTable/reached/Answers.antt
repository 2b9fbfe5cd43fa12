use Rattle.std.proofs.Common.{◌<◌, ℕ, List, [], ◌∷◌, ◌++◌, reverse, ◌∙◌, sym, ap, subst, arith}
use Rattle.rx_classes.specs.declared.table.ordering.Visit.{Visit}
use Rattle.rx_classes.specs.declared.table.ordering.Visit.TheVariants.{Enter}
use Rattle.rx_classes.proofs.VisitLemmas.{IsOnWay, begins, enters, passes, leaves, fewer-enters, fewer-passes, fewer-leaves, has-reverse, insert-front, last-of, popped, steps_left}
use Rattle.rx_classes.proofs.table.ClassTable.reached.Goals as goal

pub loop-visit-init : goal.loop-visit-init
loop-visit-init c =
    subst (λ (left : List Visit). IsOnWay c.args.self.now c.args.class left (reverse c.new-reached.result.keys))
    (sym (c.in_ok-push.ensures.items ∙ ap (λ (left : List Visit). left ++ Enter c.args.class ∷ []) c.new-left.ensures.items))
    (subst (λ (keys : List ℕ). IsOnWay c.args.self.now c.args.class (Enter c.args.class ∷ []) (reverse keys))
    (sym c.new-reached.ensures.empty) (begins c.args.self.now c.args.class (omega (arith, c.requires.0))))

pub loop-visit-preserved-in-Continue-branch-2 : goal.loop-visit-preserved-in-Continue-branch-2
loop-visit-preserved-in-Continue-branch-2 c =
    subst (λ (left : List Visit). IsOnWay c.args.self.now c.args.class left (reverse c.loop-visit.reached.keys))
    (sym c.in_ok-enter-in-Enter.ensures)
    (enters c.args.self.now c.args.class c.pop.new.self.items c.in-Enter.class (reverse c.loop-visit.reached.keys)
    (popped c.args.self.now c.args.class _ _ _ _ _ c.in-Some.ensures.items c.in-Enter.is c.loop-visit.invariant))

pub loop-visit-smaller-in-Continue-branch-2 : goal.loop-visit-smaller-in-Continue-branch-2
loop-visit-smaller-in-Continue-branch-2 c =
    last-of c.args.self.now _ _ _ _ _ c.in-Some.ensures.items c.in-Enter.is
    (subst (λ (left : List Visit). steps_left c.args.self.now left < steps_left c.args.self.now (c.pop.new.self.items ++ Enter c.in-Enter.class ∷ []))
    (sym c.in_ok-enter-in-Enter.ensures)
    (fewer-enters c.args.self.now c.args.class c.pop.new.self.items c.in-Enter.class (reverse c.loop-visit.reached.keys)
    (popped c.args.self.now c.args.class _ _ _ _ _ c.in-Some.ensures.items c.in-Enter.is c.loop-visit.invariant)))

pub loop-visit-preserved-else-not-contains : goal.loop-visit-preserved-else-not-contains
loop-visit-preserved-else-not-contains c =
    passes c.args.self.now c.args.class c.pop.new.self.items c.in-Enter.class (reverse c.loop-visit.reached.keys)
    (has-reverse c.loop-visit.reached.keys c.in-Enter.class ∙ sym c.if-not-contains.ensures)
    (popped c.args.self.now c.args.class _ _ _ _ _ c.in-Some.ensures.items c.in-Enter.is c.loop-visit.invariant)

pub loop-visit-smaller-else-not-contains : goal.loop-visit-smaller-else-not-contains
loop-visit-smaller-else-not-contains c =
    last-of c.args.self.now _ _ _ _ _ c.in-Some.ensures.items c.in-Enter.is
    (fewer-passes c.args.self.now c.args.class c.pop.new.self.items c.in-Enter.class (reverse c.loop-visit.reached.keys)
    (popped c.args.self.now c.args.class _ _ _ _ _ c.in-Some.ensures.items c.in-Enter.is c.loop-visit.invariant))

pub loop-visit-preserved : goal.loop-visit-preserved
loop-visit-preserved c =
    subst (λ (reached : List ℕ). IsOnWay c.args.self.now c.args.class c.pop.new.self.items reached)
    (sym (ap reverse c.in_ok-insert-in-Leave.ensures.keys ∙ insert-front c.loop-visit.reached.keys c.in-Leave.class))
    (leaves c.args.self.now c.args.class c.pop.new.self.items c.in-Leave.class (reverse c.loop-visit.reached.keys)
    (popped c.args.self.now c.args.class _ _ _ _ _ c.in-Some.ensures.items c.in-Leave.is c.loop-visit.invariant))

pub loop-visit-smaller : goal.loop-visit-smaller
loop-visit-smaller c =
    last-of c.args.self.now _ _ _ _ _ c.in-Some.ensures.items c.in-Leave.is
    (fewer-leaves c.args.self.now c.pop.new.self.items c.in-Leave.class)
