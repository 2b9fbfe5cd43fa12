use Rattle.std.proofs.Common.{Some, None, sym, ◌∙◌}
use Rattle.rx_vars.specs.Tables.{table_of}
use Rattle.rx_heap.proofs.StampLemmas.{lacks, absent, absent_stays, found_at, taken_away, stamped-gone, stamped-less}
use Rattle.rx_heap.proofs.directory.Directory.remove.Goals as goal

pub invariant_of-self : goal.invariant_of-self
invariant_of-self c =
    stamped-gone (table_of c.self.inside.stamps.entries) (table_of c.forget.new.stamps.entries) c.self.inside.entries.entries c.self.inside.next c.args.name.now c.self.invariant
    (lacks (table_of c.self.inside.stamps.entries) c.self.inside.entries.entries c.self.inside.next c.args.name.now c.self.invariant (sym c.in_err-stamp.ensures.stamp))
    c.in_err-stamp.ensures.gone c.in_err-stamp.ensures.others

pub returns-in_err-stamp-clause-value : goal.returns-in_err-stamp-clause-value
returns-in_err-stamp-clause-value c =
    c.from_residual.ensures
    ∙ absent (table_of c.self.inside.stamps.entries) c.self.inside.entries.entries c.self.inside.next c.args.name.now c.args.self.now c.self.invariant c.in_err-stamp.ensures.stamp c.self.view_is

pub returns-in_err-stamp-clause-rest : goal.returns-in_err-stamp-clause-rest
returns-in_err-stamp-clause-rest c =
    absent_stays (table_of c.self.inside.stamps.entries) c.self.inside.entries.entries c.self.inside.next c.args.name.now c.args.self.now c.self.invariant
    c.in_err-stamp.ensures.stamp c.self.view_is

pub invariant_of-self-in_err-value : goal.invariant_of-self-in_err-value
invariant_of-self-in_err-value c =
    stamped-less (table_of c.self.inside.stamps.entries) (table_of c.forget.new.stamps.entries) c.self.inside.entries.entries c.remove.new.self.entries c.self.inside.next c.in_ok-stamp.stamp c.args.name.now
    c.self.invariant (sym c.in_ok-stamp.ensures.stamp) c.in_ok-stamp.ensures.gone c.in_ok-stamp.ensures.others
    c.remove.ensures.entries c.remove.ensures.updates.1

pub returns-in_err-value-clause-value : goal.returns-in_err-value-clause-value
returns-in_err-value-clause-value c =
    c.from_residual-in_err-value.ensures
    ∙ found_at (table_of c.self.inside.stamps.entries) c.self.inside.entries.entries c.self.inside.next c.in_ok-stamp.stamp c.args.name.now c.args.self.now None c.self.invariant
    c.in_ok-stamp.ensures.stamp c.in_err-value.ensures.value c.self.view_is

pub returns-in_err-value-clause-rest : goal.returns-in_err-value-clause-rest
returns-in_err-value-clause-rest c =
    taken_away (table_of c.self.inside.stamps.entries) c.self.inside.entries.entries c.remove.new.self.entries c.self.inside.next c.in_ok-stamp.stamp c.args.name.now c.args.self.now
    c.self.invariant c.in_ok-stamp.ensures.stamp c.remove.ensures.entries c.self.view_is

pub invariant_of-self-2 : goal.invariant_of-self-2
invariant_of-self-2 c =
    stamped-less (table_of c.self.inside.stamps.entries) (table_of c.forget.new.stamps.entries) c.self.inside.entries.entries c.remove.new.self.entries c.self.inside.next c.in_ok-stamp.stamp c.args.name.now
    c.self.invariant (sym c.in_ok-stamp.ensures.stamp) c.in_ok-stamp.ensures.gone c.in_ok-stamp.ensures.others
    c.remove.ensures.entries c.remove.ensures.updates.1

pub returns-clause-value : goal.returns-clause-value
returns-clause-value c =
    found_at (table_of c.self.inside.stamps.entries) c.self.inside.entries.entries c.self.inside.next c.in_ok-stamp.stamp c.args.name.now c.args.self.now
    (Some (c.in_ok-value.field-0-0, c.in_ok-value.value)) c.self.invariant
    c.in_ok-stamp.ensures.stamp c.in_ok-value.ensures.value c.self.view_is

pub returns-clause-rest : goal.returns-clause-rest
returns-clause-rest c =
    taken_away (table_of c.self.inside.stamps.entries) c.self.inside.entries.entries c.remove.new.self.entries c.self.inside.next c.in_ok-stamp.stamp c.args.name.now c.args.self.now
    c.self.invariant c.in_ok-stamp.ensures.stamp c.remove.ensures.entries c.self.view_is
