use Rattle.std.proofs.Common.{Some, None, ap, ◌∙◌}
use Rattle.std.specs.Option.{option_copied}
use Rattle.rx_vars.specs.Tables.{table_of}
use Rattle.rx_heap.proofs.StampLemmas.{absent, found_at}
use Rattle.rx_heap.proofs.directory.Directory.get.Goals as goal

pub returns-in_err-stamp : goal.returns-in_err-stamp
returns-in_err-stamp c =
    ap option_copied c.from_residual.ensures
    ∙ absent (table_of c.self.inside.stamps.entries) c.self.inside.entries.entries c.self.inside.next c.args.name.now c.args.self.now c.self.invariant c.in_err-stamp.ensures c.self.view_is

pub returns-in_err-entry : goal.returns-in_err-entry
returns-in_err-entry c =
    ap option_copied c.from_residual-in_err-entry.ensures
    ∙ found_at (table_of c.self.inside.stamps.entries) c.self.inside.entries.entries c.self.inside.next c.in_ok-stamp.stamp c.args.name.now c.args.self.now None c.self.invariant
    c.in_ok-stamp.ensures c.in_err-entry.ensures.value c.self.view_is

pub returns : goal.returns
returns c =
    found_at (table_of c.self.inside.stamps.entries) c.self.inside.entries.entries c.self.inside.next c.in_ok-stamp.stamp c.args.name.now c.args.self.now
    (Some c.in_ok-entry.entry.now) c.self.invariant c.in_ok-stamp.ensures c.in_ok-entry.ensures.value c.self.view_is
