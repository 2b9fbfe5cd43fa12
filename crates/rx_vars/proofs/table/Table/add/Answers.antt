use Rattle.std.proofs.Common.{◌≡◌, true, false, cond, ◌∙◌, sym, ap}
use Rattle.std.specs.Prelude.{is_some}
use Rattle.rx_vars.specs.Tables.{look_up, with_entry}
use Rattle.rx_vars.proofs.TableLemmas.{look_up-entries}
use Rattle.rx_vars.proofs.table.Table.add.Goals as goal

pub returns-then-contains_key-clause-ok : goal.returns-then-contains_key-clause-ok
returns-then-contains_key-clause-ok g c =
    let there : is_some (look_up c.args.self.now c.args.name.now) ≡ true =
    ap (λ table. is_some (look_up table c.args.name.now)) (sym c.self.view_is)
    ∙ ap is_some (sym (look_up-entries c.self.inside.entries.entries c.args.name.now))
    ∙ sym c.contains_key.ensures ∙ c.if-contains_key.true in
    ap (λ b. cond b c.args.self.now (with_entry c.args.self.now c.args.name.now c.args.value)) (sym there)

pub returns-clause-ok : goal.returns-clause-ok
returns-clause-ok g c =
    let absent : is_some (look_up c.args.self.now c.args.name.now) ≡ false =
    ap (λ table. is_some (look_up table c.args.name.now)) (sym c.self.view_is)
    ∙ ap is_some (sym (look_up-entries c.self.inside.entries.entries c.args.name.now))
    ∙ sym c.contains_key.ensures ∙ c.if-contains_key.false in
    rw absent c.insert.ensures.ok
