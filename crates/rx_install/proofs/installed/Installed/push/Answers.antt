use Rattle.std.proofs.Common.{◌≡◌, true, sym, ◌∙◌}
use Rattle.rx_vars.specs.Tables.{with_entry}
use Rattle.rx_install.proofs.NameLemmas.{from-ok, named-with}
use Rattle.rx_install.proofs.installed.Installed.push.Goals as goal

pub invariant_of-self-else-is_err : goal.invariant_of-self-else-is_err
invariant_of-self-else-is_err c =
    named-with c.self.inside.classes c.push.new.self c.args.class c.self.inside.names c.insert-named.new.self c.bytes.result.now c.self.invariant
    c.in_ok-push.ensures.ok (c.bytes.ensures.bytes ∙ c.in_ok-name.ensures.same)
    (from-ok c.insert-named.result (c.insert-named.new.self ≡ with_entry c.self.inside.names c.bytes.result.now true) (sym c.is_err.ensures.value ∙ c.if-is_err.false) c.insert-named.ensures.ok)
