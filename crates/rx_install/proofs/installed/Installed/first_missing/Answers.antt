use Rattle.std.proofs.Common.{ap, sym, ◌∙◌}
use Rattle.std.specs.Prelude.{is_some}
use Rattle.rx_classes.specs.Classes.{class_named}
use Rattle.rx_install.proofs.NameLemmas.{first_missing-more}
use Rattle.rx_install.proofs.installed.Installed.first_missing.Goals as goal

pub loop-at-preserved : goal.loop-at-preserved
loop-at-preserved c =
    first_missing-more c.args.self.now c.args.class.now c.loop-at.at c.name_at-name.result.now c.name_at-name.ensures
    (ap (λ name. is_some (class_named c.args.self.now name)) (sym c.bytes.ensures.bytes) ∙ sym c.has.ensures ∙ c.if-not-has.false)
    c.loop-at.invariant
