use Rattle.std.proofs.Common.{◌-◌, ◌∙◌, List, ap, subst}
use Rattle.std.specs.Prelude.{slice_get}
use Rattle.rx_classes.specs.declared.class.Class.{Class}
use Rattle.rx_tree.specs.declared.class.ClassDef.{ClassDef}
use Rattle.rx_classes.specs.Installing.{CanInstall}
use Rattle.rx_classes.specs.Natives.{first_class}
use Rattle.rx_classes.proofs.KeptLemmas.{kept-linked}
use Rattle.rx_classes.proofs.table.ClassTable.kept.Goals as goal

pub returns-clause-linked : goal.returns-clause-linked
returns-clause-linked c =
    kept-linked c.self.inside.classes.items c.args.self.now c.args.class c.at.result c.self.invariant.linked c.self.view_is
    c.if-class-lt-FIRST_CLASS.false
    (c.at.ensures ∙ ap (λ (kept : List Class). slice_get kept (c.args.class - first_class)) c.as_slice-classes.ensures.value)

pub returns-clause-installed : goal.returns-clause-installed
returns-clause-installed c = subst (λ (classes : List ClassDef). CanInstall classes) c.self.view_is c.self.invariant.installed

pub returns-then-class-lt-FIRST_CLASS-clause-installed : goal.returns-then-class-lt-FIRST_CLASS-clause-installed
returns-then-class-lt-FIRST_CLASS-clause-installed c = subst (λ (classes : List ClassDef). CanInstall classes) c.self.view_is c.self.invariant.installed
