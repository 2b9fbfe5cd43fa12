use Rattle.std.proofs.Common.{◌≡◌, ◌+◌, [], ◌∷◌, length, sym, ◌∙◌, ap, subst}
use Rattle.rx_classes.specs.Installing.{CanInstall}
use Rattle.rx_classes.specs.Natives.{message_class}
use Rattle.rx_heap.specs.Objects.{first_objects}
use Rattle.rx_native.specs.Fitting.{Fits}
use Rattle.rx_frames.specs.declared.activity.Wait.TheVariants as wait
use Rattle.rx_frames.specs.Activities.{waiting}
use Rattle.rx_kernel.proofs.OpenLemmas.{first-codes, first_of, fits-first, opens}
use Rattle.rx_kernel.proofs.state.State.begin.Goals as goal

pub invariant_of-result : goal.invariant_of-result
invariant_of-result c =
    let table : c.in_ok-class_table.field-0 ≡ c.args.program.classes = c.in_ok-class_table.ensures.classes ∙ c.classes-2.ensures in
    let objects : c.in_ok-first_objects.field-0 ≡ first_objects (message_class + length c.args.program.classes) =
    c.in_ok-first_objects.ensures ∙ ap (λ classes. first_objects (message_class + length classes)) c.classes.ensures in
    let stacks : c.in_ok-first_stacks.field-0 ≡ first_of c.args.program c.args.argument =
    c.in_ok-first_stacks.ensures ∙ ap (λ frame. waiting wait.Nothing (frame ∷ []) ∷ []) c.in_ok-frame.ensures in
    record {
      classes = λ running. table;
      can_install = λ running. subst CanInstall (sym table) c.requires.classes;
      fits = λ running. subst (λ classes. Fits classes c.in_ok-first_objects.field-0) (sym table) (fits-first c.args.program.classes c.in_ok-first_objects.field-0 objects);
      codes = λ running. first-codes c.args.program c.args.argument c.in_ok-first_stacks.field-0 stacks;
    }

pub returns-clause-opening : goal.returns-clause-opening
returns-clause-opening c =
    opens c.args.program c.args.argument c.args.budget c.in_ok-first_stacks.field-0 c.in_ok-first_objects.field-0 c.new.result c.new-2.result c.new-3.result
    c.new-4.result.items c.new-5.result.items
    (c.in_ok-first_stacks.ensures ∙ ap (λ frame. waiting wait.Nothing (frame ∷ []) ∷ []) c.in_ok-frame.ensures)
    (c.in_ok-first_objects.ensures ∙ ap (λ classes. first_objects (message_class + length classes)) c.classes.ensures)
    c.new.ensures c.new-2.ensures c.new-3.ensures c.new-4.ensures.items c.new-5.ensures.items
