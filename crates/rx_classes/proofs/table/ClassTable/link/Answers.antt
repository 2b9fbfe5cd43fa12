use Rattle.std.proofs.Common.{◌∷◌, ◌∙◌, ℕ, List, Bool, cond, refl, ap, sym}
use Rattle.std.specs.List.{filter_map}
use Rattle.rx_classes.specs.Classes.{class_named}
use Rattle.rx_classes.specs.Orders.{base_of}
use Rattle.rx_classes.proofs.ClassLemmas.{class_named-below}
use Rattle.rx_classes.proofs.LinkLemmas.{linked-last}
use Rattle.rx_classes.proofs.table.ClassTable.link.Goals as goal
use Rattle.rx_classes.proofs.table.ClassTable.link.Goals.{then-is_mixin, else-is_mixin}

pub way_below-depth-requires : goal.way_below-depth-requires
way_below-depth-requires c = class_named-below c.args.self.now c.args.def.parent c.args.parent c.requires.parent

pub returns-clause-linked : goal.returns-clause-linked
returns-clause-linked c =
    linked-last c.args.self.now c.args.def _ refl c.requires.parent
    (c.in_ok-superclasses.ensures ∙ ap (λ (names : List (List ℕ)). c.args.parent ∷ filter_map (class_named c.args.self.now) names) c.as_slice.ensures)
    (elim c.if-is_mixin.branch [
      | then-is_mixin w ↦
          w.base-is ∙ w.base-base.ensures.base
          ∙ sym (ap (λ (b : Bool). cond b (base_of c.args.self.now c.args.parent) c.args.parent) (sym c.is_mixin.ensures ∙ w.if-is_mixin.true))
      | else-is_mixin w ↦
          w.base-is
          ∙ sym (ap (λ (b : Bool). cond b (base_of c.args.self.now c.args.parent) c.args.parent) (sym c.is_mixin.ensures ∙ w.if-is_mixin.false))
    ])
    c.way_below-depth.ensures c.requires.methods
