-- The way from superclass to superclass, as the table goes it.
use Rattle.std.proofs.Common.{◌≡◌, ℕ, suc, zero, ◌<◌, ◌≤◌, Bool, true, false, cond, nat_eq, Option, None, Some, List, refl, sym, ap, subst, ◌∙◌, arith}
use Rattle.std.proofs.lemmas.Bool.{lt-ltb}
use Rattle.rx_tree.specs.declared.class.ClassDef.{ClassDef}
use Rattle.rx_classes.specs.Natives.{object_class}
use Rattle.rx_classes.specs.Classes.{IsClass, before, class_at, parent_by, parent_of, is_mixin}
use Rattle.rx_classes.specs.Orders.{base_of, has, order}
use Rattle.rx_classes.specs.Installing.{CanInstall}
use Rattle.rx_classes.specs.Kept.{IsAbove, Same, Further}
use Rattle.rx_classes.proofs.ListLemmas.{nat_eq-refl, nat_eq-is}
use Rattle.rx_classes.proofs.ClassLemmas.{class_at-number, parent_of-below}
use Rattle.rx_classes.proofs.OrderLemmas.{base_of-is, base_above}
use Rattle.rx_classes.proofs.AboveLemmas.{above-least, above-down, above-order, above-trans, down-parent, base_of-plain, have_parents, order-above}

-- ---- numbers

pub above-class : (classes : List ClassDef) (above class : ℕ) → IsAbove classes above class → IsClass classes class → IsClass classes above
above-class classes above class Same so = so
above-class classes above class (Further _ parent is on) so =
    let below = parent_of-below classes class parent is in
    above-class classes above parent on (below.0, omega (arith, below.1, so.1))

base-by : (classes : List ClassDef) (class parent : ℕ) (mixin : Bool) → IsClass classes parent
    → (mixin ≡ true → IsClass classes (base_of classes parent)) → IsClass classes (cond mixin (base_of classes parent) parent)
base-by classes class parent true is so = so refl
base-by classes class parent false is so = is

base-above : (classes : List ClassDef) (class : ℕ) (parent : Option ℕ) → IsClass classes class → ((p : ℕ) → parent ≡ Some p → IsClass classes p × IsClass classes (base_of classes p))
    → IsClass classes (base_above classes (base_of classes) class parent)
base-above classes class None is so = is
base-above classes class (Some p) is so = let at = so p refl in base-by classes class p (is_mixin classes p) at.0 (λ mixin. at.1)

base-class-within : (classes : List ClassDef) (turns class : ℕ) → class ≤ turns → IsClass classes class → IsClass classes (base_of classes class)
base-class-within classes zero class few is = absurd (omega (arith, few, is.0))
base-class-within classes (suc turns) class few is =
    subst (λ (b : ℕ). IsClass classes b) (sym (base_of-is classes class (omega (arith, is.0))))
    (base-above classes class (parent_of classes class) is
    (λ p up. let below = parent_of-below classes class p up in
    let at : IsClass classes p = (below.0, omega (arith, below.1, is.1)) in
    (at, base-class-within classes turns p (omega (arith, below.1, few)) at)))

pub base-class : (classes : List ClassDef) (class : ℕ) → IsClass classes class → IsClass classes (base_of classes class)
base-class classes class is = base-class-within classes class class (omega arith) is

-- a class of the package has a base class that is no mixin
pub base-plain : (classes : List ClassDef) (class : ℕ) (def : ClassDef) → CanInstall classes → class_at classes class ≡ Some def
    → is_mixin classes (base_of classes class) ≡ false
base-plain classes class def all at =
    let where' = class_at-number classes class def at in
    base_of-plain classes class (have_parents classes all) (omega (arith, where'.0)) where'.1

-- ---- native classes

pub object-parent : (classes : List ClassDef) (class : ℕ) → class_at classes class ≡ None → object_class < class → parent_of classes class ≡ Some object_class
object-parent classes class at some =
    ap (parent_by (before classes class) class) at ∙ ap (λ (b : Bool). cond b (Some object_class) None) (lt-ltb object_class class some)

pub object-above : (classes : List ClassDef) (class : ℕ) → class_at classes class ≡ None → object_class < class → IsAbove classes object_class class
object-above classes class at some = Further class object_class (object-parent classes class at some) Same

pub same-above : (classes : List ClassDef) (above class : ℕ) → above ≡ class → IsAbove classes above class
same-above classes above class is = subst (λ (c : ℕ). IsAbove classes above c) is Same

-- ---- going up

-- What a class stands under it stands under as well from further up.
pub record IsSame (classes : List ClassDef) (above class next : ℕ) : Type 0 where
  pub at : IsClass classes next
  pub to : IsAbove classes above class → IsAbove classes above next
  pub from : IsAbove classes above next → IsAbove classes above class

pub goes-up : (classes : List ClassDef) (above class next up : ℕ) → IsAbove classes up next → above ≤ up → IsSame classes above class next → IsSame classes above class up
goes-up classes above class next up on least so = record {
  at = above-class classes up next on so.at;
  to = λ a. above-down classes above up next on least (so.to a);
  from = λ a. so.from (above-trans classes above up next a on);
}

pub parent-up : (classes : List ClassDef) (above class next parent : ℕ) → parent_of classes next ≡ Some parent → above < next → IsSame classes above class next
    → IsSame classes above class parent
parent-up classes above class next parent is less so = record {
  at = (below.0, omega (arith, below.1, so.at.1));
  to = λ a. above-step a;
  from = λ a. so.from (Further next parent is a);
}
  where
    below : (object_class ≤ parent) × (parent < next)
    below = parent_of-below classes next parent is

    above-step : IsAbove classes above class → IsAbove classes above parent
    above-step a = down-parent classes above next parent is less (so.to a)

true-by : (r : Bool) → (r ≡ true → ⊥) → r ≡ false
true-by true never = absurd (never refl)
true-by false never = refl

-- at the end of the way
pub ends : (classes : List ClassDef) (above class next : ℕ) → CanInstall classes → IsClass classes above → IsClass classes class → is_mixin classes above ≡ false
    → next ≤ above → IsSame classes above class next → nat_eq next above ≡ has (order classes class) above
ends classes above class next all is at plain less so = by (nat_eq next above) refl
  where
    by : (same : Bool) → nat_eq next above ≡ same → same ≡ has (order classes class) above
    by true e =
        let there : IsAbove classes above class = so.from (same-above classes above next (sym (nat_eq-is next above e))) in
        sym (order-above classes above class (omega (arith, is.0)) there)
    by false e =
        sym (true-by (has (order classes class) above)
        (λ there. other e (above-least classes above next (so.to (above-order classes class above all at.0 at.1 plain there)))))
      where
        other : nat_eq next above ≡ false → above ≤ next → ⊥
        other e' more =
            let same : next ≡ above = omega (arith, less, more) in
            let yes' : nat_eq next above ≡ true = subst (λ (n : ℕ). nat_eq next n ≡ true) same (nat_eq-refl next) in
            cc
