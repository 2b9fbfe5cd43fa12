-- Which classes stand above another one, and that these are the ones of its order that are no mixins.
use Rattle.std.proofs.Common.{◌≡◌, ℕ, suc, zero, ◌+◌, ◌-◌, ◌<◌, ◌≤◌, Bool, true, false, cond, nat_eq, nat_lt, not, Option, None, Some, List, [], ◌∷◌, ◌++◌, length, take, drop, refl, sym, ap, subst, ◌∙◌, arith, slice_get}
use Rattle.std.specs.Prelude.{is_none}
use Rattle.std.specs.Option.{option_map_or, option_to_list}
use Rattle.std.specs.List.{AllByRecursion as Each, filter_map, flat_map}
use Rattle.std.proofs.lemmas.Bool.{lt-ltb}
use Rattle.std.proofs.lemmas.List.{take-append-drop, length-take-le}
use Rattle.rx_tree.specs.declared.class.ClassDef.{ClassDef}
use Rattle.rx_classes.specs.Natives.{first_class, object_class}
use Rattle.rx_classes.specs.Classes.{before, class_at, class_named, object_above, parent_by, parent_of, superclasses, superclasses_by, is_mixin}
use Rattle.rx_classes.specs.Orders.{has, order, base_of}
use Rattle.rx_classes.specs.Installing.{CanInstall, has_base, names_mixin, order_of_name, refusal}
use Rattle.rx_classes.specs.Kept.{IsAbove, Same, Further}
use Rattle.rx_classes.proofs.RefusalLemmas.{refusal-none}
use Rattle.rx_classes.proofs.ListLemmas.{all-map, filter_map-among, find-none, has-among, has-joined, has-with, has-left, or-case, or-left, or-right, with_all, nat_eq-is, nat_eq-refl}
use Rattle.rx_classes.proofs.ClassLemmas.{class_at-number, class_named-below, parent_of-below, parent_of-more, is_mixin-more, named_before-below, object_above-below}
use Rattle.rx_classes.proofs.OrderLemmas.{order-is, order-more, base_of-is, base_of-more, base_above}

-- ---- the way from superclass to superclass

pub above-least : (classes : List ClassDef) (above class : ℕ) → IsAbove classes above class → above ≤ class
above-least classes above class Same = omega arith
above-least classes above class (Further _ parent is on) =
    omega (arith, (parent_of-below classes class parent is).1, above-least classes above parent on)

pub above-trans : (classes : List ClassDef) (first second third : ℕ) → IsAbove classes first second → IsAbove classes second third → IsAbove classes first third
above-trans classes first second third a Same = a
above-trans classes first second third a (Further _ parent is on) = Further third parent is (above-trans classes first second parent a on)

-- on the way there is one class after the other
pub down-parent : (classes : List ClassDef) (above class parent : ℕ) → parent_of classes class ≡ Some parent → above < class
    → IsAbove classes above class → IsAbove classes above parent
down-parent classes above class parent is less Same = absurd (omega (arith, less))
down-parent classes above class parent is less (Further _ other is' on) =
    let same : other ≡ parent = cc in subst (λ (p : ℕ). IsAbove classes above p) same on

pub above-down : (classes : List ClassDef) (above middle class : ℕ) → IsAbove classes middle class → above ≤ middle
    → IsAbove classes above class → IsAbove classes above middle
above-down classes above middle class Same less so = so
above-down classes above middle class (Further _ parent is on) less so =
    let small : above < class = omega (arith, less, above-least classes middle parent on, (parent_of-below classes class parent is).1) in
    above-down classes above middle parent on less (down-parent classes above class parent is small so)

pub above-more : (classes more : List ClassDef) (above class : ℕ) → class < first_class + length classes → IsAbove classes above class
    → IsAbove (classes ++ more) above class
above-more classes more above class less Same = Same
above-more classes more above class less (Further _ parent is on) =
    Further class parent (parent_of-more classes more class less ∙ is)
    (above-more classes more above parent (omega (arith, less, (parent_of-below classes class parent is).1)) on)

-- ---- the base class stands above its mixin

-- each class but Object has a superclass
abbrev pub HaveParents : List ClassDef → Type 0
HaveParents classes = (class : ℕ) → object_class < class → class < first_class + length classes → (parent : ℕ) × (parent_of classes class ≡ Some parent)

mixin-by : (classes : List ClassDef) (class : ℕ) (found : Option ClassDef) → class_at classes class ≡ found
    → option_map_or (λ (c : ClassDef). c.mixin) found false ≡ true → object_class < class
mixin-by classes class None at is = absurd cc
mixin-by classes class (Some found) at is = omega (arith, (class_at-number classes class found at).0)

-- no native class is a mixin
pub mixin-number : (classes : List ClassDef) (class : ℕ) → is_mixin classes class ≡ true → object_class < class
mixin-number classes class is = mixin-by classes class (class_at classes class) refl is

plain-by : (classes : List ClassDef) (parent : ℕ) (mixin : Bool) → is_mixin classes parent ≡ mixin
    → (mixin ≡ true → is_mixin classes (base_of classes parent) ≡ false) → is_mixin classes (cond mixin (base_of classes parent) parent) ≡ false
plain-by classes parent true is so = so refl
plain-by classes parent false is so = is

base-plain : (classes : List ClassDef) (turns class : ℕ) → HaveParents classes → class ≤ turns → object_class < class
    → class < first_class + length classes → is_mixin classes (base_of classes class) ≡ false
base-plain classes zero class all few some less = absurd (omega (arith, few, some))
base-plain classes (suc turns) class all few some less =
    let found = all class some less in
    let below = parent_of-below classes class found.0 found.1 in
    let is : base_of classes class ≡ base_above classes (base_of classes) class (Some found.0) =
    base_of-is classes class (omega (arith, some)) ∙ ap (base_above classes (base_of classes) class) found.1 in
    subst (λ (b : ℕ). is_mixin classes b ≡ false) (sym is)
    (plain-by classes found.0 (is_mixin classes found.0) refl
    (λ mixin. base-plain classes turns found.0 all (omega (arith, below.1, few)) (mixin-number classes found.0 mixin) (omega (arith, below.1, less))))

pub base_of-plain : (classes : List ClassDef) (class : ℕ) → HaveParents classes → object_class < class
    → class < first_class + length classes → is_mixin classes (base_of classes class) ≡ false
base_of-plain classes class all some less = base-plain classes class class all (omega arith) some less

-- a class that is no mixin and stands above a mixin stands above the mixin's base class, or is it
to-base : (classes : List ClassDef) (above parent : ℕ) (mixin : Bool) → is_mixin classes parent ≡ mixin → IsAbove classes above parent
    → (mixin ≡ true → IsAbove classes above (base_of classes parent)) → IsAbove classes above (cond mixin (base_of classes parent) parent)
to-base classes above parent true is on so = so refl
to-base classes above parent false is on so = on

pub above-base : (classes : List ClassDef) (above mixin : ℕ) → IsAbove classes above mixin → is_mixin classes above ≡ false → is_mixin classes mixin ≡ true
    → IsAbove classes above (base_of classes mixin)
above-base classes above mixin Same plain is = absurd cc
above-base classes above mixin (Further _ parent up on) plain is =
    let so : base_of classes mixin ≡ base_above classes (base_of classes) mixin (Some parent) =
    base_of-is classes mixin (omega (arith, mixin-number classes mixin is)) ∙ ap (base_above classes (base_of classes) mixin) up in
    subst (λ (b : ℕ). IsAbove classes above b) (sym so)
    (to-base classes above parent (is_mixin classes parent) refl on (λ is'. above-base classes above parent on plain is'))

-- ---- a class's order has what stands above it

has-own : (classes : List ClassDef) (class : ℕ) → 0 < class → has (order classes class) class ≡ true
has-own classes class some =
    subst (λ (xs : List ℕ). has xs class ≡ true) (sym (order-is classes class some))
    (has-with (class ∷ flat_map (order classes) (superclasses classes class)) [] class
    (or-left _ (has (flat_map (order classes) (superclasses classes class)) class) (nat_eq-refl class)))

one-parent : (classes : List ClassDef) (number parent : ℕ) (class : Option ClassDef) (f : ℕ → List ℕ) (y : ℕ)
    → parent_by (before classes number) number class ≡ Some parent → has (f parent) y ≡ true
    → has (flat_map f (superclasses_by (before classes number) number class)) y ≡ true
one-parent classes number parent None f y is so =
    subst (λ (o : Option ℕ). has (flat_map f (option_to_list o)) y ≡ true) (sym is) (has-left (f parent) [] y so)
one-parent classes number parent (Some class) f y is so =
    rw is (has-left (f parent) (flat_map f (filter_map (class_named (before classes number)) class.inherits)) y so)

has-parents : (classes : List ClassDef) (class parent above : ℕ) → parent_of classes class ≡ Some parent → has (order classes parent) above ≡ true
    → has (order classes class) above ≡ true
has-parents classes class parent above is so =
    let some : 0 < class = omega (arith, (parent_of-below classes class parent is).1) in
    let all = flat_map (order classes) (superclasses classes class) in
    subst (λ (xs : List ℕ). has xs above ≡ true) (sym (order-is classes class some))
    (has-with (class ∷ all) [] above
    (or-right _ (has all above) (one-parent classes class parent (class_at classes class) (order classes) above is so)))

pub order-above : (classes : List ClassDef) (above class : ℕ) → 0 < above → IsAbove classes above class → has (order classes class) above ≡ true
order-above classes above class some Same = has-own classes class some
order-above classes above class some (Further _ parent is on) =
    has-parents classes class parent above is (order-above classes above parent some on)

-- ---- and nothing else that is no mixin

not-false : (b : Bool) → not b ≡ false → b ≡ true
not-false true is = refl
not-false false is = cc

named-found : (named : Option ℕ) → is_none named ≡ false → (number : ℕ) × (named ≡ Some number)
named-found None is = absurd cc
named-found (Some number) is = (number, refl)

-- What the conditions of a class say of its names: its superclass and its mixins are there, and the base class of each mixin
-- is in the superclass's order.
pub record IsFit (classes : List ClassDef) (number : ℕ) (class : ClassDef) : Type 0 where
  pub parent : ℕ
  pub is : class_named (before classes number) class.parent ≡ Some parent
  pub mixins : Each (λ name. (mixin : ℕ) → class_named (before classes number) name ≡ Some mixin
      → (is_mixin classes mixin ≡ true) × (has (order classes parent) (base_of classes mixin) ≡ true)) class.inherits

both : {A : Type 0} (P Q : A → Type 0) (xs : List A) → Each P xs → Each Q xs → Each (λ x. P x × Q x) xs
both P Q [] ps qs = tt
both P Q (x ∷ xs) ps qs = ((ps.0, qs.0), both P Q xs ps.1 qs.1)

mixin-fit : (earlier : List ClassDef) (parent mixin : ℕ) (named over : Option ℕ)
    → named ≡ Some mixin → over ≡ Some parent → not (option_map_or (is_mixin earlier) named false) ≡ false
    → not (option_map_or (λ (m : ℕ). has (option_map_or (order earlier) over []) (base_of earlier m)) named false) ≡ false
    → (is_mixin earlier mixin ≡ true) × (has (order earlier parent) (base_of earlier mixin) ≡ true)
mixin-fit earlier parent mixin None over is up a b = absurd cc
mixin-fit earlier parent mixin (Some m) None is up a b = absurd cc
mixin-fit earlier parent mixin (Some m) (Some p) is up a b =
    let same : m ≡ mixin = cc in
    let same' : p ≡ parent = cc in (
      subst (λ (n : ℕ). is_mixin earlier n ≡ true) same (not-false (is_mixin earlier m) a),
      subst (λ (q : ℕ). has (order earlier q) (base_of earlier mixin) ≡ true) same'
          (subst (λ (n : ℕ). has (order earlier p) (base_of earlier n) ≡ true) same (not-false (has (order earlier p) (base_of earlier m)) b)),
    )

-- the same over all classes as over those before
fit-later : (classes earlier : List ClassDef) (parent mixin : ℕ) (later : List ClassDef) → earlier ++ later ≡ classes
    → parent < first_class + length earlier → mixin < first_class + length earlier
    → (is_mixin earlier mixin ≡ true) × (has (order earlier parent) (base_of earlier mixin) ≡ true)
    → (is_mixin classes mixin ≡ true) × (has (order classes parent) (base_of classes mixin) ≡ true)
fit-later classes earlier parent mixin later is a b so =
    subst (λ (cs : List ClassDef). (is_mixin cs mixin ≡ true) × (has (order cs parent) (base_of cs mixin) ≡ true)) is (
      is_mixin-more earlier later mixin b ∙ so.0,
      subst (λ (xs : List ℕ). has xs (base_of (earlier ++ later) mixin) ≡ true) (sym (order-more earlier later parent a))
          (subst (λ (n : ℕ). has (order earlier parent) n ≡ true) (sym (base_of-more earlier later mixin b)) so.1),
    )

option-fit : (classes : List ClassDef) (number : ℕ) (class : ClassDef) (parent : ℕ) → class_at classes number ≡ Some class
    → class_named (before classes number) class.parent ≡ Some parent
    → Each (λ name. is_none (class_named (before classes number) name) ≡ false) class.inherits
    → Each (λ name. not (names_mixin (before classes number) name) ≡ false) class.inherits
    → Each (λ name. not (has_base (before classes number) (order_of_name (before classes number) class.parent) name) ≡ false) class.inherits
    → IsFit classes number class
option-fit classes number class parent at is there mixins bases = record { parent = parent; is = is; mixins = mixins' }
  where
    earlier : List ClassDef
    earlier = take (number - first_class) classes

    bounds : (first_class ≤ number) × (number < first_class + length classes)
    bounds = class_at-number classes number class at

    few : length (take (number - first_class) classes) ≡ number - first_class
    few = length-take-le (number - first_class) classes (omega (arith, bounds))

    mixins' : Each (λ name. (mixin : ℕ) → class_named (before classes number) name ≡ Some mixin
        → (is_mixin classes mixin ≡ true) × (has (order classes parent) (base_of classes mixin) ≡ true)) class.inherits
    mixins' =
        all-map (λ name. (not (names_mixin (before classes number) name) ≡ false)
        × (not (has_base (before classes number) (order_of_name (before classes number) class.parent) name) ≡ false)) _ class.inherits
        (λ name both mixin named. fit-later classes (before classes number) parent mixin (drop (number - first_class) classes)
        (take-append-drop (number - first_class) classes)
        (class_named-below (before classes number) class.parent parent is).1
        (class_named-below (before classes number) name mixin named).1
        (mixin-fit (before classes number) parent mixin (class_named (before classes number) name) (class_named (before classes number) class.parent) named is both.0 both.1))
        (both _ _ class.inherits mixins bases)

at-place : (classes : List ClassDef) (number : ℕ) (class : ClassDef) (native : Bool) → cond native None (slice_get classes (number - first_class)) ≡ Some class
    → slice_get classes (number - first_class) ≡ Some class
at-place classes number class true at = absurd cc
at-place classes number class false at = at

pub fits : (classes : List ClassDef) (number : ℕ) (class : ClassDef) → CanInstall classes → class_at classes number ≡ Some class → IsFit classes number class
fits classes number class all at =
    let none : refusal (before classes number) class ≡ None = all (number - first_class) class (at-place classes number class (nat_lt number first_class) at) in
    let so = refusal-none (before classes number) class none in
    let there : Each (λ name. is_none (class_named (before classes number) name) ≡ false) (class.parent ∷ class.inherits) =
    find-none (λ name. is_none (class_named (before classes number) name)) (class.parent ∷ class.inherits) so.0 in
    let named = named-found (class_named (before classes number) class.parent) there.0 in
    option-fit classes number class named.0 at named.1 there.1
    (find-none (λ name. not (names_mixin (before classes number) name)) class.inherits so.1)
    (find-none (λ name. not (has_base (before classes number) (order_of_name (before classes number) class.parent) name)) class.inherits so.2)

-- each class of classes that can be installed, but Object, has a superclass
parents-by : (classes : List ClassDef) (number : ℕ) (class : Option ClassDef) → CanInstall classes → class_at classes number ≡ class → object_class < number
    → (parent : ℕ) × (parent_by (before classes number) number class ≡ Some parent)
parents-by classes number None all at some = (object_class, above-object number some)
  where
    above-object : (number : ℕ) → object_class < number → object_above number ≡ Some object_class
    above-object number some = ap (λ (b : Bool). cond b (Some object_class) None) (lt-ltb object_class number some)
parents-by classes number (Some class) all at some = let fit = fits classes number class all at in (fit.parent, fit.is)

pub have_parents : (classes : List ClassDef) → CanInstall classes → HaveParents classes
have_parents classes all class some less = parents-by classes class (class_at classes class) all refl some

abbrev pub Earlier : List ClassDef → ℕ → Type 0
Earlier classes class = (s above : ℕ) → object_class ≤ s → s < class → is_mixin classes above ≡ false → has (order classes s) above ≡ true → IsAbove classes above s

one-joined : (P : ℕ → Type 0) (found : Option ℕ) → ((n : ℕ) → found ≡ Some n → P n) → Each P (option_to_list found)
one-joined P None so = tt
one-joined P (Some n) so = (so n refl, tt)

each-super : (classes : List ClassDef) (class above : ℕ) (def : Option ClassDef) → CanInstall classes → class_at classes class ≡ def
    → class < first_class + length classes → is_mixin classes above ≡ false → Earlier classes class
    → Each (λ s. has (order classes s) above ≡ true → IsAbove classes above class) (superclasses_by (before classes class) class def)
each-super classes class above None all at less plain ih =
    one-joined (λ s. has (order classes s) above ≡ true → IsAbove classes above class) (object_above class)
    (λ s is there. let below = object_above-below class s is in
    Further class s (ap (parent_by (before classes class) class) at ∙ is) (ih s above below.0 below.1 plain there))
each-super classes class above (Some def) all at less plain ih =
    filter_map-among (class_named (before classes class)) (λ s. has (order classes s) above ≡ true → IsAbove classes above class) (def.parent ∷ def.inherits) (
      λ s is there. let below = named_before-below classes class def def.parent s at is in
          Further class s (ap (parent_by (before classes class) class) at ∙ is) (ih s above below.0 below.1 plain there),
      all-map _ _ def.inherits
          (λ name mixes mixin is there.
          let so = mixes mixin is in
          let below = named_before-below classes class def name mixin at is in
          let up : parent_of classes class ≡ Some fit.parent = ap (parent_by (before classes class) class) at ∙ fit.is in
          let above' = parent_of-below classes class fit.parent up in
          let base = base_of-plain classes mixin (have_parents classes all) (mixin-number classes mixin so.0) (omega (arith, below.1, less)) in
          Further class fit.parent up
          (above-trans classes above (base_of classes mixin) fit.parent
          (above-base classes above mixin (ih mixin above below.0 below.1 plain there) plain so.0)
          (ih fit.parent (base_of classes mixin) above'.0 above'.1 base so.1)))
          fit.mixins,
    )
  where
    fit : IsFit classes class def
    fit = fits classes class def all at

above-within : (classes : List ClassDef) (turns class above : ℕ) → CanInstall classes → class ≤ turns → object_class ≤ class
    → class < first_class + length classes → is_mixin classes above ≡ false → has (order classes class) above ≡ true → IsAbove classes above class
above-within classes zero class above all few some less plain there = absurd (omega (arith, few, some))
above-within classes (suc turns) class above all few some less plain there =
    let ordered : has (with_all (class ∷ flat_map (order classes) (superclasses classes class)) []) above ≡ true =
    subst (λ (xs : List ℕ). has xs above ≡ true) (order-is classes class (omega (arith, some))) there in
    has-among (class ∷ flat_map (order classes) (superclasses classes class)) [] above (IsAbove classes above class) ordered
    (λ so. or-case (nat_eq above class) (has (flat_map (order classes) (superclasses classes class)) above) (IsAbove classes above class) so
    (λ same. subst (λ (n : ℕ). IsAbove classes above n) (nat_eq-is above class same) Same)
    (λ further. has-joined (order classes) (superclasses classes class) above (IsAbove classes above class)
    (each-super classes class above (class_at classes class) all refl less plain
    (λ s above' low small plain' there'. above-within classes turns s above' all (omega (arith, small, few)) low (omega (arith, small, less)) plain' there'))
    further))
    (λ none. absurd cc)

-- a class that is no mixin is in the order of another one only where it stands above it
pub above-order : (classes : List ClassDef) (class above : ℕ) → CanInstall classes → object_class ≤ class
    → class < first_class + length classes → is_mixin classes above ≡ false → has (order classes class) above ≡ true → IsAbove classes above class
above-order classes class above all some less plain there = above-within classes class class above all (omega arith) some less plain there
