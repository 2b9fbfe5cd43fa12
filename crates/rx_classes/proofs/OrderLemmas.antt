-- The search order of a class, by the orders of its superclasses.
use Rattle.std.proofs.Common.{◌≡◌, ℕ, suc, zero, ◌+◌, ◌<◌, ◌≤◌, Bool, cond, Option, None, Some, List, [], ◌∷◌, ◌++◌, length, refl, ap, ◌∙◌, arith}
use Rattle.std.specs.Option.{option_map_or}
use Rattle.std.specs.List.{flat_map}
use Rattle.rx_tree.specs.declared.class.ClassDef.{ClassDef}
use Rattle.rx_classes.specs.Natives.{first_class, object_class}
use Rattle.rx_classes.specs.Classes.{parent_of, superclasses, is_mixin}
use Rattle.rx_classes.specs.Orders.{last_places, order_within, order, base_within, base_of}
use Rattle.rx_classes.proofs.ListLemmas.{flat_map-same, with_all, last_places-with}
use Rattle.rx_classes.proofs.ClassLemmas.{superclasses-below, superclasses-more, parent_of-below, parent_of-more, is_mixin-more}

-- ---- enough turns

turns-same : (classes : List ClassDef) (turns more class : ℕ) → 0 < class → class ≤ turns → class ≤ more
    → order_within turns classes class ≡ order_within more classes class
turns-same classes zero more class some a b = absurd (omega (arith, some, a))
turns-same classes (suc turns) zero class some a b = absurd (omega (arith, some, b))
turns-same classes (suc turns) (suc more) class some a b =
    ap (λ (ys : List ℕ). last_places (class ∷ ys))
    (flat_map-same (order_within turns classes) (order_within more classes) (λ s. (object_class ≤ s) × (s < class)) (superclasses classes class)
    (λ s below. turns-same classes turns more s (omega (arith, below.0)) (omega (arith, below.1, a)) (omega (arith, below.1, b)))
    (superclasses-below classes class))

order-by : (classes : List ClassDef) (class : ℕ) → 0 < class
    → order_within class classes class ≡ last_places (class ∷ flat_map (order classes) (superclasses classes class))
order-by classes zero some = absurd (omega (arith, some))
order-by classes (suc turns) some =
    ap (λ (ys : List ℕ). last_places (suc turns ∷ ys))
    (flat_map-same (order_within turns classes) (order classes) (λ s. (object_class ≤ s) × (s < suc turns)) (superclasses classes (suc turns))
    (λ s below. turns-same classes turns s s (omega (arith, below.0)) (omega (arith, below.1)) (omega arith))
    (superclasses-below classes (suc turns)))

-- the order of a class is the class and then the orders of its superclasses, each at its last place
pub order-is : (classes : List ClassDef) (class : ℕ) → 0 < class
    → order classes class ≡ with_all (class ∷ flat_map (order classes) (superclasses classes class)) []
order-is classes class some =
    order-by classes class some ∙ last_places-with (class ∷ flat_map (order classes) (superclasses classes class))

-- ---- more classes behind

within-more : (turns : ℕ) (classes more : List ClassDef) (class : ℕ) → class < first_class + length classes
    → order_within turns (classes ++ more) class ≡ order_within turns classes class
within-more zero classes more class less = refl
within-more (suc turns) classes more class less =
    ap (λ (supers : List ℕ). last_places (class ∷ flat_map (order_within turns (classes ++ more)) supers)) (superclasses-more classes more class less)
    ∙ ap (λ (ys : List ℕ). last_places (class ∷ ys))
    (flat_map-same (order_within turns (classes ++ more)) (order_within turns classes) (λ s. (object_class ≤ s) × (s < class)) (superclasses classes class)
    (λ s below. within-more turns classes more s (omega (arith, below.1, less)))
    (superclasses-below classes class))

pub order-more : (classes more : List ClassDef) (class : ℕ) → class < first_class + length classes
    → order (classes ++ more) class ≡ order classes class
order-more classes more class less = within-more class classes more class less

-- ---- the base class

abbrev pub base_above : List ClassDef → (ℕ → ℕ) → ℕ → Option ℕ → ℕ
base_above classes base class parent = option_map_or (λ (p : ℕ). cond (is_mixin classes p) (base p) p) parent class

base-turns : (classes : List ClassDef) (turns more class : ℕ) (parent : Option ℕ) → ((p : ℕ) → parent ≡ Some p → base_within turns classes p ≡ base_within more classes p)
    → base_above classes (base_within turns classes) class parent ≡ base_above classes (base_within more classes) class parent
base-turns classes turns more class None so = refl
base-turns classes turns more class (Some p) so = ap (λ (b : ℕ). cond (is_mixin classes p) b p) (so p refl)

base-same : (classes : List ClassDef) (turns more class : ℕ) → 0 < class → class ≤ turns → class ≤ more
    → base_within turns classes class ≡ base_within more classes class
base-same classes zero more class some a b = absurd (omega (arith, some, a))
base-same classes (suc turns) zero class some a b = absurd (omega (arith, some, b))
base-same classes (suc turns) (suc more) class some a b =
    base-turns classes turns more class (parent_of classes class)
    (λ p is. let below = parent_of-below classes class p is in
    base-same classes turns more p (omega (arith, below.0)) (omega (arith, below.1, a)) (omega (arith, below.1, b)))

base-own : (classes : List ClassDef) (turns class : ℕ) (parent : Option ℕ) → ((p : ℕ) → parent ≡ Some p → base_within turns classes p ≡ base_of classes p)
    → base_above classes (base_within turns classes) class parent ≡ base_above classes (base_of classes) class parent
base-own classes turns class None so = refl
base-own classes turns class (Some p) so = ap (λ (b : ℕ). cond (is_mixin classes p) b p) (so p refl)

pub base_of-is : (classes : List ClassDef) (class : ℕ) → 0 < class
    → base_of classes class ≡ base_above classes (base_of classes) class (parent_of classes class)
base_of-is classes zero some = absurd (omega (arith, some))
base_of-is classes (suc turns) some =
    base-own classes turns (suc turns) (parent_of classes (suc turns))
    (λ p is. let below = parent_of-below classes (suc turns) p is in
    base-same classes turns p p (omega (arith, below.0)) (omega (arith, below.1)) (omega arith))

base-behind : (classes more : List ClassDef) (turns class : ℕ) (parent : Option ℕ)
    → ((p : ℕ) → parent ≡ Some p → base_within turns (classes ++ more) p ≡ base_within turns classes p)
    → ((p : ℕ) → parent ≡ Some p → is_mixin (classes ++ more) p ≡ is_mixin classes p)
    → base_above (classes ++ more) (base_within turns (classes ++ more)) class parent ≡ base_above classes (base_within turns classes) class parent
base-behind classes more turns class None so same = refl
base-behind classes more turns class (Some p) so same =
    ap (λ (b : ℕ). cond (is_mixin (classes ++ more) p) b p) (so p refl) ∙ ap (λ (m : Bool). cond m (base_within turns classes p) p) (same p refl)

base-more : (turns : ℕ) (classes more : List ClassDef) (class : ℕ) → class < first_class + length classes
    → base_within turns (classes ++ more) class ≡ base_within turns classes class
base-more zero classes more class less = refl
base-more (suc turns) classes more class less =
    ap (base_above (classes ++ more) (base_within turns (classes ++ more)) class) (parent_of-more classes more class less)
    ∙ base-behind classes more turns class (parent_of classes class)
    (λ p is. base-more turns classes more p (omega (arith, (parent_of-below classes class p is).1, less)))
    (λ p is. is_mixin-more classes more p (omega (arith, (parent_of-below classes class p is).1, less)))

pub base_of-more : (classes more : List ClassDef) (class : ℕ) → class < first_class + length classes
    → base_of (classes ++ more) class ≡ base_of classes class
base_of-more classes more class less = base-more class classes more class less
