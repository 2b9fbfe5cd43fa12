-- Which native classes stand in the order of a class: one at most beside Object, and a closed one in its own order alone.
use Rattle.std.proofs.Common.{◌≡◌, ◌<◌, inl, inr, ℕ, zero, suc, ◌-◌, Bool, true, false, List, [], ◌∷◌, Option, Some, None, refl, sym, ap, ◌∙◌, subst, arith, nat_eq, nat_lt, slice_get}
use Rattle.std.specs.Prelude.{◌==◌, ◌≢◌, ◌⊎◌, Contains, if◌then◌else◌}
use Rattle.std.proofs.lemmas.Bool.{cases_lt, lt-ltb}
use Rattle.std.proofs.lemmas.Bool.Decides.{eqb_tells}
use Rattle.std.specs.Option.{option_map_or}
use Rattle.rx_tree.specs.declared.class.ClassDef.{ClassDef}
use Rattle.rx_classes.specs.Natives.{array_class, class_class, directory_class, first_class, object_class, queue_class}
use Rattle.rx_classes.specs.Classes.{IsClass, before, class_at, class_named, is_mixin, object_above, parent_by, parent_of}
use Rattle.rx_classes.specs.Installing.{CanInstall, closed_name, is_closed, refusal}
use Rattle.rx_classes.specs.Orders.{has, order}
use Rattle.rx_classes.specs.Kept.{IsAbove, Same, Further}
use Rattle.rx_classes.proofs.AboveLemmas.{above-down, above-least, above-order}
use Rattle.rx_classes.proofs.ListLemmas.{nat_eq-refl, or-left, or-right}
use Rattle.rx_classes.proofs.RefusalLemmas.{refusal-none}
use Rattle.rx_heap.specs.declared.kind.Kind.{Kind}
use Rattle.rx_heap.specs.declared.kind.Kind.TheVariants as k
use Rattle.rx_native.specs.ClassMethods.{kind_in}

-- ---- lists

has-contained : (xs : List ℕ) (x : ℕ) → Contains xs x → has xs x ≡ true
has-contained [] x (place, within, is) = absurd (omega (arith, within))
has-contained (y ∷ xs) x (zero, within, is) = or-left (nat_eq x y) (has xs x) (ap (nat_eq x) is ∙ nat_eq-refl x)
has-contained (y ∷ xs) x (suc place, within, is) = or-right (nat_eq x y) (has xs x) (has-contained xs x (place, omega (arith, within), is))

-- ---- native classes on the way up

native-by : (classes : List ClassDef) (class : ℕ) (is : Bool) → nat_lt class first_class ≡ is → is ≡ true → class_at classes class ≡ None
native-by classes class true test is = ap (λ (b : Bool). if b then None else slice_get classes (class - first_class)) test
native-by classes class false test is = absurd (let no : false ≡ true = is in cc)

native-at : (classes : List ClassDef) (class : ℕ) → class < first_class → class_at classes class ≡ None
native-at classes class less = native-by classes class (nat_lt class first_class) refl (lt-ltb class first_class less)

native-plain : (classes : List ClassDef) (class : ℕ) → class < first_class → is_mixin classes class ≡ false
native-plain classes class less = ap (λ (def : Option ClassDef). option_map_or (λ (d : ClassDef). d.mixin) def false) (native-at classes class less)

above-object : (class parent : ℕ) → object_above class ≡ Some parent → parent ≡ object_class
above-object class parent is = by (nat_lt object_class class) is
  where
    by : (b : Bool) → (if b then Some object_class else None) ≡ Some parent → parent ≡ object_class
    by true same = let e : object_class ≡ parent = cc in sym e
    by false same = absurd cc

native-parent : (classes : List ClassDef) (class parent : ℕ) → class < first_class → parent_of classes class ≡ Some parent → parent ≡ object_class
native-parent classes class parent less is =
    above-object class parent (sym (ap (parent_by (before classes class) class) (native-at classes class less)) ∙ is)

-- what stands above a native class is that class, or Object
native-above : (classes : List ClassDef) (above class : ℕ) → IsAbove classes above class → class < first_class → object_class < above → above ≡ class
native-above classes above class Same less more = refl
native-above classes above class (Further _ parent is on) less more =
    absurd (omega (arith, more, above-least classes above parent on, native-parent classes class parent less is))

-- so one native class at most, beside Object, stands above a class
one-native : (classes : List ClassDef) (a b class : ℕ) → IsAbove classes a class → IsAbove classes b class → object_class < a → a < first_class
    → object_class < b → b < first_class → a ≡ b
one-native classes a b class up-a up-b least-a most-a least-b most-b = elim (cases_lt a b) [
  | inl less ↦ native-above classes a b (above-down classes a b class up-b (omega (arith, less)) up-a) most-b least-a
  | inr more ↦ sym (native-above classes b a (above-down classes b a class up-a (omega (arith, more)) up-b) most-a least-b)
]

pub stands-above : (classes : List ClassDef) (class native : ℕ) → CanInstall classes → IsClass classes class → native < first_class
    → Contains (order classes class) native → IsAbove classes native class
stands-above classes class native all is less among =
    above-order classes class native all is.0 is.1 (native-plain classes native less) (has-contained (order classes class) native among)

pub one-in-order : (classes : List ClassDef) (class a b : ℕ) → CanInstall classes → IsClass classes class → object_class < a → a < first_class
    → object_class < b → b < first_class → Contains (order classes class) a → Contains (order classes class) b → a ≡ b
one-in-order classes class a b all is least-a most-a least-b most-b has-a has-b =
    one-native classes a b class (stands-above classes class a all is most-a has-a) (stands-above classes class b all is most-b has-b) least-a most-a
    least-b most-b

-- ---- closed classes

placed-by : (classes : List ClassDef) (class : ℕ) (def : ClassDef) (is : Bool) → (if is then None else slice_get classes (class - first_class)) ≡ Some def
    → slice_get classes (class - first_class) ≡ Some def
placed-by classes class def true at = absurd cc
placed-by classes class def false at = at

open-by : (earlier : List ClassDef) (def : ClassDef) (parent : ℕ) → class_named earlier def.parent ≡ Some parent → closed_name earlier def ≡ None
    → is_closed parent ≡ false
open-by earlier def parent named none =
    by (is_closed parent) (ap (λ (found : Option ℕ). if option_map_or is_closed found false then Some def.parent else None) (sym named) ∙ none)
  where
    by : (closed : Bool) → (if closed then Some def.parent else None) ≡ None → closed ≡ false
    by true same = absurd cc
    by false same = refl

-- no superclass is closed
open-parent : (classes : List ClassDef) (class parent : ℕ) (def : Option ClassDef) → CanInstall classes → class_at classes class ≡ def
    → parent_by (before classes class) class def ≡ Some parent → is_closed parent ≡ false
open-parent classes class parent None all at is = ap is_closed (above-object class parent is)
open-parent classes class parent (Some def) all at is =
    let none : refusal (before classes class) def ≡ None =
    all (class - first_class) def (placed-by classes class def (nat_lt class first_class) at) in
    open-by (before classes class) def parent is (refusal-none (before classes class) def none).4

closed-above : (classes : List ClassDef) (closed class : ℕ) → CanInstall classes → is_closed closed ≡ true → IsAbove classes closed class → closed ≡ class
closed-above classes closed class all is Same = refl
closed-above classes closed class all is (Further _ parent up on) =
    let same : closed ≡ parent = closed-above classes closed parent all is on in
    let open_one : is_closed parent ≡ false = open-parent classes class parent (class_at classes class) all refl up in
    absurd (let no : true ≡ false = sym is ∙ (ap is_closed same ∙ open_one) in cc)

-- a class that isn't closed hasn't the class Class in its order
pub no-class : (classes : List ClassDef) (class : ℕ) → CanInstall classes → IsClass classes class → is_closed class ≡ false
    → Contains (order classes class) class_class → ⊥
no-class classes class all is open_one among =
    let same : class_class ≡ class = closed-above classes class_class class all refl (stands-above classes class class_class all is (omega arith) among) in
    let no : true ≡ false = ap is_closed same ∙ open_one in cc

-- ---- kinds

unlike : (a b : ℕ) → (a ≡ b → ⊥) → (a == b) ≡ false
unlike a b differ = by (eqb_tells a b)
  where
    by : ((nat_eq a b ≡ true) × (a ≡ b)) ⊎ ((nat_eq a b ≡ false) × (a ≢ b)) → nat_eq a b ≡ false
    by (inl same) = absurd (differ same.1)
    by (inr other) = other.0

kind-behind : (class : ℕ) (classes : List ℕ) → (class ≡ array_class → ⊥) → (class ≡ queue_class → ⊥) → (class ≡ directory_class → ⊥)
    → kind_in (class ∷ classes) ≡ kind_in classes
kind-behind class classes isnt-array isnt-queue isnt-directory =
    ap (λ (b : Bool). if b then k.Array else if class == queue_class then k.Queue else if class == directory_class then k.Directory else kind_in classes)
    (unlike class array_class isnt-array)
    ∙ (ap (λ (b : Bool). if b then k.Queue else if class == directory_class then k.Directory else kind_in classes) (unlike class queue_class isnt-queue)
    ∙ ap (λ (b : Bool). if b then k.Directory else kind_in classes) (unlike class directory_class isnt-directory))

-- the kind of the one native class among these that has items
pub kind-of : (native : ℕ) (kind : Kind) (classes : List ℕ) → ((rest : List ℕ) → kind_in (native ∷ rest) ≡ kind) → Contains classes native
    → ((other : ℕ) → object_class < other → other < first_class → Contains classes other → other ≡ native) → kind_in classes ≡ kind
kind-of native kind [] here (place, within, is) only = absurd (omega (arith, within))
kind-of native kind (class ∷ classes) here among only =
    by (eqb_tells class native) (λ inside. kind-of native kind classes here inside (λ o least most within. only o least most (later o within)))
  where
    later : (x : ℕ) → Contains classes x → Contains (class ∷ classes) x
    later x inside = (suc inside.0, omega (arith, inside.1), inside.2)

    behind : class ≢ native → Contains (class ∷ classes) native → Contains classes native
    behind other (zero, within, is) = absurd (other is)
    behind other (suc place, within, is) = (place, omega (arith, within), is)

    isnt : class ≢ native → (other : ℕ) → object_class < other → other < first_class → class ≡ other → ⊥
    isnt differs other least most same = differs (same ∙ only other least most (zero, omega arith, same))

    by : ((nat_eq class native ≡ true) × (class ≡ native)) ⊎ ((nat_eq class native ≡ false) × (class ≢ native))
        → (Contains classes native → kind_in classes ≡ kind) → kind_in (class ∷ classes) ≡ kind
    by (inl same) rest = subst (λ (c : ℕ). kind_in (c ∷ classes) ≡ kind) (sym same.1) (here classes)
    by (inr other) rest =
        kind-behind class classes (isnt other.1 array_class (omega arith) (omega arith)) (isnt other.1 queue_class (omega arith) (omega arith))
        (isnt other.1 directory_class (omega arith) (omega arith))
        ∙ rest (behind other.1 among)

pub no-class-kind : (classes : List ℕ) → kind_in classes ≡ k.ClassObject → ⊥
no-class-kind [] is = cc
no-class-kind (class ∷ classes) is = by (class == array_class) (class == queue_class) (class == directory_class) (no-class-kind classes) is
  where
    by : (a b c : Bool) → (kind_in classes ≡ k.ClassObject → ⊥) → (if a then k.Array else if b then k.Queue else if c then k.Directory else kind_in classes) ≡ k.ClassObject → ⊥
    by true b c rest same = cc
    by false true c rest same = cc
    by false false true rest same = cc
    by false false false rest same = rest same
