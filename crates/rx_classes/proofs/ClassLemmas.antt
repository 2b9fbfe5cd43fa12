-- What is told of a class stays when more classes are installed behind it.
use Rattle.std.proofs.Common.{◌≡◌, ℕ, suc, zero, ◌+◌, ◌-◌, ◌<◌, ◌≤◌, Bool, true, false, cond, nat_lt, Option, None, Some, List, [], ◌∷◌, ◌++◌, length, refl, ap, ◌∙◌, arith, slice_get}
use Rattle.std.specs.Prelude.{position}
use Rattle.std.specs.Option.{option_map, option_map_or, option_or, option_to_list}
use Rattle.std.specs.Str.{bytes_eq}
use Rattle.std.specs.List.{AllByRecursion as Each}
use Rattle.std.proofs.lemmas.Bool.{ltb-false, ltb-true}
use Rattle.std.proofs.lemmas.List.{take-append-le, length-take-le}
use Rattle.std.proofs.lemmas.List.Quantifiers.{position-Some}
use Rattle.std.proofs.lemmas.Option.{slice_get_within}
use Rattle.rx_tree.specs.declared.class.ClassDef.{ClassDef}
use Rattle.rx_classes.specs.Natives.{first_class, native_names, object_class}
use Rattle.rx_classes.specs.Classes.{before, class_at, class_named, defined_named, native_named, number_from, object_above, parent_by, parent_of, superclasses, superclasses_by, is_mixin}
use Rattle.rx_classes.proofs.ListLemmas.{filter_map-all}

pub slice_get-append : {A : Type 0} (xs ys : List A) (i : ℕ) → i < length xs → slice_get (xs ++ ys) i ≡ slice_get xs i
slice_get-append [] ys i less = absurd (omega (arith, less))
slice_get-append (x ∷ xs) ys zero less = refl
slice_get-append (x ∷ xs) ys (suc i) less = slice_get-append xs ys i (omega (arith, less))

pub slice_get-last : {A : Type 0} (xs : List A) (y : A) → slice_get (xs ++ y ∷ []) (length xs) ≡ Some y
slice_get-last [] y = refl
slice_get-last (x ∷ xs) y = slice_get-last xs y

module _ (classes more : List ClassDef) (number : ℕ) (less : number < first_class + length classes) where
  at-by : (native : Bool) → nat_lt number first_class ≡ native → class_at (classes ++ more) number ≡ class_at classes number
  at-by true is = rw is refl
  at-by false is =
      let within : number - first_class < length classes = omega (arith, less, ltb-false number first_class is) in
      ap (λ (o : Option ClassDef). cond (nat_lt number first_class) None o) (slice_get-append classes more (number - first_class) within)

  pub class_at-more : class_at (classes ++ more) number ≡ class_at classes number
  class_at-more = at-by (nat_lt number first_class) refl

  pub before-more : before (classes ++ more) number ≡ before classes number
  before-more = take-append-le (number - first_class) classes more (omega (arith, less))

  pub parent_of-more : parent_of (classes ++ more) number ≡ parent_of classes number
  parent_of-more =
      ap (λ (earlier : List ClassDef). parent_by earlier number (class_at (classes ++ more) number)) before-more
      ∙ ap (parent_by (before classes number) number) class_at-more

  pub superclasses-more : superclasses (classes ++ more) number ≡ superclasses classes number
  superclasses-more =
      ap (λ (earlier : List ClassDef). superclasses_by earlier number (class_at (classes ++ more) number)) before-more
      ∙ ap (superclasses_by (before classes number) number) class_at-more

  pub is_mixin-more : is_mixin (classes ++ more) number ≡ is_mixin classes number
  is_mixin-more = ap (λ (o : Option ClassDef). option_map_or (λ (class : ClassDef). class.mixin) o false) class_at-more

-- ---- numbers

place-by : (place : Option ℕ) (first bound number : ℕ) → ((p : ℕ) → place ≡ Some p → p < bound)
    → option_map (λ (p : ℕ). p + first) place ≡ Some number → (first ≤ number) × (number < first + bound)
place-by None first bound number so is = absurd cc
place-by (Some p) first bound number so is = let same : p + first ≡ number = cc in (omega (arith, same), omega (arith, same, so p refl))

pub native_named-below : (name : List ℕ) (number : ℕ) → native_named name ≡ Some number → (object_class ≤ number) × (number < first_class)
native_named-below name number is =
    place-by (position (bytes_eq name) native_names) object_class 7 number
    (λ p at. (position-Some (bytes_eq name) native_names p [] at).0) is

from-by : (first number above : ℕ) (here : Bool) (further : Option ℕ) → cond here (Some first) further ≡ Some number
    → (further ≡ Some number → (suc first ≤ number) × (number < suc first + above)) → (first ≤ number) × (number < first + suc above)
from-by first number above true further is so = let same : first ≡ number = cc in (omega (arith, same), omega (arith, same))
from-by first number above false further is so = let below = so is in (omega (arith, below.0), omega (arith, below.1))

pub number_from-below : (first : ℕ) (classes : List ClassDef) (name : List ℕ) (number : ℕ) → number_from first classes name ≡ Some number
    → (first ≤ number) × (number < first + length classes)
number_from-below first [] name number is = absurd cc
number_from-below first (class ∷ classes) name number is =
    from-by first number (length classes) (bytes_eq name class.name) (number_from (suc first) classes name) is
    (number_from-below (suc first) classes name number)

pub defined_named-below : (classes : List ClassDef) (name : List ℕ) (number : ℕ) → defined_named classes name ≡ Some number
    → (first_class ≤ number) × (number < first_class + length classes)
defined_named-below classes name number is = number_from-below first_class classes name number is

last-by : (first : ℕ) (here : Bool) (further : Option ℕ) (last : Option ℕ) (place : ℕ) → place ≡ suc first
    → cond here (Some first) (option_or further last) ≡ option_or (cond here (Some first) further) last
last-by first true further last place is = refl
last-by first false further last place is = refl

-- the number of a name with one more class
pub number_from-last : (first : ℕ) (classes : List ClassDef) (class : ClassDef) (name : List ℕ) (number : ℕ) → number ≡ first + length classes
    → number_from first (classes ++ class ∷ []) name
    ≡ option_or (number_from first classes name) (cond (bytes_eq name class.name) (Some number) None)
number_from-last first [] class name number is =
    ap (λ (n : ℕ). cond (bytes_eq name class.name) (Some n) None) (omega (arith, is))
number_from-last first (other ∷ classes) class name number is =
    ap (λ (o : Option ℕ). cond (bytes_eq name other.name) (Some first) o) (number_from-last (suc first) classes class name number (omega (arith, is)))
    ∙ last-by first (bytes_eq name other.name) (number_from (suc first) classes name) (cond (bytes_eq name class.name) (Some number) None) (suc first) refl

named-by : (native defined : Option ℕ) (low high number : ℕ) → first_class ≤ high → object_class ≤ low → low ≤ first_class
    → ((n : ℕ) → native ≡ Some n → (low ≤ n) × (n < first_class))
    → ((n : ℕ) → defined ≡ Some n → (first_class ≤ n) × (n < high))
    → option_or native defined ≡ Some number → (low ≤ number) × (number < high)
named-by None defined low high number a b c f g is = (omega (arith, g number is, c), (g number is).1)
named-by (Some n) defined low high number a b c f g is =
    let same : n ≡ number = cc in (omega (arith, same, (f n refl).0), omega (arith, same, (f n refl).1, a))

pub class_named-below : (classes : List ClassDef) (name : List ℕ) (number : ℕ) → class_named classes name ≡ Some number
    → (object_class ≤ number) × (number < first_class + length classes)
class_named-below classes name number is =
    named-by (native_named name) (defined_named classes name) object_class (first_class + length classes) number
    (omega arith) (omega arith) (omega arith) (native_named-below name) (defined_named-below classes name) is

-- ---- superclasses have smaller numbers

at-number : (classes : List ClassDef) (number : ℕ) (native : Bool) (class : ClassDef) → nat_lt number first_class ≡ native
    → cond native None (slice_get classes (number - first_class)) ≡ Some class
    → (first_class ≤ number) × (number < first_class + length classes)
at-number classes number true class is at = absurd cc
at-number classes number false class is at =
    let within = slice_get_within classes (number - first_class) class at in
    let so : first_class ≤ number = ltb-false number first_class is in
    (so, omega (arith, so, within))

-- a class of the package has a number from 9
pub class_at-number : (classes : List ClassDef) (number : ℕ) (class : ClassDef) → class_at classes number ≡ Some class
    → (first_class ≤ number) × (number < first_class + length classes)
class_at-number classes number class at = at-number classes number (nat_lt number first_class) class refl at

above-by : (number above : ℕ) (is : Bool) → nat_lt object_class number ≡ is → cond is (Some object_class) None ≡ Some above
    → (object_class ≤ above) × (above < number)
above-by number above true less is =
    let same : object_class ≡ above = cc in
    let so : object_class < number = ltb-true object_class number less in
    (omega (arith, same), omega (arith, same, so))
above-by number above false less is = absurd cc

pub object_above-below : (number above : ℕ) → object_above number ≡ Some above → (object_class ≤ above) × (above < number)
object_above-below number above is = above-by number above (nat_lt object_class number) refl is

-- a name of a class before leads to a smaller number
pub named_before-below : (classes : List ClassDef) (number : ℕ) (class : ClassDef) (name : List ℕ) (named : ℕ)
    → class_at classes number ≡ Some class → class_named (before classes number) name ≡ Some named
    → (object_class ≤ named) × (named < number)
named_before-below classes number class name named at is =
    let where' = class_at-number classes number class at in
    let so = class_named-below (before classes number) name named is in
    let few : length (before classes number) ≡ number - first_class = length-take-le (number - first_class) classes (omega (arith, where')) in
    (so.0, omega (arith, so, few, where'))

parent-below : (classes : List ClassDef) (number parent : ℕ) (class : Option ClassDef) → class_at classes number ≡ class
    → parent_by (before classes number) number class ≡ Some parent → (object_class ≤ parent) × (parent < number)
parent-below classes number parent None at is = object_above-below number parent is
parent-below classes number parent (Some class) at is = named_before-below classes number class class.parent parent at is

pub parent_of-below : (classes : List ClassDef) (number parent : ℕ) → parent_of classes number ≡ Some parent
    → (object_class ≤ parent) × (parent < number)
parent_of-below classes number parent is = parent-below classes number parent (class_at classes number) refl is

one-all : (P : ℕ → Type 0) (found : Option ℕ) → ((n : ℕ) → found ≡ Some n → P n) → Each P (option_to_list found)
one-all P None so = tt
one-all P (Some n) so = (so n refl, tt)

supers-below : (classes : List ClassDef) (number : ℕ) (class : Option ClassDef) → class_at classes number ≡ class
    → Each (λ n. (object_class ≤ n) × (n < number)) (superclasses_by (before classes number) number class)
supers-below classes number None at = one-all (λ n. (object_class ≤ n) × (n < number)) (object_above number) (object_above-below number)
supers-below classes number (Some class) at =
    filter_map-all (class_named (before classes number)) (λ n. (object_class ≤ n) × (n < number)) (class.parent ∷ class.inherits)
    (λ name n is. named_before-below classes number class name n at is)

pub superclasses-below : (classes : List ClassDef) (number : ℕ) → Each (λ n. (object_class ≤ n) × (n < number)) (superclasses classes number)
superclasses-below classes number = supers-below classes number (class_at classes number) refl
