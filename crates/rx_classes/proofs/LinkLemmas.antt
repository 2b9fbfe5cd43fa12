-- What is kept once a class is defined behind the others.
use Rattle.std.proofs.Common.{◌≡◌, ℕ, suc, zero, ◌+◌, ◌-◌, ◌<◌, Bool, true, false, cond, Option, None, Some, List, [], ◌∷◌, ◌++◌, length, take, refl, sym, ap, subst, ◌∙◌, arith, append_assoc, append-nil, get_or, slice_get}
use Rattle.std.specs.Prelude.{is_some}
use Rattle.std.specs.Option.{option_or, option_to_list}
use Rattle.std.specs.Str.{bytes_eq}
use Rattle.std.specs.List.{cons_option, filter_map}
use Rattle.std.proofs.lemmas.Bool.{le-ltb}
use Rattle.std.proofs.lemmas.List.{length-append, length-map, map-append, take-append-le, take_more}
use Rattle.std.proofs.Math.Seq.{take-append_seam}
use Rattle.rx_tree.specs.declared.class.ClassDef.{ClassDef}
use Rattle.rx_vars.specs.Tables.{look_up, with_entry}
use Rattle.rx_classes.specs.declared.class.Class.{Class}
use Rattle.rx_classes.specs.Natives.{first_class}
use Rattle.rx_classes.specs.Classes.{before, class_at, class_named, defined_named, native_named, parent_by, parent_of, superclasses, superclasses_by, is_mixin}
use Rattle.rx_classes.specs.Orders.{base_of}
use Rattle.rx_classes.specs.Installing.{CanInstall, refusal}
use Rattle.rx_classes.specs.Kept.{IsAbove, IsGathered, IsKept, IsLinked, Further, defs_of, most_classes}
use Rattle.rx_classes.proofs.RefusalLemmas.{refusal-none}
use Rattle.rx_classes.proofs.ClassLemmas.{class_named-below, number_from-last, parent_of-more, superclasses-more, is_mixin-more, slice_get-last}
use Rattle.rx_classes.proofs.OrderLemmas.{base_of-is, base_of-more, base_above}
use Rattle.rx_classes.proofs.AboveLemmas.{above-least, above-more}
use Rattle.rx_classes.proofs.MethodLemmas.{look_up-entry, none-from, same-bytes}

-- ---- the last class

module _ (classes : List ClassDef) (def : ClassDef) (number : ℕ) (is : number ≡ first_class + length classes) where
  place-is : number - first_class ≡ length classes
  place-is = omega (arith, is)

  last-before : before (classes ++ def ∷ []) number ≡ classes
  last-before = ap (λ (n : ℕ). take n (classes ++ def ∷ [])) place-is ∙ take-append_seam classes (def ∷ [])

  last-at : class_at (classes ++ def ∷ []) number ≡ Some def
  last-at =
      ap (λ (b : Bool). cond b None (slice_get (classes ++ def ∷ []) (number - first_class))) (le-ltb number first_class (omega (arith, is)))
      ∙ ap (slice_get (classes ++ def ∷ [])) place-is ∙ slice_get-last classes def

  last-parent : parent_of (classes ++ def ∷ []) number ≡ class_named classes def.parent
  last-parent =
      ap (parent_by (before (classes ++ def ∷ []) number) number) last-at
      ∙ ap (λ (earlier : List ClassDef). class_named earlier def.parent) last-before

  last-superclasses : superclasses (classes ++ def ∷ []) number ≡ filter_map (class_named classes) (def.parent ∷ def.inherits)
  last-superclasses =
      ap (superclasses_by (before (classes ++ def ∷ []) number) number) last-at
      ∙ ap (λ (earlier : List ClassDef). filter_map (class_named earlier) (def.parent ∷ def.inherits)) last-before

-- what is kept of it
pub linked-last : (classes : List ClassDef) (def : ClassDef) (class : Class) → class.def ≡ def → class_named classes def.parent ≡ Some class.parent
    → class.superclasses ≡ class.parent ∷ filter_map (class_named classes) def.inherits
    → class.base ≡ cond (is_mixin classes class.parent) (base_of classes class.parent) class.parent
    → IsAbove classes class.above class.parent → IsGathered def.methods class.methods
    → IsLinked (classes ++ def ∷ []) (first_class + length classes) class
linked-last classes def class same parent above_all base on methods = record {
  parent = up;
  superclasses =
      above_all ∙ ap (λ (o : Option ℕ). cons_option o (filter_map (class_named classes) def.inherits)) (sym parent)
      ∙ sym (last-superclasses classes def number refl);
  base =
      base ∙ ap (λ (b : ℕ). cond (is_mixin classes class.parent) b class.parent) (sym (base_of-more classes (def ∷ []) class.parent less))
      ∙ ap (λ (m : Bool). cond m (base_of (classes ++ def ∷ []) class.parent) class.parent) (sym (is_mixin-more classes (def ∷ []) class.parent less))
      ∙ ap (base_above (classes ++ def ∷ []) (base_of (classes ++ def ∷ [])) number) (sym up)
      ∙ sym (base_of-is (classes ++ def ∷ []) number (omega arith));
  above = Further number class.parent up (above-more classes (def ∷ []) class.above class.parent less on);
  further = omega (arith, above-least classes class.above class.parent on, less);
  methods = subst (λ (d : ClassDef). IsGathered d.methods class.methods) (sym same) methods;
}
  where
    number : ℕ
    number = 9 + length classes

    less : class.parent < 9 + length classes
    less = (class_named-below classes def.parent class.parent parent).1

    up : parent_of (classes ++ def ∷ []) (9 + length classes) ≡ Some class.parent
    up = last-parent classes def (9 + length classes) refl ∙ parent

-- ---- the others

linked-more : (classes more : List ClassDef) (number : ℕ) (class : Class) → number < first_class + length classes → IsLinked classes number class
    → IsLinked (classes ++ more) number class
linked-more classes more number class less so = record {
  parent = parent_of-more classes more number less ∙ so.parent;
  superclasses = so.superclasses ∙ sym (superclasses-more classes more number less);
  base = so.base ∙ sym (base_of-more classes more number less);
  above = above-more classes more class.above number less so.above;
  further = so.further;
  methods = so.methods;
}

defs-last : (kept : List Class) (class : Class) → defs_of (kept ++ class ∷ []) ≡ defs_of kept ++ class.def ∷ []
defs-last kept class = map-append (λ (c : Class). c.def) kept (class ∷ [])

place-cases : {A : Type 0} (xs : List A) (y : A) (place : ℕ) (found : A) (P : Type 0) → slice_get (xs ++ y ∷ []) place ≡ Some found
    → (place < length xs → slice_get xs place ≡ Some found → P) → (place ≡ length xs → y ≡ found → P) → P
place-cases [] y zero found P at f g = g refl cc
place-cases [] y (suc place) found P at f g = absurd cc
place-cases (x ∷ xs) y zero found P at f g = f (omega arith) at
place-cases (x ∷ xs) y (suc place) found P at f g =
    place-cases xs y place found P at (λ less here. f (omega (arith, less)) here) (λ is same. g (omega (arith, is)) same)

pub can-install-more : (classes : List ClassDef) (class : ClassDef) → CanInstall classes → refusal classes class ≡ None → CanInstall (classes ++ class ∷ [])
can-install-more classes class all none place found at =
    place-cases classes class place found (refusal (take place (classes ++ class ∷ [])) found ≡ None) at
    (λ less here. ap (λ (earlier : List ClassDef). refusal earlier found) (take-append-le place classes (class ∷ []) (omega (arith, less))) ∙ all place found here)
    (λ is same.
    ap (λ (n : ℕ). refusal (take n (classes ++ class ∷ [])) found) is
    ∙ ap (λ (earlier : List ClassDef). refusal earlier found) (take-append_seam classes (class ∷ []))
    ∙ ap (refusal classes) (sym same) ∙ none)

-- ---- names

some-if : (b : Bool) (name : List ℕ) (rest : Option (List ℕ)) → cond b (Some name) rest ≡ None → b ≡ false
some-if true name rest is = absurd cc
some-if false name rest is = refl

or-none : (first second : Option ℕ) → option_or first second ≡ None → second ≡ None
or-none None second is = is
or-none (Some x) second is = absurd cc

-- a class that can be defined has a name that is free
pub free-name : (classes : List ClassDef) (class : ClassDef) → refusal classes class ≡ None → defined_named classes class.name ≡ None
free-name classes class none =
    or-none (native_named class.name) (defined_named classes class.name)
    (none-from (class_named classes class.name) (some-if (is_some (class_named classes class.name)) class.name _ (refusal-none classes class none).3))

named-by : (known number : Option ℕ) (same : Bool) → (same ≡ true → known ≡ None) → cond same number known ≡ option_or known (cond same number None)
named-by None number true free = refl
named-by None number false free = refl
named-by (Some n) number true free = let none = free refl in absurd cc
named-by (Some n) number false free = refl

pub numbers-more : (classes : List ClassDef) (class : ClassDef) (table : List (List ℕ × ℕ)) (number : ℕ) (name : List ℕ)
    → refusal classes class ≡ None → number ≡ first_class + length classes → look_up table name ≡ defined_named classes name
    → look_up (with_entry table class.name number) name ≡ defined_named (classes ++ class ∷ []) name
numbers-more classes class table number name none is so =
    look_up-entry table class.name name number
    ∙ ap (λ (o : Option ℕ). cond (bytes_eq name class.name) (Some number) o) so
    ∙ named-by (defined_named classes name) (Some number) (bytes_eq name class.name)
    (λ same. subst (λ (n : List ℕ). defined_named classes n ≡ None) (sym (same-bytes name class.name same)) (free-name classes class none))
    ∙ sym (number_from-last first_class classes class name number is)

-- ---- all that is kept

kept-own : (names : List (List ℕ)) (kept : List Class) (table : List (List ℕ × ℕ)) (class : Class) (number : ℕ)
    → IsKept names kept table → length (defs_of kept) < most_classes → refusal (defs_of kept) class.def ≡ None
    → IsLinked (defs_of kept ++ class.def ∷ []) (first_class + length (defs_of kept)) class → number ≡ first_class + length (defs_of kept)
    → IsKept names (kept ++ class ∷ []) (with_entry table class.def.name number)
kept-own names kept table class number so room none linked which = record {
  few = omega (arith, room, count, length-append kept (class ∷ []));
  natives = so.natives;
  numbers = λ name.
      numbers-more (defs_of kept) class.def table number name none which (so.numbers name)
      ∙ ap (λ (defs : List ClassDef). defined_named defs name) (sym (defs-last kept class));
  linked = λ place found at.
      subst (λ (defs : List ClassDef). IsLinked defs (first_class + place) found) (sym (defs-last kept class))
      (place-cases kept class place found (IsLinked (defs_of kept ++ class.def ∷ []) (first_class + place) found) at
      (λ less here. linked-more (defs_of kept) (class.def ∷ []) (first_class + place) found (omega (arith, less, count)) (so.linked place found here))
      (λ is same.
      subst (λ (c : Class). IsLinked (defs_of kept ++ class.def ∷ []) (first_class + place) c) same
      (subst (λ (n : ℕ). IsLinked (defs_of kept ++ class.def ∷ []) (first_class + n) class) (count ∙ sym is) linked)));
  installed = subst CanInstall (sym (defs-last kept class)) (can-install-more (defs_of kept) class.def so.installed none);
}
  where
    count : length (defs_of kept) ≡ length kept
    count = length-map kept (λ (c : Class). c.def)

-- one more class
pub kept-more : (names : List (List ℕ)) (kept : List Class) (table : List (List ℕ × ℕ)) (class : Class) (classes : List ClassDef) (number : ℕ)
    → IsKept names kept table → defs_of kept ≡ classes → length classes < most_classes → refusal classes class.def ≡ None
    → IsLinked (classes ++ class.def ∷ []) (first_class + length classes) class → number ≡ first_class + length classes
    → IsKept names (kept ++ class ∷ []) (with_entry table class.def.name number)
kept-more names kept table class classes number so is room none linked which =
    kept-own names kept table class number so
    (subst (λ (cs : List ClassDef). length cs < most_classes) (sym is) room)
    (subst (λ (cs : List ClassDef). refusal cs class.def ≡ None) (sym is) none)
    (subst (λ (cs : List ClassDef). IsLinked (cs ++ class.def ∷ []) (first_class + length cs) class) (sym is) linked)
    (subst (λ (cs : List ClassDef). number ≡ first_class + length cs) (sym is) which)

-- ---- the numbers of some names

joined : (found : Option ℕ) (xs : List ℕ) → cons_option found xs ≡ option_to_list found ++ xs
joined None xs = refl
joined (Some x) xs = refl

filter_map-last : (h : List ℕ → Option ℕ) (names : List (List ℕ)) (name : List ℕ)
    → filter_map h (names ++ name ∷ []) ≡ filter_map h names ++ option_to_list (h name)
filter_map-last h [] name = joined (h name) [] ∙ append-nil (option_to_list (h name))
filter_map-last h (other ∷ names) name =
    ap (cons_option (h other)) (filter_map-last h names name)
    ∙ joined (h other) (filter_map h names ++ option_to_list (h name))
    ∙ sym (append_assoc (option_to_list (h other)) (filter_map h names) (option_to_list (h name)))
    ∙ ap (λ (xs : List ℕ). xs ++ option_to_list (h name)) (sym (joined (h other) (filter_map h names)))

-- one more
pub named-more : (h : List ℕ → Option ℕ) (names : List (List ℕ)) (place parent : ℕ) (name : List ℕ) (old new : List ℕ) (found : Option ℕ)
    → place < length names → name ≡ get_or names place name → old ≡ parent ∷ filter_map h (take place names) → found ≡ h name
    → new ≡ old ++ option_to_list found → new ≡ parent ∷ filter_map h (take (place + 1) names)
named-more h names place parent name old new found less at is named added =
    added ∙ ap (λ (xs : List ℕ). xs ++ option_to_list found) is
    ∙ ap (λ (o : Option ℕ). parent ∷ (filter_map h (take place names) ++ option_to_list o)) named
    ∙ ap (λ (xs : List ℕ). parent ∷ xs) (sym (filter_map-last h (take place names) name))
    ∙ ap (λ (xs : List (List ℕ)). parent ∷ filter_map h xs) (ap (λ (n : List ℕ). take place names ++ n ∷ []) at ∙ sym (take_more names place name less))
