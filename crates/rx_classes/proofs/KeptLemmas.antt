-- What is kept of the classes.
use Rattle.std.proofs.Common.{◌≡◌, ℕ, suc, zero, ◌+◌, ◌-◌, ◌≤◌, Bor, Option, None, Some, List, [], ◌∷◌, map, refl, sym, subst, arith, slice_get}
use Rattle.std.specs.Prelude.{IfSome, option_map}
use Rattle.std.specs.Option.{option_copied}
use Rattle.rx_tree.specs.declared.class.ClassDef.{ClassDef}
use Rattle.rx_classes.specs.declared.class.Class.{Class}
use Rattle.rx_classes.specs.Natives.{first_class}
use Rattle.rx_classes.specs.Kept.{IsLinked, defs_of}

-- what is kept of a class that is found
pub kept-linked : (kept : List Class) (defs : List ClassDef) (number : ℕ) (found : Option (Bor Class))
    → ((place : ℕ) (class : Class) → slice_get kept place ≡ Some class → IsLinked (defs_of kept) (first_class + place) class)
    → defs_of kept ≡ defs → first_class ≤ number → option_copied found ≡ slice_get kept (number - first_class)
    → IfSome found (λ class. IsLinked defs number class.now)
kept-linked kept defs number None all is some at = tt
kept-linked kept defs number (Some class) all is some at =
    let same : first_class + (number - first_class) ≡ number = omega (arith, some) in
    subst (λ (cs : List ClassDef). IsLinked cs number class.now) is
    (subst (λ (n : ℕ). IsLinked (defs_of kept) n class.now) same (all (number - first_class) class.now (sym at)))

pub slice_get-map : {A B : Type 0} (f : A → B) (xs : List A) (i : ℕ) → slice_get (map f xs) i ≡ option_map f (slice_get xs i)
slice_get-map f [] i = refl
slice_get-map f (x ∷ xs) zero = refl
slice_get-map f (x ∷ xs) (suc i) = slice_get-map f xs i
