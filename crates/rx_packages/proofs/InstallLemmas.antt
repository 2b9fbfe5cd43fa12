-- Classes that are defined one after the other.
use Rattle.std.proofs.Common.{◌≡◌, ℕ, suc, ◌+◌, ◌<◌, List, [], ◌∷◌, ◌++◌, length, take, get_or, slice_get, Option, Some, None, sym, ◌∙◌, ap, subst, arith}
use Rattle.rx_tree.specs.declared.class.ClassDef.{ClassDef}
use Rattle.rx_classes.specs.declared.method.DefineRefused.{DefineRefused}
use Rattle.rx_classes.specs.Installing.{CanInstall, refusal}
use Rattle.rx_classes.proofs.LinkLemmas.{can-install-more}
use Rattle.rx_install.specs.Installation.{IsInstallationOrder}
use Rattle.rx_install.proofs.OrderLemmas.{one-order, order-of_all}
use Rattle.std.proofs.lemmas.Option.{slice_get-get_or}
use Rattle.std.proofs.Math.Seq.{take-suc}
use Rattle.std.proofs.lemmas.List.Sorted.{length_permutation}
use Rattle.rx_packages.specs.declared.refused.SourceRefused.{SourceRefused}
use Rattle.rx_packages.specs.declared.refused.SourceRefused.TheVariants as e
use Rattle.rx_packages.specs.Refusals.{IsFoundAt, IsStopped, NoneInstall}

abbrev none-of : List ClassDef
none-of = []

pub can_none : (classes : List ClassDef) → classes ≡ [] → CanInstall classes
can_none classes none place class at = absurd (empty place class (sym (ap (λ (l : List ClassDef). slice_get l place) none) ∙ at))
  where
    empty : (place : ℕ) (class : ClassDef) → slice_get none-of place ≡ Some class → ⊥
    empty place class is = cc

no-refusal : (found : DefineRefused) (cause : Option DefineRefused) → cause ≡ Some found → cause ≡ None → ⊥
no-refusal found cause some none = cc

pub can_more : (old new : List ClassDef) (class : ClassDef) → new ≡ old ++ class ∷ [] → refusal old class ≡ None → CanInstall old → CanInstall new
can_more old new class is none can = subst CanInstall (sym is) (can-install-more old class can none)

-- a refusal behind the scanner, with its cause
pub stopped_at : (source : List ℕ) (cause : Type 0) (result : SourceRefused) → IsFoundAt source result → cause → IsStopped source cause result
stopped_at source cause (e.Bad line number) found so = (found, so)
stopped_at source cause e.Long found so = absurd found
stopped_at source cause e.Deep found so = absurd found
stopped_at source cause e.OutOfMemory found so = absurd found

-- a class that can't be defined stands among classes that can't be installed
pub stops : (source : List ℕ) (classes table : List ClassDef) (place : ℕ) (class shared : ClassDef) (found : DefineRefused) (result : SourceRefused)
    → table ≡ take place classes → shared ≡ class → slice_get classes place ≡ Some class → refusal table shared ≡ Some found → IsFoundAt source result
    → IsStopped source (CanInstall classes → ⊥) result
stops source classes table place class shared found result is same at some line = stopped_at source (CanInstall classes → ⊥) result line (λ can.
    no-refusal found (refusal table shared) some (ap (λ (l : List ClassDef). refusal l shared) is ∙ ap (refusal (take place classes)) same ∙ can place class at))

pub at_place : (classes : List ClassDef) (place : ℕ) (class : ClassDef) → place < length classes → class ≡ get_or classes place class → slice_get classes place ≡ Some class
at_place classes place class within is = slice_get-get_or classes place class within ∙ ap (λ (c : ClassDef). Some c) (sym is)

pub table_more : (classes table new : List ClassDef) (i : ℕ) (class shared : ClassDef) → table ≡ take i classes → new ≡ table ++ shared ∷ [] → shared ≡ class
    → i < length classes → class ≡ get_or classes i class → new ≡ take (i + 1) classes
table_more classes table new i class shared is defined same within at =
    let next : suc i ≡ i + 1 = omega arith in
    defined ∙ ap (λ (t : List ClassDef). t ++ shared ∷ []) is ∙ ap (λ (c : ClassDef). take i classes ++ c ∷ []) (same ∙ at)
    ∙ sym (take-suc classes i class within) ∙ ap (λ n. take n classes) next

pub ruleset defined = (can_none, can_more, stops, at_place)

-- ---- the order of installation

pub no_order : (source : List ℕ) (classes : List ClassDef) (result : SourceRefused) → ((order : List ClassDef) → ¬ IsInstallationOrder classes order)
    → IsFoundAt source result → IsStopped source (NoneInstall classes) result
no_order source classes result none found = stopped_at source (NoneInstall classes) result found (λ order is can. none order is)

-- the classes of an order that can't be installed can't be in any other
pub none_installs : (source : List ℕ) (classes order : List ClassDef) (result : SourceRefused) → IsInstallationOrder classes order
    → IsStopped source (CanInstall order → ⊥) result → IsStopped source (NoneInstall classes) result
none_installs source classes order (e.Bad line number) is so = (so.0, λ other way can. so.1 (subst CanInstall (one-order classes other order way is) can))
none_installs source classes order e.Long is so = absurd so.0
none_installs source classes order e.Deep is so = absurd so.0
none_installs source classes order e.OutOfMemory is so = tt

pub few_order : (classes order : List ClassDef) → IsInstallationOrder classes order → length order ≡ length classes
few_order classes order is = length_permutation classes order (order-of_all classes order is)

pub ruleset installed = (no_order, none_installs, few_order)
