-- The first method in some scopes.
use Rattle.std.proofs.Common.{◌≡◌, ℕ, suc, ◌-◌, ◌<◌, Bool, Option, Some, List, length, take, drop, get_or, sym, ap, ◌∙◌, arith}
use Rattle.std.specs.Prelude.{◌==◌, option_map, position}
use Rattle.std.specs.Option.{option_map_or, option_or}
use Rattle.std.proofs.Math.Seq.{drop-cons}
use Rattle.std.proofs.lemmas.List.{length-drop, take_all}
use Rattle.rx_tree.specs.declared.class.Scope.{Scope}
use Rattle.rx_tree.specs.declared.class.ClassDef.{ClassDef}
use Rattle.rx_classes.specs.declared.method.MethodId.{MethodId}
use Rattle.rx_classes.specs.declared.method.Sought.{Sought}
use Rattle.rx_classes.specs.declared.method.Sought.TheVariants as s
use Rattle.rx_classes.specs.Lookup.{find_from, first_method, in_scope, method_at, scopes, sought}

-- it stands in the first scope that is left
pub first-here : (classes : List ClassDef) (name : List ℕ) (scopes : List Scope) (place : ℕ) (d : Scope) (method : MethodId) → place < length scopes
    → first_method classes name scopes ≡ first_method classes name (drop place scopes)
    → Some method ≡ method_at classes name (get_or scopes place d)
    → Some (get_or scopes place d, method) ≡ first_method classes name scopes
first-here classes name scopes place d method less so found =
    ap (λ (m : Option MethodId). option_or (in_scope (get_or scopes place d) m) (first_method classes name (drop (suc place) scopes))) found
    ∙ ap (first_method classes name) (sym (drop-cons scopes place d less)) ∙ sym so

-- the search from the first place of a class
pub found-from : (classes : List ClassDef) (class : ℕ) (class_side : Bool) (from : ℕ) (name : List ℕ) (items : List Scope) (place : ℕ) (result : Sought)
    → items ≡ scopes classes class class_side → position (λ (scope : Scope). from == scope.class) items ≡ Some place
    → result ≡ sought (first_method classes name (take (length items - place) (drop place items))) → result ≡ find_from classes class class_side from name
found-from classes class class_side from name items place result is at found =
    found
    ∙ ap (λ (xs : List Scope). sought (first_method classes name xs)) (take_all (length items - place) (drop place items) (omega (arith, length-drop place items)))
    ∙ ap (λ (o : Option ℕ). search items o) (sym at)
    ∙ ap (λ (xs : List Scope). search xs (position (λ (scope : Scope). from == scope.class) xs)) is
  where
    search : List Scope → Option ℕ → Sought
    search xs o = option_map_or (λ (rest : List Scope). sought (first_method classes name rest)) (option_map (λ (p : ℕ). drop p xs) o) s.NotInOrder
