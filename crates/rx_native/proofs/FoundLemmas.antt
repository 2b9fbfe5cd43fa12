-- A native method that is found for a receiver stands in one of the scopes that are searched.
use Rattle.std.proofs.Common.{◌≡◌, ℕ, zero, suc, ◌+◌, ◌<◌, Bool, true, false, List, [], ◌∷◌, ◌++◌, length, drop, Option, Some, None, refl, sym, ap, ◌∙◌, subst, arith, get_or}
use Rattle.std.proofs.lemmas.Bool.{eqb-true}
use Rattle.std.specs.Prelude.{◌==◌, ◌&&◌, slice_get, slice_index_or, option_map, find as first, position, IfSome, Contains}
use Rattle.std.proofs.lemmas.List.Quantifiers.{position-Some}
use Rattle.std.proofs.lemmas.Option.{slice_get-get_or}
use Rattle.std.specs.Option.{option_map_or, option_or}
use Rattle.std.specs.Str.{bytes_eq}
use Rattle.rx_tree.specs.Object.{Object}
use Rattle.rx_tree.specs.declared.value.Value.{Value}
use Rattle.rx_tree.specs.declared.class.ClassDef.{ClassDef}
use Rattle.rx_tree.specs.declared.class.MethodDef.{MethodDef}
use Rattle.rx_tree.specs.declared.class.Scope.{Scope}
use Rattle.rx_classes.specs.declared.method.MethodId.{MethodId}
use Rattle.rx_classes.specs.declared.method.MethodId.TheVariants as id
use Rattle.rx_classes.specs.Natives.{NativeMethod, is_native, native_method, native_methods, same_side}
use Rattle.rx_classes.specs.Classes.{class_at}
use Rattle.rx_classes.specs.Lookup.{find, first_method, in_scope, is_method, method_at, method_of}
use Rattle.rx_native.specs.Fitting.{IsReached}
use Rattle.rx_native.specs.Targets.{target_scope, target_scopes}

-- ---- the first method in some scopes

-- a method that is found stands in a scope that was searched
pub record IsFound (classes : List ClassDef) (name : List ℕ) (all : List Scope) (scope : Scope) (method : MethodId) : Type 0 where
  pub among : Contains all scope
  pub there : method_at classes name scope ≡ Some method

found-behind : (classes : List ClassDef) (name : List ℕ) (first : Scope) (rest : List Scope) (scope : Scope) (method : MethodId)
    → IsFound classes name rest scope method → IsFound classes name (first ∷ rest) scope method
found-behind classes name first rest scope method found =
    record { among = (suc found.among.0, omega (arith, found.among.1), found.among.2); there = found.there }

found-here : (classes : List ClassDef) (name : List ℕ) (first : Scope) (rest : List Scope) (found : Option MethodId) (scope : Scope) (method : MethodId)
    → method_at classes name first ≡ found
    → (first_method classes name rest ≡ Some (scope, method) → IsFound classes name rest scope method)
    → option_or (in_scope first found) (first_method classes name rest) ≡ Some (scope, method)
    → IsFound classes name (first ∷ rest) scope method
found-here classes name first rest None scope method at later is = found-behind classes name first rest scope method (later is)
found-here classes name first rest (Some m) scope method at later is =
    let same : first ≡ scope = ap (λ (o : Option (Scope × MethodId)). option_map_or (λ (p : Scope × MethodId). p.0) o first) is in
    let method_is : m ≡ method = ap (λ (o : Option (Scope × MethodId)). option_map_or (λ (p : Scope × MethodId). p.1) o m) is in
    record {
      among = (zero, omega arith, same);
      there = ap (method_at classes name) (sym same) ∙ (at ∙ ap (λ (x : MethodId). Some x) method_is);
    }

pub found-in : (classes : List ClassDef) (name : List ℕ) (all : List Scope) (scope : Scope) (method : MethodId)
    → first_method classes name all ≡ Some (scope, method) → IsFound classes name all scope method
found-in classes name [] scope method is = cc
found-in classes name (first ∷ rest) scope method is =
    found-here classes name first rest (method_at classes name first) scope method refl (found-in classes name rest scope method) is

-- ---- the number of a native method

no-body : (def : Option MethodDef) (number : ℕ) → option_map (λ (m : MethodDef). id.Body m.body m.private m.guarded) def ≡ Some (id.Native number) → ⊥
no-body None number is = cc
no-body (Some m) number is = cc

native-by : (number : ℕ) (name : List ℕ) (scope : Scope) (def : Option ClassDef) → method_of scope.class scope.class_side name def ≡ Some (id.Native number)
    → native_method scope.class scope.class_side name ≡ Some number
native-by number name scope None is = number-of (native_method scope.class scope.class_side name) is
  where
    number-of : (found : Option ℕ) → option_map id.Native found ≡ Some (id.Native number) → found ≡ Some number
    number-of None missing = cc
    number-of (Some n) same = let e : n ≡ number = cc in ap (λ (m : ℕ). Some m) e
native-by number name scope (Some class) is = absurd (no-body (first (is_method scope.class_side name) class.methods) number is)

same-side : (side other : Bool) → same_side side other ≡ true → side ≡ other
same-side true other same = sym same
same-side false true same = same
same-side false false same = refl

and-left : (a b : Bool) → (a && b) ≡ true → a ≡ true
and-left true b both = refl
and-left false b both = both

and-right : (a b : Bool) → (a && b) ≡ true → b ≡ true
and-right true b both = both
and-right false b both = cc

no-method : NativeMethod
no-method = record { class = 0; class_side = false; name = [] }

-- the native method of a number that is found in a scope
abbrev pub StandsIn : ℕ → Scope → Type 0
StandsIn number scope =
    (native : NativeMethod) × (slice_get native_methods number ≡ Some native) × (record { class = native.class; class_side = native.class_side } ≡ scope)

stands-in : (number : ℕ) (name : List ℕ) (scope : Scope) → native_method scope.class scope.class_side name ≡ Some number → StandsIn number scope
stands-in number name scope is =
    let test : NativeMethod → Bool = is_native scope.class scope.class_side name in
    let at : (number < length native_methods) × (test (get_or native_methods number no-method) ≡ true)
    × ((k : ℕ) → k < number → test (get_or native_methods k no-method) ≡ false) =
    position-Some test native_methods number no-method is in
    let native : NativeMethod = get_or native_methods number no-method in
    let sides : (same_side native.class_side scope.class_side && bytes_eq native.name name) ≡ true =
    and-right (native.class == scope.class) (same_side native.class_side scope.class_side && bytes_eq native.name name) at.1 in
    let class_is : native.class ≡ scope.class =
    eqb-true native.class scope.class (and-left (native.class == scope.class) (same_side native.class_side scope.class_side && bytes_eq native.name name) at.1) in
    let side_is : native.class_side ≡ scope.class_side =
    same-side native.class_side scope.class_side (and-left (same_side native.class_side scope.class_side) (bytes_eq native.name name) sides) in (
      native,
      slice_get-get_or native_methods number no-method at.0,
      ap (λ (class : ℕ). record { class = class; class_side = native.class_side }) class_is
          ∙ ap (λ (side : Bool). record { class = scope.class; class_side = side }) side_is,
    )

-- A native method that a search in some scopes comes to stands in one of them.
pub found-stands : (classes : List ClassDef) (name : List ℕ) (all : List Scope) (scope : Scope) (number : ℕ)
    → first_method classes name all ≡ Some (scope, id.Native number)
    → IfSome (slice_get native_methods number) (λ (native : NativeMethod). Contains all (record { class = native.class; class_side = native.class_side }))
found-stands classes name all scope number is =
    let found : IsFound classes name all scope (id.Native number) = found-in classes name all scope (id.Native number) is in
    let stands : StandsIn number scope = stands-in number name scope (native-by number name scope (class_at classes scope.class) found.there) in
    subst (λ (o : Option NativeMethod). IfSome o (λ (native : NativeMethod). Contains all (record { class = native.class; class_side = native.class_side })))
    (sym stands.1) (subst (λ (s : Scope). Contains all s) (sym stands.2) found.among)

-- What `find` gives for a receiver is a method that the receiver reaches.
pub find-reached : (classes : List ClassDef) (objects : List Object) (target : Value) (name : List ℕ) (scope : Scope) (number : ℕ)
    → find classes (target_scope objects target).class (target_scope objects target).class_side name ≡ Some (scope, id.Native number)
    → IsReached classes objects target number
find-reached classes objects target name scope number is = found-stands classes name (target_scopes classes objects target) scope number is
