-- A native method that a message comes to is one that the receiver reaches; and who has NEW is a class.
use Rattle.std.proofs.Common.{◌≡◌, ℕ, zero, suc, codes, Bool, true, false, List, [], ◌∷◌, drop, Option, Some, None, refl, sym, ap, ◌∙◌, subst, arith}
use Rattle.std.specs.Prelude.{◌==◌, ◌||◌, option_map, position, slice_get, Contains, IfSome, IsTrue, if◌then◌else◌}
use Rattle.std.specs.Option.{option_map_or}
use Rattle.std.proofs.lemmas.Bool.{eqb-true}
use Rattle.rx_tree.specs.Object.{Object}
use Rattle.rx_tree.specs.declared.value.Value.{Value}
use Rattle.rx_tree.specs.declared.value.Value.TheVariants.{Str, Ref}
use Rattle.rx_tree.specs.declared.class.ClassDef.{ClassDef}
use Rattle.rx_tree.specs.declared.class.Scope.{Scope}
use Rattle.rx_classes.specs.declared.method.MethodId.{MethodId}
use Rattle.rx_classes.specs.declared.method.MethodId.TheVariants as id
use Rattle.rx_classes.specs.declared.method.Sought.{Sought}
use Rattle.rx_classes.specs.declared.method.Sought.TheVariants as s
use Rattle.rx_classes.specs.Classes.{IsClass}
use Rattle.rx_classes.specs.Lookup.{find, first_method, sought}
use Rattle.rx_classes.specs.Natives.{NativeMethod, array_class, native_methods, string_class}
use Rattle.rx_classes.specs.Orders.{order}
use Rattle.rx_native.specs.declared.class.OfClass.TheVariants as of_class
use Rattle.rx_native.specs.declared.array.OfArrayClass.TheVariants as of_array
use Rattle.rx_native.specs.declared.method.Method.TheVariants as m
use Rattle.rx_heap.specs.declared.kind.Kind.{Kind}
use Rattle.rx_heap.specs.declared.kind.Kind.TheVariants as k
use Rattle.rx_heap.specs.Objects.{class_at}
use Rattle.rx_native.specs.Fitting.{Fits, IsReached, IsThere}
use Rattle.rx_native.specs.Methods.{object_in}
use Rattle.rx_native.specs.Targets.{is_class, is_class_kind, kind_at, target_scope, target_scopes}
use Rattle.rx_native.proofs.FoundLemmas.{find-reached, found-stands}
use Rattle.rx_native.proofs.ReachLemmas.{among-sides, class-receiver, scope-reached, scopes_by}
use Rattle.rx_sends.specs.declared.parts.Sent.{Sent}
use Rattle.rx_sends.specs.declared.reaching.Reached.TheVariants as r
use Rattle.rx_sends.specs.Delivering.{IsReachedBy}
use Rattle.rx_sends.specs.Numbers.{is_new, new, new_array}
use Rattle.rx_sends.specs.Reaching.{is_permitted, or_unknown, reached, reached_by, sought_for}

-- ---- a search from a class on

contains-drop : (count : ℕ) (all : List Scope) (scope : Scope) → Contains (drop count all) scope → Contains all scope
contains-drop zero all scope among = among
contains-drop (suc count) [] scope among = among
contains-drop (suc count) (first ∷ rest) scope among =
    let later : Contains rest scope = contains-drop count rest scope among in
    (suc later.0, omega (arith, later.1), later.2)

stands-among : (count : ℕ) (all : List Scope) (found : Option NativeMethod)
    → IfSome found (λ (native : NativeMethod). Contains (drop count all) (record { class = native.class; class_side = native.class_side }))
    → IfSome found (λ (native : NativeMethod). Contains all (record { class = native.class; class_side = native.class_side }))
stands-among count all None stands = stands
stands-among count all (Some native) stands = contains-drop count all (record { class = native.class; class_side = native.class_side }) stands

found-of : (found : Option (Scope × MethodId)) (scope : Scope) (method : MethodId) → sought found ≡ s.Found scope method → found ≡ Some (scope, method)
found-of None scope method is = cc
found-of (Some found) scope method is =
    let scope_is : found.0 ≡ scope = cc in
    let method_is : found.1 ≡ method = cc in
    ap (λ (sc : Scope). Some (sc, found.1)) scope_is ∙ ap (λ (me : MethodId). Some (scope, me)) method_is

from-stands : (classes : List ClassDef) (all : List Scope) (name : List ℕ) (scope : Scope) (number : ℕ) (place : Option ℕ)
    → option_map_or (λ (rest : List Scope). sought (first_method classes name rest)) (option_map (λ (p : ℕ). drop p all) place) s.NotInOrder
    ≡ s.Found scope (id.Native number)
    → IfSome (slice_get native_methods number) (λ (native : NativeMethod). Contains all (record { class = native.class; class_side = native.class_side }))
from-stands classes all name scope number None is = cc
from-stands classes all name scope number (Some place) is =
    stands-among place all (slice_get native_methods number)
    (found-stands classes name (drop place all) scope number (found-of (first_method classes name (drop place all)) scope (id.Native number) is))

sought-native : (classes : List ClassDef) (objects : List Object) (target : Value) (above : Option ℕ) (name : List ℕ) (scope : Scope) (number : ℕ)
    → sought_for classes objects target above name ≡ s.Found scope (id.Native number) → IsReached classes objects target number
sought-native classes objects target None name scope number is =
    find-reached classes objects target name scope number
    (found-of (find classes (target_scope objects target).class (target_scope objects target).class_side name) scope (id.Native number) is)
sought-native classes objects target (Some above) name scope number is =
    from-stands classes (target_scopes classes objects target) name scope number
    (position (λ (sc : Scope). above == sc.class) (target_scopes classes objects target)) is

sought-reached : (classes : List ClassDef) (objects : List Object) (target : Value) (above : Option ℕ) (name : List ℕ) (scope : Scope) (method : MethodId)
    → sought_for classes objects target above name ≡ s.Found scope method → IsReachedBy classes objects target method
sought-reached classes objects target above name scope (id.Native number) is = sought-native classes objects target above name scope number is
sought-reached classes objects target above name scope (id.Body body private guarded) is = tt

-- ---- what a message reaches

-- what a choice between two of them comes to is one of them
unknown-found : (sender : Option ℕ) (target : Value) (found : Sought) (scope : Scope) (method : MethodId)
    → or_unknown sender target found ≡ r.Unknown scope method → found ≡ s.Found scope method
unknown-found sender target s.NoMethod scope method is = cc
unknown-found sender target s.NotInOrder scope method is = cc
unknown-found sender target (s.Found sc me) scope method is = by (is_permitted sender target me) is
  where
    by : (permitted : Bool) → (if permitted then r.Unknown sc me else r.NoMethod) ≡ r.Unknown scope method → s.Found sc me ≡ s.Found scope method
    by true same = cc
    by false same = cc

no-method-of-unknown : (sender : Option ℕ) (target : Value) (found : Sought) (scope : Scope) (method : MethodId)
    → or_unknown sender target found ≡ r.Method scope method → ⊥
no-method-of-unknown sender target s.NoMethod scope method is = cc
no-method-of-unknown sender target s.NotInOrder scope method is = cc
no-method-of-unknown sender target (s.Found sc me) scope method is = by (is_permitted sender target me) is
  where
    by : (permitted : Bool) → (if permitted then r.Unknown sc me else r.NoMethod) ≡ r.Method scope method → ⊥
    by true same = cc
    by false same = cc

method-found : (sender : Option ℕ) (target : Value) (found unknown : Sought) (scope : Scope) (method : MethodId)
    → reached_by sender target found unknown ≡ r.Method scope method → found ≡ s.Found scope method
method-found sender target s.NotInOrder unknown scope method is = cc
method-found sender target s.NoMethod unknown scope method is = absurd (no-method-of-unknown sender target unknown scope method is)
method-found sender target (s.Found sc me) unknown scope method is = by (is_permitted sender target me) is
  where
    by : (permitted : Bool) → (if permitted then r.Method sc me else or_unknown sender target unknown) ≡ r.Method scope method
        → s.Found sc me ≡ s.Found scope method
    by true same = cc
    by false same = absurd (no-method-of-unknown sender target unknown scope method same)

unknown-of : (sender : Option ℕ) (target : Value) (found unknown : Sought) (scope : Scope) (method : MethodId)
    → reached_by sender target found unknown ≡ r.Unknown scope method → unknown ≡ s.Found scope method
unknown-of sender target s.NotInOrder unknown scope method is = cc
unknown-of sender target s.NoMethod unknown scope method is = unknown-found sender target unknown scope method is
unknown-of sender target (s.Found sc me) unknown scope method is = by (is_permitted sender target me) is
  where
    by : (permitted : Bool) → (if permitted then r.Method sc me else or_unknown sender target unknown) ≡ r.Unknown scope method
        → unknown ≡ s.Found scope method
    by true same = cc
    by false same = unknown-found sender target unknown scope method same

pub reached-method : (classes : List ClassDef) (objects : List Object) (sender : Option ℕ) (sent : Sent) (scope : Scope) (method : MethodId)
    → r.Method scope method ≡ reached classes objects sender sent → IsReachedBy classes objects sent.target method
reached-method classes objects sender sent scope method is =
    sought-reached classes objects sent.target sent.above sent.name scope method
    (method-found sender sent.target (sought_for classes objects sent.target sent.above sent.name)
    (sought_for classes objects sent.target sent.above (codes "UNKNOWN")) scope method (sym is))

pub reached-unknown : (classes : List ClassDef) (objects : List Object) (sender : Option ℕ) (sent : Sent) (scope : Scope) (method : MethodId)
    → r.Unknown scope method ≡ reached classes objects sender sent → IsReachedBy classes objects sent.target method
reached-unknown classes objects sender sent scope method is =
    sought-reached classes objects sent.target sent.above (codes "UNKNOWN") scope method
    (unknown-of sender sent.target (sought_for classes objects sent.target sent.above sent.name)
    (sought_for classes objects sent.target sent.above (codes "UNKNOWN")) scope method (sym is))

-- ---- who has NEW

abbrev pub array_side : Scope
array_side = record { class = array_class; class_side = true }

class-kind : (kind : Kind) → is_class_kind kind ≡ true → kind ≡ k.ClassObject
class-kind k.Plain is = cc
class-kind k.ClassObject is = refl
class-kind k.Array is = cc
class-kind k.Queue is = cc
class-kind k.Directory is = cc
class-kind k.Message is = cc

-- a receiver that has a method of a class's own side is a class
side-by : (classes : List ClassDef) (objects : List Object) (object : ℕ) (is : Bool) → is_class objects object ≡ is
    → (is_class objects object ≡ true → IsClass classes object)
    → Contains (scopes_by classes objects object is) array_side → IsClass classes object
side-by classes objects object true is class among = class is
side-by classes objects object false is class among =
    let no : true ≡ false = (among-sides false (order classes (class_at objects object)) array_side among).1 in cc

pub array-target : (classes : List ClassDef) (objects : List Object) (target : Value) → IsThere objects target → Fits classes objects
    → Contains (target_scopes classes objects target) array_side → IsClass classes (object_in target)
array-target classes objects (Str text) there fits among =
    let no : true ≡ false = (among-sides false (order classes string_class) array_side among).1 in cc
array-target classes objects (Ref object) there fits among =
    side-by classes objects object (is_class objects object) refl
    (λ is. (fits object there).class_object (class-kind (kind_at objects object) is)) among

pub new-receiver : (classes : List ClassDef) (objects : List Object) (target : Value) (number : ℕ) → IsTrue (is_new number)
    → IsReached classes objects target number → IsThere objects target → Fits classes objects → IsClass classes (object_in target)
new-receiver classes objects target number is has there fits = by (number == new) refl
  where
    instances : number ≡ new → IsClass classes (object_in target)
    instances same =
        class-receiver classes objects target new of_class.New refl (subst (λ (n : ℕ). IsReached classes objects target n) same has) there fits

    own : number ≡ new_array → IsClass classes (object_in target)
    own same =
        array-target classes objects target there fits
        (scope-reached classes objects target new_array (m.ArrayClass of_array.New) refl
        (subst (λ (n : ℕ). IsReached classes objects target n) same has))

    by : (first : Bool) → (number == new) ≡ first → IsClass classes (object_in target)
    by true same = instances (eqb-true number new same)
    by false other =
        own (eqb-true number new_array (sym (ap (λ (b : Bool). b || (number == new_array)) other) ∙ is))
