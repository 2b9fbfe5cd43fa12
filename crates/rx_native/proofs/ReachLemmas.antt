-- A receiver of a native method is of the kind that the method's class asks for.
use Rattle.std.proofs.Common.{◌≡◌, ℕ, zero, suc, ◌<◌, Bool, true, false, List, [], ◌∷◌, ◌++◌, length, Option, Some, None, refl, sym, ap, ◌∙◌, subst, arith}
use Rattle.std.proofs.lemmas.Bool.{eqb-true}
use Rattle.std.specs.Prelude.{◌==◌, ◌&&◌, if◌then◌else◌, slice_get, slice_index_or, option_and_then, IfSome, Contains}
use Rattle.std.specs.List.{list_all}
use Rattle.std.specs.Option.{option_map_or}
use Rattle.rx_tree.specs.Object.{Object}
use Rattle.rx_tree.specs.declared.value.Value.{Value}
use Rattle.rx_tree.specs.declared.value.Value.TheVariants.{Str, Ref}
use Rattle.rx_tree.specs.declared.class.ClassDef.{ClassDef}
use Rattle.rx_tree.specs.declared.class.Scope.{Scope}
use Rattle.rx_classes.specs.Natives.{NativeMethod, native_methods, same_side, object_class, class_class, string_class, array_class, queue_class, directory_class}
use Rattle.rx_classes.specs.Classes.{IsClass}
use Rattle.rx_classes.specs.Lookup.{scopes, sides}
use Rattle.rx_classes.specs.Orders.{order}
use Rattle.rx_heap.specs.declared.kind.Kind.{Kind}
use Rattle.rx_heap.specs.declared.kind.Kind.TheVariants as k
use Rattle.rx_heap.specs.Objects.{IsObject, IsOfKind, class_at}
use Rattle.rx_native.specs.Fitting.{Fits, IsKindOf, IsReached, IsThere}
use Rattle.rx_native.specs.Targets.{is_class, is_class_kind, kind_at, target_scopes}
use Rattle.rx_native.specs.declared.class.OfClass.{OfClass}
use Rattle.rx_native.specs.declared.array.OfArray.{OfArray}
use Rattle.rx_native.specs.declared.queue.OfQueue.{OfQueue}
use Rattle.rx_native.specs.declared.directory.OfDirectory.{OfDirectory}
use Rattle.rx_native.specs.declared.method.Method.{Method}
use Rattle.rx_native.specs.declared.method.Method.TheVariants as m
use Rattle.rx_native.specs.Methods.{method_of, method_numbered, object_in}

-- ---- where a method stands

-- the class of a method, and whether it stands on the class's own side
abbrev pub class_of : Method → ℕ
class_of (m.Object method) = object_class
class_of (m.Class method) = class_class
class_of (m.String method) = string_class
class_of (m.ArrayClass method) = array_class
class_of (m.Array method) = array_class
class_of (m.Queue method) = queue_class
class_of (m.Directory method) = directory_class

abbrev pub side_of : Method → Bool
side_of (m.ArrayClass method) = true
side_of _ = false

abbrev pub stands : NativeMethod → Method → Bool
stands native method = (native.class == class_of method) && same_side native.class_side (side_of method)

-- a native method that is one of the table stands where the table's class is
abbrev pub is_placed : NativeMethod → Bool
is_placed native = option_map_or (stands native) (method_of native) true

pub all-placed : list_all is_placed native_methods ≡ true
all-placed = refl

-- ---- what is found at a place

and-left : (a b : Bool) → (a && b) ≡ true → a ≡ true
and-left true b both = refl
and-left false b both = both

and-right : (a b : Bool) → (a && b) ≡ true → b ≡ true
and-right true b both = both
and-right false b both = cc

pub list_all-at : {X : Type 0} (p : X → Bool) (xs : List X) (i : ℕ) (x : X) → list_all p xs ≡ true → slice_get xs i ≡ Some x → p x ≡ true
list_all-at p [] i x all is = cc
list_all-at p (y ∷ xs) zero x all is = let e : y ≡ x = cc in ap p (sym e) ∙ and-left (p y) (list_all p xs) all
list_all-at p (y ∷ xs) (suc i) x all is = list_all-at p xs i x (and-right (p y) (list_all p xs) all) is

same-side : (side other : Bool) → same_side side other ≡ true → side ≡ other
same-side true other same = sym same
same-side false true same = same
same-side false false same = refl

-- A method of the table stands in the class and on the side that its family has.
pub record IsPlaced (native : NativeMethod) (method : Method) : Type 0 where
  pub class : native.class ≡ class_of method
  pub side : native.class_side ≡ side_of method

pub placed : (id : ℕ) (native : NativeMethod) (method : Method) → slice_get native_methods id ≡ Some native → method_numbered id ≡ Some method → IsPlaced native method
placed id native method at numbered =
    let of : method_of native ≡ Some method = sym (ap (option_and_then method_of) at) ∙ numbered in
    let stood : stands native method ≡ true =
    sym (ap (λ (o : Option Method). option_map_or (stands native) o true) of) ∙ list_all-at is_placed native_methods id native all-placed at in
    record {
      class = eqb-true native.class (class_of method) (and-left (native.class == class_of method) (same_side native.class_side (side_of method)) stood);
      side = same-side native.class_side (side_of method) (and-right (native.class == class_of method) (same_side native.class_side (side_of method)) stood);
    }

-- ---- scopes

sides-at : (side : Bool) (xs : List ℕ) (k : ℕ) (d : Scope) → k < length xs → slice_index_or (sides side xs) k d ≡ record { class = slice_index_or xs k d.class; class_side = side }
sides-at side [] k d within = absurd (omega (arith, within))
sides-at side (x ∷ xs) zero d within = refl
sides-at side (x ∷ xs) (suc k) d within = sides-at side xs k d (omega (arith, within))

length-sides : (side : Bool) (xs : List ℕ) → length (sides side xs) ≡ length xs
length-sides side [] = refl
length-sides side (x ∷ xs) = ap suc (length-sides side xs)

-- a scope that is among those of classes is of one of them, and of their side
pub among-sides : (side : Bool) (xs : List ℕ) (scope : Scope) → Contains (sides side xs) scope → Contains xs scope.class × (scope.class_side ≡ side)
among-sides side xs scope (k, within, is) =
    let there : k < length xs = omega (arith, within, length-sides side xs) in
    let same : record { class = slice_index_or xs k scope.class; class_side = side } ≡ scope = sym (sides-at side xs k scope there) ∙ is in
    ((k, there, ap (λ (s : Scope). s.class) same), sym (ap (λ (s : Scope). s.class_side) same))

-- a scope of instances isn't among those of classes' own sides
behind-class-sides : (xs : List ℕ) (rest : List Scope) (native : ℕ)
    → Contains (sides true xs ++ rest) (record { class = native; class_side = false }) → Contains rest (record { class = native; class_side = false })
behind-class-sides [] rest native among = among
behind-class-sides (x ∷ xs) rest native (zero, within, is) = let no : true ≡ false = ap (λ (s : Scope). s.class_side) is in cc
behind-class-sides (x ∷ xs) rest native (suc k, within, is) = behind-class-sides xs rest native (k, omega (arith, within), is)

neither : (a b n : ℕ) → (a ≡ n → ⊥) → (b ≡ n → ⊥) → Contains (a ∷ b ∷ []) n → ⊥
neither a b n no-a no-b (zero, within, is) = no-a is
neither a b n no-a no-b (suc zero, within, is) = no-b is
neither a b n no-a no-b (suc (suc k), within, is) = omega (arith, within)

string-order : (classes : List ClassDef) → order classes string_class ≡ string_class ∷ object_class ∷ []
string-order classes = refl

class-kind : (kind : Kind) → is_class_kind kind ≡ true → kind ≡ k.ClassObject
class-kind k.Plain is = cc
class-kind k.ClassObject is = refl
class-kind k.Array is = cc
class-kind k.Queue is = cc
class-kind k.Directory is = cc
class-kind k.Message is = cc

-- ---- receivers

abbrev pub of_instances : ℕ → Scope
of_instances native = record { class = native; class_side = false }

abbrev pub scopes_by : List ClassDef → List Object → ℕ → Bool → List Scope
scopes_by classes objects object is =
    let scope : Scope = if is then record { class = object; class_side = true } else record { class = class_at objects object; class_side = false } in
    scopes classes scope.class scope.class_side

-- a receiver that has a method of Array, Queue or Directory is of that kind
instance-by : (classes : List ClassDef) (objects : List Object) (object native : ℕ) (kind : Kind) (is : Bool) → IsObject objects object
    → IsKindOf classes objects object native kind → string_class < native → Contains (scopes_by classes objects object is) (of_instances native)
    → kind_at objects object ≡ kind
instance-by classes objects object native kind true there of above among =
    let beside : Contains (sides false (class_class ∷ object_class ∷ [])) (of_instances native) =
    behind-class-sides (order classes object) (sides false (class_class ∷ object_class ∷ [])) native among in
    absurd (neither class_class object_class native (λ e. omega (arith, above, e)) (λ e. omega (arith, above, e))
    (among-sides false (class_class ∷ object_class ∷ []) (of_instances native) beside).0)
instance-by classes objects object native kind false there of above among =
    of (among-sides false (order classes (class_at objects object)) (of_instances native) among).0

pub instance : (classes : List ClassDef) (objects : List Object) (target : Value) (native : ℕ) (kind : Kind) → IsThere objects target
    → (IsObject objects (object_in target) → IsKindOf classes objects (object_in target) native kind) → string_class < native
    → Contains (target_scopes classes objects target) (of_instances native)
    → IsOfKind objects (object_in target) kind
instance classes objects (Str text) native kind there of above among =
    absurd (neither string_class object_class native (λ e. omega (arith, above, e)) (λ e. omega (arith, above, e))
    (among-sides false (string_class ∷ object_class ∷ []) (of_instances native) among).0)
instance classes objects (Ref object) native kind there of above among =
    (there, instance-by classes objects object native kind (is_class objects object) there (of there) above among)

-- a receiver that has a method of Class is a class
class-by : (classes : List ClassDef) (objects : List Object) (object : ℕ) (is : Bool) → is_class objects object ≡ is → IsObject objects object
    → Fits classes objects → Contains (scopes_by classes objects object is) (of_instances class_class) → IsClass classes object
class-by classes objects object true is there fits among = (fits object there).class_object (class-kind (kind_at objects object) is)
class-by classes objects object false is there fits among =
    (fits object there).class_object
    ((fits object there).of_class (among-sides false (order classes (class_at objects object)) (of_instances class_class) among).0)

pub class-target : (classes : List ClassDef) (objects : List Object) (target : Value) → IsThere objects target → Fits classes objects
    → Contains (target_scopes classes objects target) (of_instances class_class) → IsClass classes (object_in target)
class-target classes objects (Str text) there fits among =
    absurd (neither string_class object_class class_class (λ e. omega (arith, e)) (λ e. omega (arith, e))
    (among-sides false (string_class ∷ object_class ∷ []) (of_instances class_class) among).0)
class-target classes objects (Ref object) there fits among = class-by classes objects object (is_class objects object) refl there fits among

-- ---- methods that are reached

-- the scope of a method that is reached
pub scope-reached : (classes : List ClassDef) (objects : List Object) (target : Value) (id : ℕ) (method : Method) → method_numbered id ≡ Some method
    → IsReached classes objects target id
    → Contains (target_scopes classes objects target) (record { class = class_of method; class_side = side_of method })
scope-reached classes objects target id method numbered reached = by (slice_get native_methods id) refl reached
  where
    by : (found : Option NativeMethod) → slice_get native_methods id ≡ found
        → IfSome found (λ (native : NativeMethod). Contains (target_scopes classes objects target)
        (record { class = native.class; class_side = native.class_side }))
        → Contains (target_scopes classes objects target) (record { class = class_of method; class_side = side_of method })
    by None at reached = let no : None ≡ Some method = ap (option_and_then method_of) (sym at) ∙ numbered in cc
    by (Some native) at reached =
        let is : IsPlaced native method = placed id native method at numbered in
        subst (λ (scope : Scope). Contains (target_scopes classes objects target) scope)
        (ap (λ (class : ℕ). record { class = class; class_side = native.class_side }) is.class
        ∙ ap (λ (side : Bool). record { class = class_of method; class_side = side }) is.side) reached

-- ---- the receivers of each family

pub class-receiver : (classes : List ClassDef) (objects : List Object) (target : Value) (id : ℕ) (method : OfClass) → method_numbered id ≡ Some (m.Class method)
    → IsReached classes objects target id → IsThere objects target → Fits classes objects → IsClass classes (object_in target)
class-receiver classes objects target id method numbered reached there fits =
    class-target classes objects target there fits (scope-reached classes objects target id (m.Class method) numbered reached)

pub array-receiver : (classes : List ClassDef) (objects : List Object) (target : Value) (id : ℕ) (method : OfArray) → method_numbered id ≡ Some (m.Array method)
    → IsReached classes objects target id → IsThere objects target → Fits classes objects → IsOfKind objects (object_in target) k.Array
array-receiver classes objects target id method numbered reached there fits =
    instance classes objects target array_class k.Array there (λ is. (fits (object_in target) is).of_array) (omega arith)
    (scope-reached classes objects target id (m.Array method) numbered reached)

pub queue-receiver : (classes : List ClassDef) (objects : List Object) (target : Value) (id : ℕ) (method : OfQueue) → method_numbered id ≡ Some (m.Queue method)
    → IsReached classes objects target id → IsThere objects target → Fits classes objects → IsOfKind objects (object_in target) k.Queue
queue-receiver classes objects target id method numbered reached there fits =
    instance classes objects target queue_class k.Queue there (λ is. (fits (object_in target) is).of_queue) (omega arith)
    (scope-reached classes objects target id (m.Queue method) numbered reached)

pub directory-receiver : (classes : List ClassDef) (objects : List Object) (target : Value) (id : ℕ) (method : OfDirectory)
    → method_numbered id ≡ Some (m.Directory method) → IsReached classes objects target id → IsThere objects target → Fits classes objects
    → IsOfKind objects (object_in target) k.Directory
directory-receiver classes objects target id method numbered reached there fits =
    instance classes objects target directory_class k.Directory there (λ is. (fits (object_in target) is).of_directory) (omega arith)
    (scope-reached classes objects target id (m.Directory method) numbered reached)
