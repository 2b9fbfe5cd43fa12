-- What holds of a receiver still once an Array is made.
use Rattle.std.proofs.Common.{◌≡◌, inl, inr, ℕ, zero, suc, ◌+◌, ◌<◌, List, [], ◌∷◌, ◌++◌, length, Option, refl, sym, ap, ◌∙◌, subst, arith, length-append}
use Rattle.std.specs.Prelude.{Contains, IfSome, true, false, slice_get, if◌then◌else◌}
use Rattle.std.proofs.lemmas.Bool.{cases_lt}
use Rattle.rx_tree.specs.Object.{Object, Contents, Places}
use Rattle.rx_tree.specs.declared.value.Value.{Value}
use Rattle.rx_tree.specs.declared.value.Value.TheVariants.{Str, Ref}
use Rattle.rx_tree.specs.declared.class.ClassDef.{ClassDef}
use Rattle.rx_tree.specs.declared.class.Scope.{Scope}
use Rattle.rx_classes.specs.declared.method.MethodId.{MethodId}
use Rattle.rx_classes.specs.declared.method.MethodId.TheVariants as id
use Rattle.rx_classes.specs.Classes.{IsClass}
use Rattle.rx_classes.specs.Lookup.{scopes}
use Rattle.rx_classes.specs.Natives.{NativeMethod, array_class, class_class, directory_class, native_methods, object_class, queue_class}
use Rattle.rx_classes.specs.Orders.{order}
use Rattle.rx_heap.specs.declared.kind.Kind.{Kind}
use Rattle.rx_heap.specs.declared.kind.Kind.TheVariants as k
use Rattle.rx_heap.specs.Objects.{IsObject, class_at, class_of, contents_of, kind_by, object_at}
use Rattle.rx_native.specs.Arguments.{Arguments}
use Rattle.rx_native.specs.Fitting.{AreThere, Fits, FitsObject, IsThere}
use Rattle.rx_native.specs.Outcomes.{next_number, with_object}
use Rattle.rx_native.specs.Targets.{is_class_kind, kind_at, target_scope}
use Rattle.rx_native.proofs.HeapLemmas.{made-object, made-there}
use Rattle.rx_sends.specs.Delivering.{IsReachedBy, unknown_args}

-- ---- the objects that were there

got-before : {X : Type 0} (xs ys : List X) (place : ℕ) → place < length xs → slice_get (xs ++ ys) place ≡ slice_get xs place
got-before [] ys place within = absurd (omega (arith, within))
got-before (x ∷ xs) ys zero within = refl
got-before (x ∷ xs) ys (suc place) within = got-before xs ys place (omega (arith, within))

object-before : (objects more : List Object) (number : ℕ) → IsObject objects number → object_at (objects ++ more) number ≡ object_at objects number
object-before objects more zero there = absurd (omega (arith, there.0))
object-before objects more (suc place) there = got-before objects more place (omega (arith, there.1))

class-before : (objects more : List Object) (number : ℕ) → IsObject objects number → class_at (objects ++ more) number ≡ class_at objects number
class-before objects more number there = ap class_of (object-before objects more number there)

kind-before : (objects more : List Object) (number : ℕ) → IsObject objects number → kind_at (objects ++ more) number ≡ kind_at objects number
kind-before objects more number there = ap (λ (o : Option Object). kind_by (contents_of o)) (object-before objects more number there)

-- ---- objects and classes fit

fits-before : (classes : List ClassDef) (objects more : List Object) (number : ℕ) → IsObject objects number → FitsObject classes objects number
    → FitsObject classes (objects ++ more) number
fits-before classes objects more number there fits =
    let class_is : class_at (objects ++ more) number ≡ class_at objects number = class-before objects more number there in
    let kind_is : kind_at (objects ++ more) number ≡ kind_at objects number = kind-before objects more number there in
    record {
      known = subst (λ (c : ℕ). IsClass classes c) (sym class_is) fits.known;
      class_object = λ is. fits.class_object (sym kind_is ∙ is);
      of_class = λ among. kind_is ∙ fits.of_class (subst (λ (c : ℕ). Contains (order classes c) class_class) class_is among);
      of_array = λ among. kind_is ∙ fits.of_array (subst (λ (c : ℕ). Contains (order classes c) array_class) class_is among);
      of_queue = λ among. kind_is ∙ fits.of_queue (subst (λ (c : ℕ). Contains (order classes c) queue_class) class_is among);
      of_directory = λ among. kind_is ∙ fits.of_directory (subst (λ (c : ℕ). Contains (order classes c) directory_class) class_is among);
    }

neither : (a b n : ℕ) → (a ≡ n → ⊥) → (b ≡ n → ⊥) → Contains (a ∷ b ∷ []) n → ⊥
neither a b n no-a no-b (zero, within, is) = no-a is
neither a b n no-a no-b (suc zero, within, is) = no-b is
neither a b n no-a no-b (suc (suc place), within, is) = omega (arith, within)

-- a class whose order is it and Object
pub not-in-order : (class native : ℕ) → (class ≡ native → ⊥) → (object_class ≡ native → ⊥) → Contains (class ∷ object_class ∷ []) native → ⊥
not-in-order class native no-a no-b among = neither class object_class native no-a no-b among

-- ---- a new object

-- what a new object has to be to fit
pub record IsFitting (classes : List ClassDef) (class : ℕ) (kind : Kind) : Type 0 where
  pub known : IsClass classes class
  pub no_class_object : kind ≡ k.ClassObject → ⊥
  pub no_class : Contains (order classes class) class_class → ⊥
  pub of_array : Contains (order classes class) array_class → kind ≡ k.Array
  pub of_queue : Contains (order classes class) queue_class → kind ≡ k.Queue
  pub of_directory : Contains (order classes class) directory_class → kind ≡ k.Directory

made-fits : (classes : List ClassDef) (objects : List Object) (class : ℕ) (contents : Contents) → IsFitting classes class (kind_by contents)
    → FitsObject classes (with_object objects class contents) (length objects + 1)
made-fits classes objects class contents fitting =
    let after : List Object = with_object objects class contents in
    let number : ℕ = length objects + 1 in
    let class_is : class_at after number ≡ class = ap class_of (made-object objects class contents) in
    let kind_is : kind_at after number ≡ kind_by contents = ap (λ (o : Option Object). kind_by (contents_of o)) (made-object objects class contents) in
    let in_order : (native : ℕ) → Contains (order classes (class_at after number)) native → Contains (order classes class) native =
    λ native among. subst (λ (c : ℕ). Contains (order classes c) native) class_is among in
    record {
      known = subst (λ (c : ℕ). IsClass classes c) (sym class_is) fitting.known;
      class_object = λ is. absurd (fitting.no_class_object (sym kind_is ∙ is));
      of_class = λ among. absurd (fitting.no_class (in_order class_class among));
      of_array = λ among. kind_is ∙ fitting.of_array (in_order array_class among);
      of_queue = λ among. kind_is ∙ fitting.of_queue (in_order queue_class among);
      of_directory = λ among. kind_is ∙ fitting.of_directory (in_order directory_class among);
    }

pub fits-made : (classes : List ClassDef) (objects : List Object) (class : ℕ) (contents : Contents) → IsFitting classes class (kind_by contents)
    → Fits classes objects → Fits classes (with_object objects class contents)
fits-made classes objects class contents fitting fits number there = elim (cases_lt (length objects) number) [
  | inl after ↦
      subst (λ (n : ℕ). FitsObject classes (with_object objects class contents) n)
      (omega (arith, after, there.1, length-append objects (record { class = class; contents = contents } ∷ [])))
      (made-fits classes objects class contents fitting)
  | inr before ↦ fits-before classes objects (record { class = class; contents = contents } ∷ []) number (there.0, before) (fits number (there.0, before))
]

-- of the class Array itself
pub own-array : (classes : List ClassDef) → IsFitting classes array_class k.Array
own-array classes = record {
  known = (omega arith, omega arith);
  no_class_object = λ same. let e : k.Array ≡ k.ClassObject = same in cc;
  no_class = not-in-order array_class class_class (λ e. omega (arith, e)) (λ e. omega (arith, e));
  of_array = λ inside. refl;
  of_queue = λ inside. absurd (not-in-order array_class queue_class (λ e. omega (arith, e)) (λ e. omega (arith, e)) inside);
  of_directory = λ inside. absurd (not-in-order array_class directory_class (λ e. omega (arith, e)) (λ e. omega (arith, e)) inside);
}

fits-array : (classes : List ClassDef) (objects : List Object) (args : Arguments) → Fits classes objects
    → Fits classes (with_object objects array_class (Places args))
fits-array classes objects args fits = fits-made classes objects array_class (Places args) (own-array classes) fits

-- ---- the receiver

there-before : (objects more : List Object) (target : Value) → IsThere objects target → IsThere (objects ++ more) target
there-before objects more (Str text) there = tt
there-before objects more (Ref object) there = (there.0, omega (arith, there.1, length-append objects more))

scope-before : (objects more : List Object) (target : Value) → IsThere objects target → target_scope (objects ++ more) target ≡ target_scope objects target
scope-before objects more (Str text) there = refl
scope-before objects more (Ref object) there =
    ap (λ (kind : Kind). if is_class_kind kind then record { class = object; class_side = true } else record { class = class_at (objects ++ more) object; class_side = false })
    (kind-before objects more object there)
    ∙ ap (λ (class : ℕ). if is_class_kind (kind_at objects object) then record { class = object; class_side = true } else record { class = class; class_side = false })
    (class-before objects more object there)

reached-before : (classes : List ClassDef) (objects more : List Object) (target : Value) (method : MethodId) → IsThere objects target
    → IsReachedBy classes objects target method → IsReachedBy classes (objects ++ more) target method
reached-before classes objects more target (id.Native number) there reached =
    subst (λ (scope : Scope). IfSome (slice_get native_methods number) (λ (native : NativeMethod). Contains (scopes classes scope.class scope.class_side)
    (record { class = native.class; class_side = native.class_side }))) (sym (scope-before objects more target there)) reached
reached-before classes objects more target (id.Body body private guarded) there reached = tt

-- ---- the same of the objects once the Array is made

pub fits-after : (classes : List ClassDef) (objects after : List Object) (args : Arguments) → after ≡ with_object objects array_class (Places args)
    → Fits classes objects → Fits classes after
fits-after classes objects after args is fits = subst (λ (os : List Object). Fits classes os) (sym is) (fits-array classes objects args fits)

pub there-after : (objects after : List Object) (args : Arguments) (target : Value) → after ≡ with_object objects array_class (Places args)
    → IsThere objects target → IsThere after target
there-after objects after args target is there =
    subst (λ (os : List Object). IsThere os target) (sym is)
    (there-before objects (record { class = array_class; contents = Places args } ∷ []) target there)

pub reached-after : (classes : List ClassDef) (objects after : List Object) (args : Arguments) (target : Value) (method : MethodId)
    → after ≡ with_object objects array_class (Places args) → IsThere objects target → IsReachedBy classes objects target method
    → IsReachedBy classes after target method
reached-after classes objects after args target method is there reached =
    subst (λ (os : List Object). IsReachedBy classes os target method) (sym is)
    (reached-before classes objects (record { class = array_class; contents = Places args } ∷ []) target method there reached)

pub both-there : (objects : List Object) (name : List ℕ) (array : ℕ) → IsObject objects array → AreThere objects (unknown_args name array)
both-there objects name array there zero default below = tt
both-there objects name array there (suc zero) default below = there
both-there objects name array there (suc (suc place)) default below = absurd (omega (arith, below))

-- the Array itself is there
pub array-there : (objects after : List Object) (args : Arguments) (array : ℕ) → after ≡ with_object objects array_class (Places args)
    → array ≡ next_number objects → IsObject after array
array-there objects after args array is number =
    subst (λ (os : List Object). IsObject os array) (sym is)
    (subst (λ (n : ℕ). IsObject (with_object objects array_class (Places args)) n) (sym number) (made-there objects array_class (Places args)))
