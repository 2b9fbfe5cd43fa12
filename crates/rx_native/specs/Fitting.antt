-- When objects and classes fit, and what a method's receiver and arguments have to be.
use Rattle.std.specs.Prelude.{◌≡◌, ℕ, List, Option, Some, None, Contains, IfSome, slice_get}
use Rattle.std.specs.List.{All}
use Rattle.rx_tree.specs.Object.{Object}
use Rattle.rx_tree.specs.declared.value.Value.{Value}
use Rattle.rx_tree.specs.declared.value.Value.TheVariants.{Str, Ref}
use Rattle.rx_tree.specs.declared.class.ClassDef.{ClassDef}
use Rattle.rx_classes.specs.Natives.{NativeMethod, native_methods, class_class, array_class, queue_class, directory_class}
use Rattle.rx_classes.specs.Classes.{IsClass}
use Rattle.rx_classes.specs.Orders.{order}
use Rattle.rx_heap.specs.declared.kind.Kind.{Kind}
use Rattle.rx_heap.specs.declared.kind.Kind.TheVariants as k
use Rattle.rx_heap.specs.Objects.{IsObject, class_at}
use Rattle.rx_native.specs.Targets.{kind_at, target_scopes}

-- If an object's class has a native class in its order, the object is of a kind.
abbrev pub IsKindOf : List ClassDef → List Object → ℕ → ℕ → Kind → Type 0
IsKindOf classes objects number native kind = Contains (order classes (class_at objects number)) native → kind_at objects number ≡ kind

-- An object is of one of these classes, and of the kind that the native classes in its order ask for; if it is a class, it is one of
-- these.
pub record FitsObject (classes : List ClassDef) (objects : List Object) (number : ℕ) : Type 0 where
  pub known : IsClass classes (class_at objects number)
  pub class_object : kind_at objects number ≡ k.ClassObject → IsClass classes number
  pub of_class : IsKindOf classes objects number class_class k.ClassObject
  pub of_array : IsKindOf classes objects number array_class k.Array
  pub of_queue : IsKindOf classes objects number queue_class k.Queue
  pub of_directory : IsKindOf classes objects number directory_class k.Directory

-- Objects and classes fit.
abbrev pub Fits : List ClassDef → List Object → Type 0
Fits classes objects = (number : ℕ) → IsObject objects number → FitsObject classes objects number

-- A value is a string, or an object that is there.
abbrev pub IsThere : List Object → Value → Type 0
IsThere objects (Str text) = Unit {0}
IsThere objects (Ref object) = IsObject objects object

-- So is an argument, where it is given.
abbrev pub IsThereIfGiven : List Object → Option Value → Type 0
IsThereIfGiven objects None = Unit {0}
IsThereIfGiven objects (Some value) = IsThere objects value

abbrev pub AreThere : List Object → List (Option Value) → Type 0
AreThere objects args = All (IsThereIfGiven objects) args

-- A native method stands in one of the scopes that are searched for the receiver, as one that `find` or `find_from` gives does.
abbrev pub IsReached : List ClassDef → List Object → Value → ℕ → Type 0
IsReached classes objects target id =
    IfSome (slice_get native_methods id) (λ (native : NativeMethod). Contains (target_scopes classes objects target)
    (record { class = native.class; class_side = native.class_side }))
