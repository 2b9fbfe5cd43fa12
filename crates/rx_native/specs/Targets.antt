-- The class of a receiver, and where its methods are sought.
use Rattle.std.specs.Prelude.{ℕ, Bool, true, false, is_some, if◌then◌else◌, List}
use Rattle.rx_tree.specs.Object.{Object}
use Rattle.rx_tree.specs.declared.value.Value.{Value}
use Rattle.rx_tree.specs.declared.value.Value.TheVariants.{Str, Ref}
use Rattle.rx_tree.specs.declared.class.ClassDef.{ClassDef}
use Rattle.rx_tree.specs.declared.class.Scope.{Scope}
use Rattle.rx_classes.specs.Natives.{string_class}
use Rattle.rx_classes.specs.Lookup.{find, scopes}
use Rattle.rx_heap.specs.declared.kind.Kind.{Kind}
use Rattle.rx_heap.specs.declared.kind.Kind.TheVariants as k
use Rattle.rx_heap.specs.Objects.{class_at, contents_at, kind_by}

-- the kind of the object of a number
abbrev pub kind_at : List Object → ℕ → Kind
kind_at objects object = kind_by (contents_at objects object)

abbrev pub is_class_kind : Kind → Bool
is_class_kind k.ClassObject = true
is_class_kind _ = false

abbrev pub is_message_kind : Kind → Bool
is_message_kind k.Message = true
is_message_kind _ = false

-- whether an object is a class
abbrev pub is_class : List Object → ℕ → Bool
is_class objects object = is_class_kind (kind_at objects object)

-- whether a value is a Message
abbrev pub is_message : List Object → Value → Bool
is_message objects (Str text) = false
is_message objects (Ref object) = is_message_kind (kind_at objects object)

-- the class of a value
abbrev pub class_of_value : List Object → Value → ℕ
class_of_value objects (Str text) = string_class
class_of_value objects (Ref object) = class_at objects object

-- The scopes that are searched for a method of a value: those of its class, or for a class object those of that class itself.
abbrev pub target_scope : List Object → Value → Scope
target_scope objects (Str text) = record { class = string_class; class_side = false }
target_scope objects (Ref object) =
    if is_class objects object then record { class = object; class_side = true }
    else record { class = class_at objects object; class_side = false }

abbrev pub target_scopes : List ClassDef → List Object → Value → List Scope
target_scopes classes objects target =
    let scope = target_scope objects target in
    scopes classes scope.class scope.class_side

-- whether a value has a method of this name
abbrev pub has_method : List ClassDef → List Object → Value → List ℕ → Bool
has_method classes objects target name =
    let scope = target_scope objects target in
    is_some (find classes scope.class scope.class_side name)
