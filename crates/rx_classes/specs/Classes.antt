-- The classes of a package in their order of installation, and what their names lead to.
use Rattle.std.specs.Prelude.{ℕ, suc, ◌-◌, ◌+◌, ◌<◌, ◌≤◌, Bool, false, List, [], ◌∷◌, length, take, position, slice_get, nat_lt, if◌then◌else◌, Option, None, Some, option_map, unwrap_or}
use Rattle.std.specs.List.{filter_map}
use Rattle.std.specs.Option.{option_map_or, option_or, option_to_list}
use Rattle.std.specs.Str.{bytes_eq}
use Rattle.rx_tree.specs.declared.class.ClassDef.{ClassDef}
use Rattle.rx_classes.specs.Natives.{native_names, object_class, first_class}

-- the class of the package that has this number
abbrev pub class_at : List ClassDef → ℕ → Option ClassDef
class_at classes number = if nat_lt number first_class then None else slice_get classes (number - first_class)

abbrev pub native_named : List ℕ → Option ℕ
native_named name = option_map (λ place. place + object_class) (position (bytes_eq name) native_names)

-- the number of the first class of this name, where the first of these has this number
abbrev pub number_from : ℕ → List ClassDef → List ℕ → Option ℕ
number_from number [] name = None
number_from number (class ∷ classes) name =
    if bytes_eq name class.name then Some number else number_from (suc number) classes name

abbrev pub defined_named : List ClassDef → List ℕ → Option ℕ
defined_named classes name = number_from first_class classes name

-- the number of the class of this name: a native one, or the first of the package
abbrev pub class_named : List ClassDef → List ℕ → Option ℕ
class_named classes name = option_or (native_named name) (defined_named classes name)

-- the classes that are installed before the class of this number
abbrev pub before : List ClassDef → ℕ → List ClassDef
before classes number = take (number - first_class) classes

abbrev pub object_above : ℕ → Option ℕ
object_above number = if nat_lt object_class number then Some object_class else None

abbrev pub parent_by : List ClassDef → ℕ → Option ClassDef → Option ℕ
parent_by earlier number None = object_above number
parent_by earlier number (Some class) = class_named earlier class.parent

-- the superclass of a class: of a native one the class Object, which has none itself
abbrev pub parent_of : List ClassDef → ℕ → Option ℕ
parent_of classes number = parent_by (before classes number) number (class_at classes number)

abbrev pub superclasses_by : List ClassDef → ℕ → Option ClassDef → List ℕ
superclasses_by earlier number None = option_to_list (object_above number)
superclasses_by earlier number (Some class) = filter_map (class_named earlier) (class.parent ∷ class.inherits)

-- The immediate superclasses of a class: its superclass, and then the mixins that it inherits in the written order. All are
-- installed before it.
abbrev pub superclasses : List ClassDef → ℕ → List ℕ
superclasses classes number = superclasses_by (before classes number) number (class_at classes number)

-- the number of a native class, or of one of the package
abbrev pub IsClass : List ClassDef → ℕ → Type 0
IsClass classes number = (object_class ≤ number) × (number < first_class + length classes)

abbrev pub name_by : ℕ → Option ClassDef → List ℕ
name_by number None = unwrap_or (slice_get native_names (number - object_class)) []
name_by number (Some class) = class.name

-- the name of a class
abbrev pub class_name : List ClassDef → ℕ → List ℕ
class_name classes number = name_by number (class_at classes number)

-- whether this is the number of a mixin; no native class is one
abbrev pub is_mixin : List ClassDef → ℕ → Bool
is_mixin classes number = option_map_or (λ (class : ClassDef). class.mixin) (class_at classes number) false
