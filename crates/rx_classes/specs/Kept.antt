-- What the table of classes keeps beside the classes.
use Rattle.std.specs.Prelude.{◌≡◌, ◌<◌, ◌≤◌, ℕ, ◌+◌, Bool, true, false, List, length, map, slice_get, if◌then◌else◌, Option, Some}
use Rattle.rx_tree.specs.declared.class.MethodDef.{MethodDef}
use Rattle.rx_tree.specs.declared.class.ClassDef.{ClassDef}
use Rattle.rx_vars.specs.Tables.{look_up, with_entry}
use Rattle.rx_classes.specs.declared.method.MethodId.{MethodId}
use Rattle.rx_classes.specs.declared.method.DefineRefused.{DefineRefused}
use Rattle.rx_classes.specs.declared.method.DefineRefused.TheVariants as r
use Rattle.rx_classes.specs.declared.class.Methods.{Methods}
use Rattle.rx_classes.specs.declared.class.Class.{Class}
use Rattle.rx_classes.specs.Natives.{first_class, native_names}
use Rattle.rx_classes.specs.Classes.{defined_named, parent_of, superclasses}
use Rattle.rx_classes.specs.Orders.{base_of}
use Rattle.rx_classes.specs.Lookup.{body_of, method_in}
use Rattle.rx_classes.specs.Installing.{CanInstall}

-- the methods of a side, by their names
abbrev pub side_of : Methods → Bool → List (List ℕ × MethodId)
side_of methods true = methods.of_class
side_of methods false = methods.of_instances

-- the methods with one more
abbrev pub with_method : Methods → MethodDef → Methods
with_method methods def =
    if def.class_side then record methods { of_class = with_entry methods.of_class def.name (body_of def) }
    else record methods { of_instances = with_entry methods.of_instances def.name (body_of def) }

-- The tables find the methods of a class.
pub record IsGathered (defs : List MethodDef) (methods : Methods) : Type 0 where
  pub finds : (class_side : Bool) (name : List ℕ) → look_up (side_of methods class_side) name ≡ method_in defs class_side name

-- A class is another one, or stands above it on the way from superclass to superclass.
pub data IsAbove (classes : List ClassDef) (above : ℕ) : ℕ → Type 0 where
  Same : IsAbove classes above above
  Further : (class parent : ℕ) → parent_of classes class ≡ Some parent → IsAbove classes above parent → IsAbove classes above class

-- What is kept of the class of a number.
pub record IsLinked (classes : List ClassDef) (number : ℕ) (class : Class) : Type 0 where
  pub parent : parent_of classes number ≡ Some class.parent
  pub superclasses : class.superclasses ≡ superclasses classes number
  pub base : class.base ≡ base_of classes number
  pub above : IsAbove classes class.above number
  pub further : class.above < number
  pub methods : IsGathered class.def.methods class.methods

abbrev pub defs_of : List Class → List ClassDef
defs_of kept = map (λ (class : Class). class.def) kept

-- the most classes that are kept, so that the number of each is a `u32`
abbrev pub most_classes : ℕ
most_classes = 4294967286

-- What is kept of all classes.
pub record IsKept (names : List (List ℕ)) (kept : List Class) (table : List (List ℕ × ℕ)) : Type 0 where
  pub few : length kept ≤ most_classes
  pub natives : names ≡ native_names
  pub numbers : (name : List ℕ) → look_up table name ≡ defined_named (defs_of kept) name
  pub linked : (place : ℕ) (class : Class) → slice_get kept place ≡ Some class → IsLinked (defs_of kept) (first_class + place) class
  pub installed : CanInstall (defs_of kept)

-- A refusal has its cause: want of memory, or what the classes refuse.
abbrev pub IsCaused : Option DefineRefused → DefineRefused → Type 0
IsCaused refusal r.OutOfMemory = Unit {0}
IsCaused refusal (r.NoSuchClass name) = refusal ≡ Some (r.NoSuchClass name)
IsCaused refusal (r.NotAMixin name) = refusal ≡ Some (r.NotAMixin name)
IsCaused refusal (r.BaseMissing name) = refusal ≡ Some (r.BaseMissing name)
IsCaused refusal (r.Twice name) = refusal ≡ Some (r.Twice name)
IsCaused refusal (r.Closed name) = refusal ≡ Some (r.Closed name)
