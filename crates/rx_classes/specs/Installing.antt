-- Which classes can be installed, one after the other.
use Rattle.std.specs.Prelude.{◌≡◌, ℕ, ◌==◌, ◌||◌, Bool, false, not, List, [], ◌∷◌, ◌++◌, take, find, is_some, is_none, slice_get, if◌then◌else◌, Option, None, Some, option_map}
use Rattle.std.specs.Option.{option_map_or, option_or}
use Rattle.std.specs.List.{list_any}
use Rattle.rx_tree.specs.declared.class.MethodDef.{MethodDef}
use Rattle.rx_tree.specs.declared.class.ClassDef.{ClassDef}
use Rattle.rx_classes.specs.declared.method.DefineRefused.{DefineRefused}
use Rattle.rx_classes.specs.declared.method.DefineRefused.TheVariants as r
use Rattle.rx_classes.specs.Natives.{class_class, message_class, string_class}
use Rattle.rx_classes.specs.Classes.{class_named, is_mixin}
use Rattle.rx_classes.specs.Orders.{base_of, has, order}
use Rattle.rx_classes.specs.Lookup.{is_method}

-- the first name of a superclass or mixin that no class before has
abbrev pub missing_name : List ClassDef → ClassDef → Option (List ℕ)
missing_name classes class = find (λ (name : List ℕ). is_none (class_named classes name)) (class.parent ∷ class.inherits)

abbrev pub names_mixin : List ClassDef → List ℕ → Bool
names_mixin classes name = option_map_or (is_mixin classes) (class_named classes name) false

-- the first name behind INHERIT that is of no mixin
abbrev pub no_mixin_name : List ClassDef → ClassDef → Option (List ℕ)
no_mixin_name classes class = find (λ (name : List ℕ). not (names_mixin classes name)) class.inherits

abbrev pub order_of_name : List ClassDef → List ℕ → List ℕ
order_of_name classes name = option_map_or (order classes) (class_named classes name) []

-- whether the base class of the mixin of this name is in an order
abbrev pub has_base : List ClassDef → List ℕ → List ℕ → Bool
has_base classes classes_above name =
    option_map_or (λ (mixin : ℕ). has classes_above (base_of classes mixin)) (class_named classes name) false

-- the first name of a mixin whose base class is neither the superclass nor in the superclass's order
abbrev pub baseless_name : List ClassDef → ClassDef → Option (List ℕ)
baseless_name classes class = find (λ (name : List ℕ). not (has_base classes (order_of_name classes class.parent) name)) class.inherits

-- the first name of a method that its side has already
abbrev pub repeated_method : List MethodDef → List MethodDef → Option (List ℕ)
repeated_method earlier [] = None
repeated_method earlier (method ∷ methods) =
    if list_any (is_method method.class_side method.name) earlier then Some method.name
    else repeated_method (earlier ++ method ∷ []) methods

-- the name of the class, where a class has it already, or else the first name of a method that stands twice on a side
abbrev pub repeated_name : List ClassDef → ClassDef → Option (List ℕ)
repeated_name classes class =
    if is_some (class_named classes class.name) then Some class.name else repeated_method [] class.methods

abbrev pub is_closed : ℕ → Bool
is_closed number = (number == string_class) || ((number == message_class) || (number == class_class))

-- the name of the superclass, where that is String, Message or Class
abbrev pub closed_name : List ClassDef → ClassDef → Option (List ℕ)
closed_name classes class =
    if option_map_or is_closed (class_named classes class.parent) false then Some class.parent else None

-- Why a class can't be installed after these, if it can't: the first of these refusals that applies.
abbrev pub refusal : List ClassDef → ClassDef → Option DefineRefused
refusal classes class =
    option_or (option_map r.NoSuchClass (missing_name classes class))
    (option_or (option_map r.NotAMixin (no_mixin_name classes class))
    (option_or (option_map r.BaseMissing (baseless_name classes class))
    (option_or (option_map r.Twice (repeated_name classes class)) (option_map r.Closed (closed_name classes class)))))

-- Classes can be installed in their order where each can be after those before it.
abbrev pub CanInstall : List ClassDef → Type 0
CanInstall classes =
    (place : ℕ) (class : ClassDef) → slice_get classes place ≡ Some class → refusal (take place classes) class ≡ None
