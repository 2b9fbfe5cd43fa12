-- The search order of a class.
use Rattle.std.specs.Prelude.{ℕ, zero, suc, ◌==◌, Bool, List, [], ◌∷◌, if◌then◌else◌}
use Rattle.std.specs.Option.{option_map_or}
use Rattle.std.specs.List.{list_any, flat_map}
use Rattle.rx_tree.specs.declared.class.ClassDef.{ClassDef}
use Rattle.rx_classes.specs.Classes.{parent_of, superclasses, is_mixin}

abbrev pub has : List ℕ → ℕ → Bool
has classes class = list_any (λ other. class == other) classes

-- the class in front of these, unless it is one of them
abbrev pub in_front : ℕ → List ℕ → List ℕ
in_front class classes = if has classes class then classes else class ∷ classes

-- each class at its last place
abbrev pub last_places : List ℕ → List ℕ
last_places [] = []
last_places (class ∷ classes) = in_front class (last_places classes)

-- The search order of a class is the class itself and then the orders of its immediate superclasses from left to right, where
-- a class that occurs twice stays at its last place. The superclasses have smaller numbers, so as many turns as the number
-- are enough.
abbrev pub order_within : ℕ → List ClassDef → ℕ → List ℕ
order_within zero classes class = []
order_within (suc turns) classes class = last_places (class ∷ flat_map (order_within turns classes) (superclasses classes class))

abbrev pub order : List ClassDef → ℕ → List ℕ
order classes class = order_within class classes class

-- The base class of a mixin is its first superclass that is no mixin.
abbrev pub base_within : ℕ → List ClassDef → ℕ → ℕ
base_within zero classes class = class
base_within (suc turns) classes class =
    option_map_or (λ (parent : ℕ). if is_mixin classes parent then base_within turns classes parent else parent)
    (parent_of classes class) class

abbrev pub base_of : List ClassDef → ℕ → ℕ
base_of classes class = base_within class classes class
