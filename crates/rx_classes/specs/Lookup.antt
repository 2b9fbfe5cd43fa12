-- The method of a message.
use Rattle.std.specs.Prelude.{ℕ, ◌==◌, ◌&&◌, Bool, true, false, List, [], ◌∷◌, ◌++◌, drop, find as first, map, position, Option, None, Some, option_map}
use Rattle.std.specs.Option.{option_map_or, option_or}
use Rattle.std.specs.Str.{bytes_eq}
use Rattle.rx_tree.specs.declared.class.Scope.{Scope}
use Rattle.rx_tree.specs.declared.class.MethodDef.{MethodDef}
use Rattle.rx_tree.specs.declared.class.ClassDef.{ClassDef}
use Rattle.rx_classes.specs.declared.method.MethodId.{MethodId}
use Rattle.rx_classes.specs.declared.method.MethodId.TheVariants as id
use Rattle.rx_classes.specs.declared.method.Sought.{Sought}
use Rattle.rx_classes.specs.declared.method.Sought.TheVariants as s
use Rattle.rx_classes.specs.Natives.{class_class, native_method, object_class, same_side}
use Rattle.rx_classes.specs.Classes.{class_at}
use Rattle.rx_classes.specs.Orders.{order}

abbrev pub body_of : MethodDef → MethodId
body_of method = id.Body method.body method.private method.guarded

abbrev pub is_method : Bool → List ℕ → MethodDef → Bool
is_method class_side name method = same_side method.class_side class_side && bytes_eq name method.name

-- the first method of this side and name
abbrev pub method_in : List MethodDef → Bool → List ℕ → Option MethodId
method_in methods class_side name = option_map body_of (first (is_method class_side name) methods)

abbrev pub method_of : ℕ → Bool → List ℕ → Option ClassDef → Option MethodId
method_of number class_side name None = option_map id.Native (native_method number class_side name)
method_of number class_side name (Some class) = method_in class.methods class_side name

-- the method of a name that stands in a scope itself
abbrev pub method_at : List ClassDef → List ℕ → Scope → Option MethodId
method_at classes name scope = method_of scope.class scope.class_side name (class_at classes scope.class)

abbrev pub sides : Bool → List ℕ → List Scope
sides class_side classes = map (λ (class : ℕ). record { class = class; class_side = class_side }) classes

-- The scopes that a search goes through: for an instance those of its class's order; for a class object the class sides of its
-- order, and then the instance sides of Class and of Object.
abbrev pub scopes : List ClassDef → ℕ → Bool → List Scope
scopes classes class false = sides false (order classes class)
scopes classes class true = sides true (order classes class) ++ sides false (class_class ∷ object_class ∷ [])

abbrev pub in_scope : Scope → Option MethodId → Option (Scope × MethodId)
in_scope scope method = option_map (λ (m : MethodId). (scope, m)) method

-- the first method of a name in some scopes, with its scope
abbrev pub first_method : List ClassDef → List ℕ → List Scope → Option (Scope × MethodId)
first_method classes name [] = None
first_method classes name (scope ∷ rest) = option_or (in_scope scope (method_at classes name scope)) (first_method classes name rest)

-- The method of a name, with its scope: of the instances of a class, or of the class object itself.
abbrev pub find : List ClassDef → ℕ → Bool → List ℕ → Option (Scope × MethodId)
find classes class class_side name = first_method classes name (scopes classes class class_side)

abbrev pub sought : Option (Scope × MethodId) → Sought
sought None = s.NoMethod
sought (Some found) = s.Found found.0 found.1

-- the scopes from the first one of this class on
abbrev pub from_class : ℕ → List Scope → Option (List Scope)
from_class class scopes = option_map (λ (place : ℕ). drop place scopes) (position (λ (scope : Scope). class == scope.class) scopes)

-- The same, where the search begins at a class; it may not be among those that the search goes through.
abbrev pub find_from : List ClassDef → ℕ → Bool → ℕ → List ℕ → Sought
find_from classes class class_side from name =
    option_map_or (λ (rest : List Scope). sought (first_method classes name rest)) (from_class from (scopes classes class class_side)) s.NotInOrder
