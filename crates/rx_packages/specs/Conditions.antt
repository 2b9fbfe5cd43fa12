-- Where directives and clauses may stand in a program, and which names of routines differ.
use Rattle.std.specs.Prelude.{ℕ, Bool, true, false, not, ◌&&◌, if◌then◌else◌, List, [], ◌∷◌, ◌++◌, Option, Some, None}
use Rattle.std.specs.List.{list_any}
use Rattle.std.specs.Str.{bytes_eq}
use Rattle.rx_directives.specs.declared.directive.DirectiveKind.{DirectiveKind}
use Rattle.rx_directives.specs.declared.directive.DirectiveKind.TheVariants as d
use Rattle.rx_directives.specs.declared.directive.Directive.{Directive}
use Rattle.rx_directives.specs.Packages.{begins_class}
use Rattle.rx_packages.specs.MethodClauses.{in_clauses}

-- METHOD, ATTRIBUTE and CONSTANT belong to the class before them.
abbrev pub needs_class : DirectiveKind → Bool
needs_class (d.Method name options body) = true
needs_class (d.Attribute named options body) = true
needs_class (d.Constant name value) = true
needs_class _ = false

-- None of them stands in front of the first class.
abbrev pub are_placed : List Directive → Bool
are_placed [] = true
are_placed (directive ∷ directives) =
    if begins_class directive.kind then true else (if needs_class directive.kind then false else are_placed directives)

-- EXPOSE, GUARD, REPLY and FORWARD stand in no routine.
abbrev pub is_plain_kind : DirectiveKind → Bool
is_plain_kind (d.Routine name body) = not (in_clauses body.clauses)
is_plain_kind _ = true

abbrev pub are_plain : List Directive → Bool
are_plain [] = true
are_plain (directive ∷ directives) = is_plain_kind directive.kind && are_plain directives

abbrev pub is_in : List (List ℕ) → List ℕ → Bool
is_in names name = list_any (bytes_eq name) names

-- the name of the routine that a directive makes, if it makes one
abbrev pub routine_name : DirectiveKind → Option (List ℕ)
routine_name (d.Routine name body) = Some name
routine_name _ = None

abbrev pub on_name : Option (List ℕ) → Bool → (List ℕ → Bool) → Bool
on_name None other go = other
on_name (Some name) other go = go name

-- The names of the routines differ from one another, and from these.
abbrev pub are_new : List (List ℕ) → List Directive → Bool
are_new earlier [] = true
are_new earlier (directive ∷ directives) = on_name (routine_name directive.kind)
    (are_new earlier directives) (λ name. not (is_in earlier name) && are_new (earlier ++ name ∷ []) directives)

-- the names that stand in a table
abbrev pub keys : {A : Type 0} → List (List ℕ × A) → List (List ℕ)
keys [] = []
keys (entry ∷ entries) = entry.0 ∷ keys entries
