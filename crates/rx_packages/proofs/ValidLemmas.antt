-- The bodies of methods and routines are among those that the directives make.
use Rattle.std.proofs.Common.{◌≡◌, ℕ, ◌+◌, ◌≤◌, ◌<◌, Bool, true, false, if◌then◌else◌, List, [], ◌∷◌, ◌++◌, length, Option, Some, None, refl, sym, subst, ap, arith, All, length-append}
use Rattle.std.proofs.lemmas.List.Elements.{All-nil, All-cons, All-append}
use Rattle.std.proofs.lemmas.List.Sorted.{All-permutation}
use Rattle.rx_tree.specs.declared.name.Name.{Name}
use Rattle.rx_tree.specs.declared.class.MethodDef.{MethodDef}
use Rattle.rx_clause_tree.specs.declared.clause.Body.{Body}
use Rattle.rx_clause_tree.specs.declared.package.Package.{Package}
use Rattle.rx_directives.specs.declared.directive.Options.{Options}
use Rattle.rx_directives.specs.declared.directive.Access.{Access}
use Rattle.rx_directives.specs.declared.directive.Access.TheVariants.{Get, Set}
use Rattle.rx_directives.specs.declared.directive.Directive.{Directive}
use Rattle.rx_directives.specs.declared.directive.DirectiveKind.{DirectiveKind}
use Rattle.rx_directives.specs.declared.directive.DirectiveKind.TheVariants as d
use Rattle.rx_directives.specs.Packages.{attribute_bodies, kind_bodies, made_by, bodies_of, access_count, body_count, attribute_methods, kind_methods, begins_class, methods_of, a_class, a_method, setter_name, constant_method, kind_classes, classes_of, kind_routines, routines_of}
use Rattle.rx_install.proofs.OrderLemmas.{order-of_all}
use Rattle.rx_packages.specs.Programs.{IsProgram}
use Rattle.rx_packages.specs.Validity.{HasBodies, IsValid}
use Rattle.rx_packages.proofs.ProgramRooms.{few-parts, few-classes}

-- the body of a method is below this number
abbrev Below : ℕ → MethodDef → Type 0
Below limit method = method.body < limit

abbrev RoutineBelow : ℕ → List ℕ × ℕ → Type 0
RoutineBelow limit routine = routine.1 < limit

-- ---- as many bodies as are counted

attribute-count : (line : ℕ) (name : Name) (access : Option Access) (body : Body) → length (attribute_bodies line name access body) ≡ access_count access
attribute-count line name None body = refl
attribute-count line name (Some access) body = refl

kind-count : (line : ℕ) (kind : DirectiveKind) → length (kind_bodies line kind) ≡ body_count kind
kind-count line (d.Class head) = refl
kind-count line (d.Method name options body) = refl
kind-count line (d.Attribute named options body) = attribute-count line named.variable options.access body
kind-count line (d.Constant name value) = refl
kind-count line (d.Routine name body) = refl

-- the bodies behind those of the first directive
behind : (limit n : ℕ) (directive : Directive) (directives : List Directive) → n + length (bodies_of (directive ∷ directives)) ≤ limit
    → (n + body_count directive.kind) + length (bodies_of directives) ≤ limit
behind limit n directive directives within =
    let all = length-append (made_by directive) (bodies_of directives) in
    let first = kind-count directive.line directive.kind in
    omega arith

-- ---- methods

one-method : (limit : ℕ) (method : MethodDef) → method.body < limit → All (Below limit) (method ∷ [])
one-method limit method below = All-cons (Below limit) method [] below (All-nil (Below limit))

two-methods : (limit : ℕ) (method other : MethodDef) → method.body < limit → other.body < limit → All (Below limit) (method ∷ (other ∷ []))
two-methods limit method other below also = All-cons (Below limit) method (other ∷ []) below (one-method limit other also)

attribute-methods : (limit n : ℕ) (name : List ℕ) (options : Options) (access : Option Access) → n + access_count access ≤ limit
    → All (Below limit) (attribute_methods name n options access)
attribute-methods limit n name options None within =
    two-methods limit (a_method name n options) (a_method (setter_name name) (n + 1) options) (omega arith) (omega arith)
attribute-methods limit n name options (Some Get) within = one-method limit (a_method name n options) (omega arith)
attribute-methods limit n name options (Some Set) within = one-method limit (a_method (setter_name name) n options) (omega arith)

kind-methods : (limit n : ℕ) (kind : DirectiveKind) → n + body_count kind ≤ limit → All (Below limit) (kind_methods n kind)
kind-methods limit n (d.Class head) within = All-nil (Below limit)
kind-methods limit n (d.Method name options body) within = one-method limit (a_method name n options) (omega arith)
kind-methods limit n (d.Attribute named options body) within = attribute-methods limit n named.name options options.access within
kind-methods limit n (d.Constant name value) within =
    two-methods limit (constant_method name n false) (constant_method name n true) (omega arith) (omega arith)
kind-methods limit n (d.Routine name body) within = All-nil (Below limit)

before-class : (limit : ℕ) (b : Bool) (methods : List MethodDef) → All (Below limit) methods → All (Below limit) (if b then [] else methods)
before-class limit true methods all = All-nil (Below limit)
before-class limit false methods all = all

all-methods : (limit n : ℕ) (directives : List Directive) → n + length (bodies_of directives) ≤ limit → All (Below limit) (methods_of n directives)
all-methods limit n [] within = All-nil (Below limit)
all-methods limit n (directive ∷ directives) within =
    let rest : (n + body_count directive.kind) + length (bodies_of directives) ≤ limit = behind limit n directive directives within in
    before-class limit (begins_class directive.kind) (kind_methods n directive.kind ++ methods_of (n + body_count directive.kind) directives)
    (All-append (Below limit) (kind_methods n directive.kind) (methods_of (n + body_count directive.kind) directives)
    (kind-methods limit n directive.kind (omega arith)) (all-methods limit (n + body_count directive.kind) directives rest))

-- ---- classes

kind-classes : (limit line : ℕ) (kind : DirectiveKind) (methods : List MethodDef) → All (Below limit) methods
    → All (HasBodies limit) (kind_classes line kind methods)
kind-classes limit line (d.Class head) methods all = All-cons (HasBodies limit) (a_class line head methods) [] all (All-nil (HasBodies limit))
kind-classes limit line (d.Method name options body) methods all = All-nil (HasBodies limit)
kind-classes limit line (d.Attribute named options body) methods all = All-nil (HasBodies limit)
kind-classes limit line (d.Constant name value) methods all = All-nil (HasBodies limit)
kind-classes limit line (d.Routine name body) methods all = All-nil (HasBodies limit)

methods-within : (limit n : ℕ) (directive : Directive) (directives : List Directive) → n + length (bodies_of (directive ∷ directives)) ≤ limit
    → n + length (bodies_of directives) ≤ limit
methods-within limit n directive directives within =
    let rest = behind limit n directive directives within in
    omega arith

all-classes : (limit n : ℕ) (directives : List Directive) → n + length (bodies_of directives) ≤ limit → All (HasBodies limit) (classes_of n directives)
all-classes limit n [] within = All-nil (HasBodies limit)
all-classes limit n (directive ∷ directives) within =
    All-append (HasBodies limit) (kind_classes directive.line directive.kind (methods_of n directives)) (classes_of (n + body_count directive.kind) directives)
    (kind-classes limit directive.line directive.kind (methods_of n directives)
    (all-methods limit n directives (methods-within limit n directive directives within)))
    (all-classes limit (n + body_count directive.kind) directives (behind limit n directive directives within))

-- ---- routines

kind-routines : (limit n : ℕ) (kind : DirectiveKind) → n + body_count kind ≤ limit → All (RoutineBelow limit) (kind_routines n kind)
kind-routines limit n (d.Class head) within = All-nil (RoutineBelow limit)
kind-routines limit n (d.Method name options body) within = All-nil (RoutineBelow limit)
kind-routines limit n (d.Attribute named options body) within = All-nil (RoutineBelow limit)
kind-routines limit n (d.Constant name value) within = All-nil (RoutineBelow limit)
kind-routines limit n (d.Routine name body) within = All-cons (RoutineBelow limit) (name, n) [] (omega arith) (All-nil (RoutineBelow limit))

all-routines : (limit n : ℕ) (directives : List Directive) → n + length (bodies_of directives) ≤ limit → All (RoutineBelow limit) (routines_of n directives)
all-routines limit n [] within = All-nil (RoutineBelow limit)
all-routines limit n (directive ∷ directives) within =
    let rest : (n + body_count directive.kind) + length (bodies_of directives) ≤ limit = behind limit n directive directives within in
    All-append (RoutineBelow limit) (kind_routines n directive.kind) (routines_of (n + body_count directive.kind) directives)
    (kind-routines limit n directive.kind (omega arith)) (all-routines limit (n + body_count directive.kind) directives rest)

-- ---- programs

pub valid-program : (source : List ℕ) (program : Package) → IsProgram source program → IsValid program
valid-program source program is =
    let count : length program.bodies ≡ length (bodies_of is.directives) = ap (λ (bodies : List Body). length bodies) is.bodies in
    let within : 0 + length (bodies_of is.directives) ≤ length program.bodies = omega arith in
    record {
      methods = All-permutation (HasBodies (length program.bodies)) (classes_of 0 is.directives) program.classes
          (order-of_all (classes_of 0 is.directives) program.classes is.order) (all-classes (length program.bodies) 0 is.directives within);
      routines = subst (λ (rs : List (List ℕ × ℕ)). All (RoutineBelow (length program.bodies)) rs) (sym is.routines)
          (all-routines (length program.bodies) 0 is.directives within);
      classes = is.classes;
      few_parts = few-parts source program is;
      few_classes = few-classes source program is;
    }
