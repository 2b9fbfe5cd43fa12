-- Which bodies, classes and routines some directives make.
use Rattle.std.specs.Prelude.{ℕ, ◌+◌, Bool, true, false, if◌then◌else◌, List, [], ◌∷◌, ◌++◌, length, Option, Some, None, codes}
use Rattle.rx_tree.specs.declared.name.Name.{Name}
use Rattle.rx_tree.specs.declared.name.Name.TheVariants as n
use Rattle.rx_tree.specs.declared.expr.Expr.{Expr}
use Rattle.rx_tree.specs.declared.expr.Expr.TheVariants as e
use Rattle.rx_tree.specs.declared.class.MethodDef.{MethodDef}
use Rattle.rx_tree.specs.declared.class.ClassDef.{ClassDef}
use Rattle.rx_clause_tree.specs.declared.instruction.Parameter.{Parameter}
use Rattle.rx_clause_tree.specs.declared.simple.Simple.{Simple}
use Rattle.rx_clause_tree.specs.declared.simple.Simple.TheVariants as c
use Rattle.rx_clause_tree.specs.declared.clause.Clause.{Clause}
use Rattle.rx_clause_tree.specs.declared.clause.ClauseKind.TheVariants as x
use Rattle.rx_clause_tree.specs.declared.clause.Body.{Body}
use Rattle.rx_clause_tree.specs.Clauses.{clause}
use Rattle.rx_directives.specs.declared.directive.Options.{Options}
use Rattle.rx_directives.specs.declared.directive.Visibility.{Visibility}
use Rattle.rx_directives.specs.declared.directive.Visibility.TheVariants.{Public, Private}
use Rattle.rx_directives.specs.declared.directive.Guarding.{Guarding}
use Rattle.rx_directives.specs.declared.directive.Guarding.TheVariants.{Guarded, Unguarded}
use Rattle.rx_directives.specs.declared.directive.Access.{Access}
use Rattle.rx_directives.specs.declared.directive.Access.TheVariants.{Get, Set}
use Rattle.rx_directives.specs.declared.directive.Superclass.{Superclass}
use Rattle.rx_directives.specs.declared.directive.ClassHead.{ClassHead}
use Rattle.rx_directives.specs.declared.directive.DirectiveKind.{DirectiveKind}
use Rattle.rx_directives.specs.declared.directive.DirectiveKind.TheVariants as d
use Rattle.rx_directives.specs.declared.directive.Directive.{Directive}
use Rattle.rx_directives.specs.Reader.{no_names}

-- ---- generated bodies, on the line of their directive

abbrev pub on_line : ℕ → Simple → Clause
on_line line simple = clause line (x.Simple simple)

abbrev pub a_body : List Clause → Body
a_body clauses = record { clauses = clauses }

abbrev pub expose : Name → Simple
expose name = c.Expose (name ∷ [])

-- EXPOSE name; RETURN name
abbrev pub getter : ℕ → Name → Body
getter line name = a_body (on_line line (expose name) ∷ (on_line line (c.Return (Some (e.Name name))) ∷ []))

-- the variable of a method that sets an attribute
abbrev pub value_name : Name
value_name = n.Simple (codes "VALUE")

abbrev pub value_parameter : Parameter
value_parameter = record { name = value_name; default = None }

abbrev pub use_value : Simple
use_value = c.UseArg false (value_parameter ∷ [])

-- EXPOSE name; USE ARG VALUE; name = VALUE
abbrev pub setter : ℕ → Name → Body
setter line name =
    a_body (on_line line (expose name) ∷ (on_line line use_value ∷ (on_line line (c.Assign name (e.Name value_name)) ∷ [])))

-- RETURN value
abbrev pub giver : ℕ → Expr → Body
giver line value = a_body (on_line line (c.Return (Some value)) ∷ [])

-- ---- bodies

abbrev pub generated : ℕ → Name → Access → Body
generated line name Get = getter line name
generated line name Set = setter line name

-- the clauses of an attribute's directive, or the generated body where it has none
abbrev pub attribute_body : ℕ → Name → Access → Body → Body
attribute_body line name access body = if no_names body.clauses then generated line name access else body

abbrev pub attribute_bodies : ℕ → Name → Option Access → Body → List Body
attribute_bodies line name None body = getter line name ∷ (setter line name ∷ [])
attribute_bodies line name (Some access) body = attribute_body line name access body ∷ []

abbrev pub kind_bodies : ℕ → DirectiveKind → List Body
kind_bodies line (d.Class head) = []
kind_bodies line (d.Method name options body) = body ∷ []
kind_bodies line (d.Attribute named options body) = attribute_bodies line named.variable options.access body
kind_bodies line (d.Constant name value) = giver line value ∷ []
kind_bodies line (d.Routine name body) = body ∷ []

-- the bodies that a directive makes
abbrev pub made_by : Directive → List Body
made_by directive = kind_bodies directive.line directive.kind

-- The bodies of methods and routines stand in directive order, the one that gets an attribute before the one that sets it.
abbrev pub bodies_of : List Directive → List Body
bodies_of [] = []
bodies_of (directive ∷ directives) = made_by directive ++ bodies_of directives

-- how many bodies a directive makes

abbrev pub access_count : Option Access → ℕ
access_count None = 2
access_count (Some access) = 1

abbrev pub body_count : DirectiveKind → ℕ
body_count (d.Class head) = 0
body_count (d.Attribute named options body) = access_count options.access
body_count _ = 1

-- ---- methods

abbrev pub is_private : Option Visibility → Bool
is_private (Some Private) = true
is_private _ = false

-- A method is guarded unless it is said not to be.
abbrev pub is_guarded : Option Guarding → Bool
is_guarded (Some Unguarded) = false
is_guarded _ = true

abbrev pub a_method : List ℕ → ℕ → Options → MethodDef
a_method name body options =
    record { name = name; body = body; class_side = options.class_side; private = is_private options.visibility; guarded = is_guarded options.guarding }

-- the name of the method that sets an attribute
abbrev pub setter_name : List ℕ → List ℕ
setter_name name = name ++ codes "="

abbrev pub attribute_methods : List ℕ → ℕ → Options → Option Access → List MethodDef
attribute_methods name body options None = a_method name body options ∷ (a_method (setter_name name) (body + 1) options ∷ [])
attribute_methods name body options (Some Get) = a_method name body options ∷ []
attribute_methods name body options (Some Set) = a_method (setter_name name) body options ∷ []

-- A constant is an unguarded method of both sides.
abbrev pub constant_method : List ℕ → ℕ → Bool → MethodDef
constant_method name body class_side = record { name = name; body = body; class_side = class_side; private = false; guarded = false }

-- the methods that a directive makes, whose first body has this number
abbrev pub kind_methods : ℕ → DirectiveKind → List MethodDef
kind_methods n (d.Method name options body) = a_method name n options ∷ []
kind_methods n (d.Attribute named options body) = attribute_methods named.name n options options.access
kind_methods n (d.Constant name value) = constant_method name n false ∷ (constant_method name n true ∷ [])
kind_methods n _ = []

abbrev pub begins_class : DirectiveKind → Bool
begins_class (d.Class head) = true
begins_class _ = false

-- The methods before the next class directive. The bodies have numbers from n.
abbrev pub methods_of : ℕ → List Directive → List MethodDef
methods_of n [] = []
methods_of n (directive ∷ directives) =
    if begins_class directive.kind then [] else kind_methods n directive.kind ++ methods_of (n + body_count directive.kind) directives

-- ---- classes and routines

-- A class without a superclass of its own has OBJECT.
abbrev pub parent_of : Option Superclass → List ℕ
parent_of None = codes "OBJECT"
parent_of (Some superclass) = superclass.name

abbrev pub is_mixin : Option Superclass → Bool
is_mixin None = false
is_mixin (Some superclass) = superclass.mixin

abbrev pub a_class : ℕ → ClassHead → List MethodDef → ClassDef
a_class line head methods = record {
  name = head.name;
  line = line;
  parent = parent_of head.superclass;
  mixin = is_mixin head.superclass;
  inherits = head.inherits;
  methods = methods;
}

abbrev pub kind_classes : ℕ → DirectiveKind → List MethodDef → List ClassDef
kind_classes line (d.Class head) methods = a_class line head methods ∷ []
kind_classes line _ methods = []

-- Each class directive is a class with the methods behind it. The bodies have numbers from n.
abbrev pub classes_of : ℕ → List Directive → List ClassDef
classes_of n [] = []
classes_of n (directive ∷ directives) =
    kind_classes directive.line directive.kind (methods_of n directives) ++ classes_of (n + body_count directive.kind) directives

abbrev pub kind_routines : ℕ → DirectiveKind → List (List ℕ × ℕ)
kind_routines n (d.Routine name body) = (name, n) ∷ []
kind_routines n _ = []

-- The routines stand in directive order, each with the number of its body. The bodies have numbers from n.
abbrev pub routines_of : ℕ → List Directive → List (List ℕ × ℕ)
routines_of n [] = []
routines_of n (directive ∷ directives) = kind_routines n directive.kind ++ routines_of (n + body_count directive.kind) directives
