-- The lists of bodies, methods, classes and routines, made one directive after the other.
use Rattle.std.proofs.Common.{◌≡◌, ℕ, ◌+◌, ◌≤◌, Bool, true, false, List, [], ◌∷◌, ◌++◌, length, reverse, Option, Some, None, refl, sym, ◌∙◌, ap, arith}
use Rattle.std.proofs.lemmas.List.{append_assoc, append-nil, reverse-append, reverse-reverse}
use Rattle.rx_tree.specs.declared.class.MethodDef.{MethodDef}
use Rattle.rx_tree.specs.declared.class.ClassDef.{ClassDef}
use Rattle.rx_clause_tree.specs.declared.clause.Body.{Body}
use Rattle.rx_directives.specs.declared.directive.Directive.{Directive}
use Rattle.rx_directives.specs.declared.directive.DirectiveKind.{DirectiveKind}
use Rattle.rx_directives.specs.declared.directive.DirectiveKind.TheVariants as d
use Rattle.rx_directives.specs.declared.directive.Access.{Access}
use Rattle.rx_directives.specs.Packages.{made_by, bodies_of, access_count, body_count, begins_class, kind_methods, methods_of, kind_classes, classes_of, kind_routines, routines_of}

-- ---- bodies

bodies_last : (directives : List Directive) (last : Directive) → bodies_of (directives ++ last ∷ []) ≡ bodies_of directives ++ made_by last
bodies_last [] last = append-nil (made_by last)
bodies_last (directive ∷ directives) last =
    ap (λ l. made_by directive ++ l) (bodies_last directives last) ∙ sym (append_assoc (made_by directive) (bodies_of directives) (made_by last))

-- ---- numbers of bodies

pub count_small : (kind : DirectiveKind) → body_count kind ≤ 2
count_small (d.Class head) = omega arith
count_small (d.Method name options body) = omega arith
count_small (d.Attribute named options body) = go options.access
  where
    go : (access : Option Access) → access_count access ≤ 2
    go None = omega arith
    go (Some access) = omega arith
count_small (d.Constant name value) = omega arith
count_small (d.Routine name body) = omega arith

-- ---- methods

pub methods_start : (n : ℕ) (directives : List Directive) → methods_of n directives ≡ [] ++ methods_of n directives
methods_start n directives = refl

pub methods_end : (list : List MethodDef) (n : ℕ) → list ++ methods_of n [] ≡ list
methods_end list n = append-nil list

pub methods_class : (list : List MethodDef) (n : ℕ) (directive : Directive) (directives : List Directive) → begins_class directive.kind ≡ true
    → list ++ methods_of n (directive ∷ directives) ≡ list
methods_class list n directive directives is = rw is (append-nil list)

pub methods_more : (list : List MethodDef) (n : ℕ) (directive : Directive) (directives : List Directive) → begins_class directive.kind ≡ false
    → list ++ methods_of n (directive ∷ directives) ≡ (list ++ kind_methods n directive.kind) ++ methods_of (n + body_count directive.kind) directives
methods_more list n directive directives is =
    rw is (sym (append_assoc list (kind_methods n directive.kind) (methods_of (n + body_count directive.kind) directives)))

pub ruleset method_lists = (methods_start, methods_end, methods_class, methods_more, count_small)

-- ---- classes and routines

pub classes_end : (list : List ClassDef) (n : ℕ) → list ++ classes_of n [] ≡ list
classes_end list n = append-nil list

pub classes_more : (list : List ClassDef) (n : ℕ) (directive : Directive) (directives : List Directive)
    → list ++ classes_of n (directive ∷ directives)
    ≡ (list ++ kind_classes directive.line directive.kind (methods_of n directives)) ++ classes_of (n + body_count directive.kind) directives
classes_more list n directive directives =
    sym (append_assoc list (kind_classes directive.line directive.kind (methods_of n directives)) (classes_of (n + body_count directive.kind) directives))

pub ruleset class_lists = (classes_end, classes_more, count_small)

pub routines_end : (list : List (List ℕ × ℕ)) (n : ℕ) → list ++ routines_of n [] ≡ list
routines_end list n = append-nil list

pub routines_more : (list : List (List ℕ × ℕ)) (n : ℕ) (directive : Directive) (directives : List Directive)
    → list ++ routines_of n (directive ∷ directives) ≡ (list ++ kind_routines n directive.kind) ++ routines_of (n + body_count directive.kind) directives
routines_more list n directive directives =
    sym (append_assoc list (kind_routines n directive.kind) (routines_of (n + body_count directive.kind) directives))

pub ruleset routine_lists = (routines_end, routines_more, count_small)

-- ---- bodies, from the last directive on

pub bodies_more : (left : List Directive) (last : Directive) (found : List Body)
    → bodies_of (left ++ last ∷ []) ++ reverse found ≡ bodies_of left ++ reverse (found ++ reverse (made_by last))
bodies_more left last found =
    ap (λ (l : List Body). l ++ reverse found) (bodies_last left last)
    ∙ append_assoc (bodies_of left) (made_by last) (reverse found)
    ∙ ap (λ (l : List Body). bodies_of left ++ (l ++ reverse found)) (sym (reverse-reverse (made_by last)))
    ∙ ap (λ (l : List Body). bodies_of left ++ l) (sym (reverse-append found (reverse (made_by last))))

pub bodies_start : (directives : List Directive) → bodies_of directives ≡ bodies_of directives ++ reverse []
bodies_start directives = sym (append-nil (bodies_of directives))

pub ruleset body_lists = (bodies_start)
