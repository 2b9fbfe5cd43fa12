-- A program and its bodies.
use Rattle.std.proofs.Common.{◌≡◌, ℕ, ◌<◌, ◌^◌, List, [], ◌∷◌, length, map, Option, Some, None, option_map, refl, ap, sym, subst, ◌∙◌}
use Rattle.std.proofs.lemmas.List.{length-map}
use Rattle.rx_tree.specs.declared.class.ClassDef.{ClassDef}
use Rattle.rx_clause_tree.specs.declared.clause.Body.{Body}
use Rattle.rx_clause_tree.specs.declared.package.Package.{Package}
use Rattle.rx_machine.specs.Todo.{clauses_of}
use Rattle.rx_codes.specs.Codes.{Coded, symbols_for, with_objects}
use Rattle.rx_codes.specs.Programs.{IsProgram, body_in, coded_in, package_of}

bodies_are : (objects : List (List ℕ × ℕ)) (bodies : List Body) → map body_in (map (with_objects objects) bodies) ≡ bodies
bodies_are objects [] = refl
bodies_are objects (body ∷ bodies) = ap (λ (others : List Body). body ∷ others) (bodies_are objects bodies)

-- bodies whose code was made with the program's symbols
pub program_kept : (main : Coded) (bodies : List Coded) (classes : List ClassDef) (routines : List (List ℕ × ℕ)) (lines : List (List ℕ))
    (objects : List (List ℕ × ℕ)) (last : Body) (others : List Body) → objects ≡ symbols_for classes → main ≡ with_objects objects last
    → bodies ≡ map (with_objects objects) others → length others < 2 ^ 32 → IsProgram (package_of main bodies classes routines lines) main bodies
program_kept main bodies classes routines lines objects last others known main_is are few =
    let symbols = symbols_for classes in
    let inner : map body_in bodies ≡ others = ap (map body_in) are ∙ bodies_are objects others in
    record {
      main = main_is ∙ ap (λ (o : List (List ℕ × ℕ)). with_objects o last) known ∙ ap (λ (coded : Coded). with_objects symbols coded.body) (sym main_is);
      bodies = are ∙ ap (λ (o : List (List ℕ × ℕ)). map (with_objects o) others) known ∙ ap (map (with_objects symbols)) (sym inner);
      few = subst (λ (n : ℕ). n < 2 ^ 32) (sym (ap length are ∙ length-map others (with_objects objects))) few;
    }

-- its parts are those of the package
pub program_same : (written : Package) (main : Coded) (bodies : List Coded) (classes : List ClassDef) (routines : List (List ℕ × ℕ)) (lines : List (List ℕ))
    (objects : List (List ℕ × ℕ)) → main ≡ with_objects objects written.main → bodies ≡ map (with_objects objects) written.bodies
    → classes ≡ written.classes → routines ≡ written.routines → lines ≡ written.lines → package_of main bodies classes routines lines ≡ written
program_same written main bodies classes routines lines objects main_is are classes_are routines_are lines_are =
    rw (main_is, are, classes_are, routines_are, lines_are, bodies_are objects written.bodies) refl

-- the clauses of a body that is there
pub clauses_are : (program : Package) (o : Option Body) (coded : Coded) → Some coded ≡ option_map (coded_in program) o → clauses_of o ≡ coded.body.clauses
clauses_are program None coded e = absurd cc
clauses_are program (Some body) coded e =
    let same : coded ≡ coded_in program body = cc in
    ap (λ (c : Coded). c.body.clauses) (sym same)
