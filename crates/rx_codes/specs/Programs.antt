-- What is kept of a program.
use Rattle.std.specs.Prelude.{◌≡◌, ◌<◌, ◌^◌, ℕ, List, length, map}
use Rattle.rx_tree.specs.declared.class.ClassDef.{ClassDef}
use Rattle.rx_clause_tree.specs.declared.clause.Body.{Body}
use Rattle.rx_clause_tree.specs.declared.package.Package.{Package}
use Rattle.rx_machine.specs.Scenes.{symbols_of}
use Rattle.rx_codes.specs.Codes.{Coded}

abbrev pub body_in : Coded → Body
body_in coded = coded.body

-- the package that its parts are of
abbrev pub package_of : Coded → List Coded → List ClassDef → List (List ℕ × ℕ) → List (List ℕ) → Package
package_of main bodies classes routines lines =
    record { main = main.body; bodies = map body_in bodies; classes = classes; routines = routines; lines = lines }

-- a body of a program, with its symbols
abbrev pub coded_in : Package → Body → Coded
coded_in program body = record { body = body; objects = symbols_of program }

-- Each body has the program's symbols, and a number tells each.
pub record IsProgram (program : Package) (last : Coded) (others : List Coded) : Type 0 where
  pub main : last ≡ coded_in program program.main
  pub bodies : others ≡ map (coded_in program) program.bodies
  pub few : length others < 2 ^ 32
