-- What every program meets, without a word of its source.
use Rattle.std.specs.Prelude.{ℕ, ◌<◌, ◌≤◌, List, length, All}
use Rattle.rx_tree.specs.declared.class.MethodDef.{MethodDef}
use Rattle.rx_tree.specs.declared.class.ClassDef.{ClassDef}
use Rattle.rx_clause_tree.specs.declared.package.Package.{Package}
use Rattle.rx_classes.specs.Installing.{CanInstall}
use Rattle.rx_packages.specs.Sizes.{in_program, most_parts, most_classes}

-- Each method has its body among this many.
abbrev pub HasBodies : ℕ → ClassDef → Type 0
HasBodies bodies class = All (λ (method : MethodDef). method.body < bodies) class.methods

-- Methods and routines have their bodies, the classes can be installed in their order, and there are at most so many classes,
-- and so many clauses and places at which variables are named.
pub record IsValid (program : Package) : Type 0 where
  pub methods : All (HasBodies (length program.bodies)) program.classes
  pub routines : All (λ (routine : List ℕ × ℕ). routine.1 < length program.bodies) program.routines
  pub classes : CanInstall program.classes
  pub few_parts : in_program program ≤ most_parts
  pub few_classes : length program.classes ≤ most_classes
