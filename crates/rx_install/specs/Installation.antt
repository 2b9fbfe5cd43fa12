-- In which order the classes of a package are installed.
use Rattle.std.specs.Prelude.{◌≡◌, ℕ, List, [], ◌∷◌, ◌++◌, All, IsSome, None}
use Rattle.rx_tree.specs.declared.class.ClassDef.{ClassDef}
use Rattle.rx_classes.specs.Installing.{missing_name}
use Rattle.rx_install.specs.declared.refused.InstallRefused.{InstallRefused}
use Rattle.rx_install.specs.declared.refused.InstallRefused.TheVariants.{NoOrder, OutOfMemory}

-- Of classes that are left, this one is installed next, behind those before, and those rest: it is the first, in directive
-- order, whose superclass and mixins are there.
pub record IsNext (before left : List ClassDef) (class : ClassDef) (rest : List ClassDef) : Type 0 where
  pub front : List ClassDef
  pub back : List ClassDef
  pub is_left : left ≡ front ++ class ∷ back
  pub is_rest : rest ≡ front ++ back
  pub waiting : All (λ (other : ClassDef). IsSome (missing_name before other)) front
  pub ready : missing_name before class ≡ None

-- Of classes that are left, these are installed one after the other, behind those before, and those rest.
abbrev pub Installs : List ClassDef → List ClassDef → List ClassDef → List ClassDef → Type 0
Installs before left [] rest = rest ≡ left
Installs before left (class ∷ order) rest =
    (others : List ClassDef) × IsNext before left class others × Installs (before ++ class ∷ []) others order rest

-- The classes of a package, in directive order, have this installation order.
abbrev pub IsInstallationOrder : List ClassDef → List ClassDef → Type 0
IsInstallationOrder classes order = Installs [] classes order []

-- Once those that can be are installed, classes are left that each lack their superclass or a mixin. The line is the first one's.
pub record IsStuck (classes : List ClassDef) (line : ℕ) : Type 0 where
  pub order : List ClassDef
  pub first : ClassDef
  pub others : List ClassDef
  pub installed : Installs [] classes order (first ∷ others)
  pub waiting : All (λ (class : ClassDef). IsSome (missing_name order class)) (first ∷ others)
  pub is_line : line ≡ first.line

-- A refusal has its cause: want of memory, or that there is no installation order.
abbrev pub IsCaused : List ClassDef → InstallRefused → Type 0
IsCaused classes (NoOrder line) = IsStuck classes line × ((order : List ClassDef) → ¬ IsInstallationOrder classes order)
IsCaused classes OutOfMemory = Unit {0}
