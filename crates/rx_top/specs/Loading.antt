-- What the file of a program has.
use Rattle.std.specs.Prelude.{◌≡◌, ◌<◌, ◌≤◌, ◌+◌, ℕ, List, Option, None, Some, length}
use Rattle.rx_ports.specs.Shelves.{Files, HasFile}
use Rattle.rx_classes.specs.Installing.{CanInstall}
use Rattle.rx_classes.specs.Natives.{message_class}
use Rattle.rx_heap.specs.Objects.{most_objects}
use Rattle.rx_clause_tree.specs.declared.package.Package.{Package}
use Rattle.rx_packages.specs.Programs.{longest_source, IsProgram}
use Rattle.rx_packages.specs.Refusals.{IsDeep, IsRefused}
use Rattle.rx_packages.specs.Checking.{IsBad}
use Rattle.rx_packages.specs.declared.refused.SourceRefused.{SourceRefused}
use Rattle.rx_packages.specs.declared.refused.SourceRefused.TheVariants.{Long, Deep, Bad, OutOfMemory}
use Rattle.rx_machine.specs.Built.{first_unbuilt}
use Rattle.rx_top.specs.declared.loading.Loaded.{Loaded}
use Rattle.rx_top.specs.declared.loading.Loaded.TheVariants.{Found, Unbuilt, Refused, ShelfFault}

-- The file has a source, the told one where the shelf tells, that is like this.
pub record HasSource (files : Option Files) (name : List ℕ) (like : List ℕ → Type 0) : Type 0 where
  pub source : List ℕ
  pub has : HasFile files name source
  pub is : like source

-- It is this program, all of which runs.
abbrev pub IsRunnable : Package → List ℕ → Type 0
IsRunnable program source = IsProgram source program × (first_unbuilt program ≡ None)

-- It is a program, and at this line is the first clause of it that doesn't run yet.
pub record IsUnbuilt (source : List ℕ) (line : ℕ) : Type 0 where
  pub program : Package
  pub is : IsProgram source program
  pub unbuilt : first_unbuilt program ≡ Some line

abbrev pub IsUnbuiltAt : ℕ → List ℕ → Type 0
IsUnbuiltAt line source = IsUnbuilt source line

-- it is longer than a source may be
abbrev pub IsLong : List ℕ → Type 0
IsLong source = longest_source < length source

-- it is no program, and refused at some line by this number
abbrev pub IsBadAt : ℕ → ℕ → List ℕ → Type 0
IsBadAt line number source = IsBad source line number

-- why a file's source is refused
abbrev pub HasRefused : Option Files → List ℕ → SourceRefused → Type 0
HasRefused files name Long = HasSource files name IsLong
HasRefused files name Deep = HasSource files name IsDeep
HasRefused files name (Bad line number) = HasSource files name (IsBadAt line number)
HasRefused files name OutOfMemory = Unit {0}

-- What loading a file gives.
abbrev pub IsLoaded : Option Files → List ℕ → Loaded → Type 0
IsLoaded files name (Found program) = HasSource files name (IsRunnable program)
IsLoaded files name (Unbuilt line) = HasSource files name (IsUnbuiltAt line)
IsLoaded files name (Refused refused) = HasRefused files name refused
IsLoaded files name ShelfFault = Unit {0}

-- What a source is read as: a program that runs, or one with a clause that doesn't; or it is refused.
abbrev pub IsRead : List ℕ → Loaded → Type 0
IsRead source (Found program) = IsRunnable program source
IsRead source (Unbuilt line) = IsUnbuilt source line
IsRead source (Refused refused) = IsRefused source refused
IsRead source ShelfFault = ⊥

-- The classes of a program can be installed, and there are objects enough for them.
pub record Installs (program : Package) : Type 0 where
  pub classes : CanInstall program.classes
  pub few : message_class + length program.classes ≤ most_objects

-- a program that is found meets what every run asks of it
abbrev pub InstallsIfFound : Loaded → Type 0
InstallsIfFound (Found program) = Installs program
InstallsIfFound _ = Unit {0}
