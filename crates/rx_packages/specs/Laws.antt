-- What holds of programs.
use Rattle.std.specs.Prelude.{◌≡◌, ℕ, List}
use Rattle.rx_clause_tree.specs.declared.package.Package.{Package}
use Rattle.rx_packages.specs.Programs.{IsProgram}
use Rattle.rx_packages.specs.Validity.{IsValid}

-- A source is at most one program.
abbrev pub AtMostOneProgram : Type 0
AtMostOneProgram = (source : List ℕ) (program other : Package) → IsProgram source program → IsProgram source other → program ≡ other

-- Each program is valid.
abbrev pub ProgramsAreValid : Type 0
ProgramsAreValid = (source : List ℕ) (program : Package) → IsProgram source program → IsValid program
