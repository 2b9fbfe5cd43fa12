-- What a check of a source tells.
use Rattle.std.specs.Prelude.{◌<◌, ℕ, List, length}
use Rattle.rx_clause_tree.specs.declared.package.Package.{Package}
use Rattle.rx_packages.specs.declared.checking.Checked.{Checked}
use Rattle.rx_packages.specs.declared.checking.Checked.TheVariants.{Fine, Refused, LongSource, DeepSource, NoMemory}
use Rattle.rx_packages.specs.Programs.{longest_source, IsProgram}
use Rattle.rx_packages.specs.Refusals.{IsAt, IsDeep, IsNoProgram}

-- A source is a program.
pub record IsSomeProgram (source : List ℕ) : Type 0 where
  pub program : Package
  pub is : IsProgram source program

-- The source is no program, and is refused at this line by this number.
pub record IsBad (source : List ℕ) (line number : ℕ) : Type 0 where
  pub at : IsAt source line number
  pub none : IsNoProgram source

-- what a check tells, with its cause
abbrev pub IsChecked : List ℕ → Checked → Type 0
IsChecked source Fine = IsSomeProgram source
IsChecked source (Refused line number) = IsBad source line number
IsChecked source LongSource = longest_source < length source
IsChecked source DeepSource = IsDeep source
IsChecked source NoMemory = Unit {0}
