-- Why a source is no program.
use Rattle.std.specs.Prelude.{◌≡◌, ◌≤◌, ◌<◌, ◌+◌, ◌↔◌, ℕ, false, List, length, IsTrue}
use Rattle.rx_tree.specs.Operators.{Tokens}
use Rattle.rx_tree.specs.Spelling.{Spells, feeds}
use Rattle.rx_scan.specs.Depth.{bracket_depth}
use Rattle.rx_scan.specs.Read.{is_number}
use Rattle.rx_scan.specs.declared.scanner.ScanRefused.{ScanRefused}
use Rattle.rx_scan.specs.declared.scanner.ScanRefused.TheVariants as s
use Rattle.rx_exprs.specs.declared.refused.ParseRefused.{ParseRefused}
use Rattle.rx_exprs.specs.declared.refused.ParseRefused.TheVariants as p
use Rattle.rx_clause_tree.specs.declared.clause.Body.{Body}
use Rattle.rx_directives.specs.declared.directive.Directive.{Directive}
use Rattle.rx_packages.specs.declared.refused.SourceRefused.{SourceRefused}
use Rattle.rx_packages.specs.declared.refused.SourceRefused.TheVariants.{Long, Deep, Bad, OutOfMemory}
use Rattle.rx_tree.specs.declared.class.ClassDef.{ClassDef}
use Rattle.rx_clause_tree.specs.declared.package.Package.{Package}
use Rattle.rx_classes.specs.Installing.{CanInstall}
use Rattle.rx_install.specs.Installation.{IsInstallationOrder}
use Rattle.rx_packages.specs.Programs.{longest_source, most_brackets, IsWritten, IsProgram}

-- The source is short enough and tokens spell it, and their brackets stand too deep in one another.
pub record IsDeep (source : List ℕ) : Type 0 where
  pub short : length source ≤ longest_source
  pub tokens : Tokens
  pub spelled : Spells source tokens
  pub deep : most_brackets < bracket_depth tokens

-- no tokens spell the source
abbrev pub NoneSpell : List ℕ → Type 0
NoneSpell source = (tokens : Tokens) → Spells source tokens → ⊥

-- The source is neither too long nor too deep; the line is one of the source's, and the number is 6, 13 or 15 exactly where no
-- tokens spell the source.
pub record IsAt (source : List ℕ) (line number : ℕ) : Type 0 where
  pub short : length source ≤ longest_source
  pub shallow : ¬ IsDeep source
  pub from_one : 1 ≤ line
  pub at_most : line ≤ feeds source + 1
  pub scanned : IsTrue (is_number number) ↔ NoneSpell source

-- a refusal at a line of the source, by a number that is none of the scanner's
abbrev pub IsFoundAt : List ℕ → SourceRefused → Type 0
IsFoundAt source (Bad line number) = (1 ≤ line) × ((line ≤ feeds source + 1) × (is_number number ≡ false))
IsFoundAt source _ = ⊥

-- a refusal of a parser is one at a line of the source, and want of memory is that
abbrev pub IsUnfit : List ℕ → ParseRefused → SourceRefused → Type 0
IsUnfit source (p.Bad at number) refused = IsFoundAt source refused
IsUnfit source p.OutOfMemory refused = refused ≡ OutOfMemory

-- the refusal of a source for one of the scanner
abbrev pub unscanned : ScanRefused → SourceRefused
unscanned (s.Bad line number) = Bad line number
unscanned s.OutOfMemory = OutOfMemory

-- the source is written as no body and directives are
abbrev pub IsWrittenAsNone : List ℕ → Type 0
IsWrittenAsNone source = (main : Body) (directives : List Directive) → IsWritten source main directives → ⊥

-- Why nothing of a source is read.
abbrev pub IsUnread : List ℕ → SourceRefused → Type 0
IsUnread source Long = longest_source < length source
IsUnread source Deep = IsDeep source
IsUnread source (Bad line number) = IsAt source line number × IsWrittenAsNone source
IsUnread source OutOfMemory = Unit {0}

-- A refusal behind the scanner has a cause: it is at a line of the source, by a number that is none of the scanner's. Want of
-- memory says nothing.
abbrev pub IsStopped : List ℕ → Type 0 → SourceRefused → Type 0
IsStopped source cause OutOfMemory = Unit {0}
IsStopped source cause refused = IsFoundAt source refused × cause

-- no order of these classes can be installed
abbrev pub NoneInstall : List ClassDef → Type 0
NoneInstall classes = (order : List ClassDef) → IsInstallationOrder classes order → CanInstall order → ⊥

-- a source is no program
abbrev pub IsNoProgram : List ℕ → Type 0
IsNoProgram source = (program : Package) → IsProgram source program → ⊥

-- Why a source is refused.
abbrev pub IsRefused : List ℕ → SourceRefused → Type 0
IsRefused source Long = longest_source < length source
IsRefused source Deep = IsDeep source
IsRefused source (Bad line number) = IsAt source line number × IsNoProgram source
IsRefused source OutOfMemory = Unit {0}
