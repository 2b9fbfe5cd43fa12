-- Which program a source is.
use Rattle.std.specs.Prelude.{◌≡◌, ◌≤◌, ℕ, true, false, List, [], length}
use Rattle.std.specs.Str.Lines.{lines}
use Rattle.rx_tree.specs.Operators.{Tokens}
use Rattle.rx_tree.specs.Spelling.{Spells}
use Rattle.rx_scan.specs.Depth.{bracket_depth}
use Rattle.rx_clause_tree.specs.declared.clause.Body.{Body}
use Rattle.rx_clause_tree.specs.declared.package.Package.{Package}
use Rattle.rx_clause_tree.specs.Bodies.{IsBody}
use Rattle.rx_directives.specs.declared.directive.Directive.{Directive}
use Rattle.rx_directives.specs.Directives.{AreDirectives}
use Rattle.rx_directives.specs.Packages.{bodies_of, classes_of, routines_of}
use Rattle.rx_classes.specs.Installing.{CanInstall}
use Rattle.rx_install.specs.Installation.{IsInstallationOrder}
use Rattle.rx_packages.specs.MethodClauses.{in_clauses}
use Rattle.rx_packages.specs.Conditions.{are_placed, are_plain, are_new}

-- the most bytes of a source, 4 MiB
abbrev pub longest_source : ℕ
longest_source = 4194304

-- the most brackets of a source that are open at once
abbrev pub most_brackets : ℕ
most_brackets = 250

-- A source is written so: its tokens are those of a main body, and behind it those of directives.
pub record IsWritten (source : List ℕ) (main : Body) (directives : List Directive) : Type 0 where
  pub short : length source ≤ longest_source
  pub tokens : Tokens
  pub spelled : Spells source tokens
  pub shallow : bracket_depth tokens ≤ most_brackets
  pub behind : Tokens
  pub main_is : IsBody main tokens behind
  pub directives_are : AreDirectives directives behind

-- What a main body and directives meet besides: methods stand in classes, clauses of methods in methods, and no two routines
-- have one name.
pub record AreSound (main : Body) (directives : List Directive) : Type 0 where
  pub placed : are_placed directives ≡ true
  pub main_plain : in_clauses main.clauses ≡ false
  pub plain : are_plain directives ≡ true
  pub apart : are_new [] directives ≡ true

-- A source is this program.
pub record IsProgram (source : List ℕ) (program : Package) : Type 0 where
  pub directives : List Directive
  pub written : IsWritten source program.main directives
  pub sound : AreSound program.main directives
  pub bodies : program.bodies ≡ bodies_of directives
  pub order : IsInstallationOrder (classes_of 0 directives) program.classes
  pub classes : CanInstall program.classes
  pub routines : program.routines ≡ routines_of 0 directives
  pub lines : program.lines ≡ lines source
