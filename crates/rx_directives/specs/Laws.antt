-- What holds of directives and their tokens.
use Rattle.std.specs.Prelude.{◌≡◌, ◌↔◌, List, [], Ok}
use Rattle.rx_tree.specs.Operators.{Tokens}
use Rattle.rx_directives.specs.declared.directive.Directive.{Directive}
use Rattle.rx_directives.specs.Directives.{AreDirectives}
use Rattle.rx_directives.specs.Reader.{directives_form}

-- Directives fit exactly where the reader reads them.
abbrev pub ReaderLaw : Type 0
ReaderLaw = (tokens : Tokens) (found : List Directive) → AreDirectives found tokens ↔ (directives_form tokens ≡ Ok (found, []))

-- At most one list of directives fits.
abbrev pub AtMostOneFits : Type 0
AtMostOneFits = (tokens : Tokens) (found other : List Directive) → AreDirectives found tokens → AreDirectives other tokens → found ≡ other
