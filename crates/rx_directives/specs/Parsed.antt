-- When the parser of directives refuses.
use Rattle.std.specs.Prelude.{◌≡◌, ℕ, ◌-◌, List, drop, length, Err}
use Rattle.rx_tree.specs.Operators.{Tokens}
use Rattle.rx_exprs.specs.declared.refused.ParseRefused.{ParseRefused}
use Rattle.rx_exprs.specs.declared.refused.ParseRefused.TheVariants.{Bad, OutOfMemory}
use Rattle.rx_directives.specs.declared.directive.Directive.{Directive}
use Rattle.rx_directives.specs.Directives.{AreDirectives}
use Rattle.rx_directives.specs.Reader.{directives_form}

-- no directives fit
abbrev pub NoneFit : Tokens → Type 0
NoneFit tokens = (found : List Directive) → AreDirectives found tokens → ⊥

-- The reader refuses with this number, at the token that has this place among all.
pub record RefusesAt (tokens : Tokens) (from at number : ℕ) : Type 0 where
  pub left : ℕ
  pub number_is : directives_form (drop from tokens) ≡ Err (record { left = left; number = number })
  pub at_is : at ≡ length tokens - left

-- None fit, and the number and the place are the reader's. Want of memory says nothing.
abbrev pub IsRefused : Tokens → ℕ → ParseRefused → Type 0
IsRefused tokens from (Bad at number) = NoneFit (drop from tokens) × RefusesAt tokens from at number
IsRefused tokens from OutOfMemory = Unit {0}
