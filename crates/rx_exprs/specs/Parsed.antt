-- When the parser refuses.
use Rattle.std.specs.Prelude.{◌≡◌, ℕ, ◌-◌, drop, length, Err}
use Rattle.rx_tree.specs.declared.expr.Expr.{Expr}
use Rattle.rx_tree.specs.declared.stops.Stops.{Stops}
use Rattle.rx_tree.specs.Operators.{Tokens}
use Rattle.rx_tree.specs.Expressions.{Fits}
use Rattle.rx_exprs.specs.declared.refused.ParseRefused.{ParseRefused}
use Rattle.rx_exprs.specs.declared.refused.ParseRefused.TheVariants.{Bad, OutOfMemory}
use Rattle.rx_exprs.specs.declared.refused.Refused.{Refused}
use Rattle.rx_exprs.specs.declared.refused.Refused.TheVariants as r
use Rattle.rx_exprs.specs.Reader.{expression}

-- no expression fits
abbrev pub NoneFits : Stops → Tokens → Type 0
NoneFits stops tokens = (expr : Expr) (rest : Tokens) → Fits stops tokens expr rest → ⊥

-- The reader refuses with this number, at the token that has this place among all.
pub record RefusesAt (stops : Stops) (tokens : Tokens) (from at number : ℕ) : Type 0 where
  pub left : ℕ
  pub number_is : expression stops (drop from tokens) ≡ Err (record { left = left; number = number })
  pub at_is : at ≡ length tokens - left

-- None fits, and the number and the place are the reader's. Want of memory says nothing.
abbrev pub IsRefused : Stops → Tokens → ℕ → ParseRefused → Type 0
IsRefused stops tokens from (Bad at number) = NoneFits stops (drop from tokens) × RefusesAt stops tokens from at number
IsRefused stops tokens from OutOfMemory = Unit {0}

-- a refusal of the reader, by the place of its token among so many
abbrev pub placed : ℕ → Refused → ParseRefused
placed count (r.Bad fault) = Bad (count - fault.left) fault.number
placed count r.OutOfMemory = OutOfMemory
