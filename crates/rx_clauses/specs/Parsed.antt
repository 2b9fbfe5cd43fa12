-- When the parser refuses.
use Rattle.std.specs.Prelude.{◌≡◌, ℕ, ◌-◌, drop, length, Err}
use Rattle.rx_tree.specs.Operators.{Tokens}
use Rattle.rx_exprs.specs.declared.refused.ParseRefused.{ParseRefused}
use Rattle.rx_exprs.specs.declared.refused.ParseRefused.TheVariants.{Bad, OutOfMemory}
use Rattle.rx_clause_tree.specs.declared.clause.Body.{Body}
use Rattle.rx_clause_tree.specs.Bodies.{IsBody}
use Rattle.rx_clauses.specs.Reader.{body}

-- no body fits
abbrev pub NoneFits : Tokens → Type 0
NoneFits tokens = (found : Body) (rest : Tokens) → IsBody found tokens rest → ⊥

-- The reader refuses with this number, at the token that has this place among all.
pub record RefusesAt (tokens : Tokens) (from at number : ℕ) : Type 0 where
  pub left : ℕ
  pub number_is : body (drop from tokens) ≡ Err (record { left = left; number = number })
  pub at_is : at ≡ length tokens - left

-- None fits, and the number and the place are the reader's. Want of memory says nothing.
abbrev pub IsRefused : Tokens → ℕ → ParseRefused → Type 0
IsRefused tokens from (Bad at number) = NoneFits (drop from tokens) × RefusesAt tokens from at number
IsRefused tokens from OutOfMemory = Unit {0}
