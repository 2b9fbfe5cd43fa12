-- What an evaluation depends on.
use Rattle.std.specs.Prelude.{◌≡◌, ℕ, true, List, [], All, reverse}
use Rattle.rx_tree.specs.declared.value.Value.{Value}
use Rattle.rx_eval.specs.declared.facts.Facts.{Facts}
use Rattle.rx_eval.specs.Code.{Code, evaluation}
use Rattle.rx_eval.specs.Names.{reads}
use Rattle.rx_eval.specs.Places.{Trees, IsPlace, fits, partial}
use Rattle.rx_eval.specs.Values.{read}

-- facts that differ in the values of variables alone
pub record AreAlike (facts others : Facts) : Type 0 where
  pub frame : facts.frame ≡ others.frame
  pub novalue : facts.novalue ≡ others.novalue

-- whether the variables that expressions read have the same values in both
abbrev pub ReadsSame : Facts → Facts → Trees → Type 0
ReadsSame facts others trees = All (λ entry. read others.reads entry.0 ≡ entry.1) (reads (read facts.reads) trees)

-- What the trees of a place come to follows from the values of the variables that they read.
abbrev pub ReadsSuffice : Type 0
ReadsSuffice =
    (code : Code) (facts others : Facts) (place : ℕ) (values : List Value) → fits code.body code.instrs [] ≡ true
    → IsPlace code.instrs place (reverse values) → AreAlike facts others
    → ReadsSame facts others (partial code.instrs place (reverse values))
    → evaluation code facts place values ≡ evaluation code others place values
