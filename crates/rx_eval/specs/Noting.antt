-- Variables that were read for code by the names that it lists.
use Rattle.std.specs.Prelude.{◌≡◌, false, true, ℕ, List, [], reverse, Contains, Option}
use Rattle.rx_tree.specs.declared.name.Derived.{Derived}
use Rattle.rx_tree.specs.declared.name.Name.{Name}
use Rattle.rx_tree.specs.declared.value.Value.{Value}
use Rattle.rx_eval.specs.declared.facts.Facts.{Facts}
use Rattle.rx_eval.specs.declared.naming.Named.TheVariants.{Known}
use Rattle.rx_eval.specs.Code.{Code, evaluation}
use Rattle.rx_eval.specs.Names.{Lists, reads}
use Rattle.rx_eval.specs.Places.{IsPlace, fits, partial}
use Rattle.rx_eval.specs.Reading.{derive}
use Rattle.rx_eval.specs.Values.{Values, read}

-- Each of these names was read, where variables have these values.
abbrev pub AreNoted : (Derived → Option Value) → List Name → Values → Type 0
AreNoted value names noted = (name : Name) (derived : Derived) → Contains names name → derive false value name ≡ Known derived
    → read noted derived ≡ value derived

-- What the trees of a place come to is the same over the variables that they read and over those of the names that code lists.
abbrev pub NamesSuffice : Type 0
NamesSuffice =
    (code : Code) (facts : Facts) (place : ℕ) (values : List Value)
    → (value : Derived → Option Value) (names : List Name) (noted : Values)
    → fits code.body code.instrs [] ≡ true → IsPlace code.instrs place (reverse values) → Lists names code.instrs
    → AreNoted value names noted
    → evaluation code (record facts { reads = noted }) place values
    ≡ evaluation code (record facts { reads = reads value (partial code.instrs place (reverse values)) }) place values
