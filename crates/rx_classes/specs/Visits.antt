-- What is left to do of the way through the superclasses of a class.
use Rattle.std.specs.Prelude.{ℕ, List, ◌∷◌, map}
use Rattle.rx_classes.specs.declared.table.ordering.Visit.{Visit}
use Rattle.rx_classes.specs.declared.table.ordering.Visit.TheVariants.{Enter, Leave}

-- a class is left once its superclasses were entered, the last one first
abbrev pub entering : ℕ → List ℕ → List Visit
entering class above = Leave class ∷ map Enter above
