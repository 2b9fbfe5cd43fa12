-- A frame's variables, and where a name lives.
use Rattle.std.specs.Prelude.{Bool, if◌then◌else◌, unwrap_or}
use Rattle.rx_tree.specs.declared.value.Value.{Value}
use Rattle.rx_tree.specs.declared.name.Derived.{Derived}
use Rattle.rx_tree.specs.declared.name.Place.{Place}
use Rattle.rx_tree.specs.declared.name.Place.TheVariants.{Here, Below}
use Rattle.rx_vars.specs.Names.{Names, found, no_names}

-- Whether the frame has variables of its own, which an internal routine without PROCEDURE hasn't; the values of its names; and
-- the places of the names that it exposes.
pub record Variables : Type 0 where
  pub alone : Bool
  pub rows : Names Value
  pub exposed : Names Place

abbrev pub no_variables : Bool → Variables
no_variables alone = record { alone = alone; rows = no_names; exposed = no_names }

-- where a name lives that isn't exposed
abbrev pub own_place : Bool → Place
own_place alone = if alone then Here else Below

-- Where a name lives: at its place where it is exposed, itself or with its stem, and else in the frame or in its caller's.
abbrev pub home : Variables → Derived → Place
home variables name = unwrap_or (found variables.exposed name) (own_place variables.alone)
