-- Variables that get values, lose them, or are exposed.
use Rattle.std.specs.Prelude.{ℕ, nat_lt, Bool, if◌then◌else◌, List, [], ◌∷◌, length, Option}
use Rattle.rx_tree.specs.Bytes.{longest}
use Rattle.rx_tree.specs.declared.name.Derived.{Derived}
use Rattle.rx_tree.specs.declared.name.Name.{Name}
use Rattle.rx_tree.specs.declared.name.Place.TheVariants.{Pool}
use Rattle.rx_tree.specs.declared.value.Value.{Value}
use Rattle.rx_vars.specs.Names.{with_name}
use Rattle.rx_pools.specs.Pools.{watched_name, with_cell}
use Rattle.rx_frames.specs.Frames.{Frame}
use Rattle.rx_frames.specs.Activities.{with_change_at, with_top_changed}
use Rattle.rx_names.specs.Deriving.{derive, spelled}
use Rattle.rx_names.specs.Homes.{activities_with, home, pools_with, variables_at}
use Rattle.rx_native.specs.Outcomes.{resources_exhausted}
use Rattle.rx_machine.specs.Todo.{Todo}
use Rattle.rx_machine.specs.World.{World}
use Rattle.rx_machine.specs.Turns.{Turn, goes_on, line}
use Rattle.rx_machine.specs.Raising.{raised}

-- a name, for an activity's frame on top, with its tail parts replaced by their values
abbrev pub derived : World → ℕ → Name → Derived
derived w a name = derive (variables_at w.activities a) w.pools name

abbrev pub is_too_long : Derived → Bool
is_too_long name = nat_lt longest (length (spelled name))

-- ---- one name

-- a name has this value where it lives for an activity's frame on top, or none
abbrev pub with_value : World → ℕ → Derived → Option Value → World
with_value w a name value =
    let home = home (variables_at w.activities a) name in
    record w { activities = activities_with w.activities a home name value; pools = pools_with w.pools home name value }

abbrev pub exposing : Derived → ℕ → Frame Todo → Frame Todo
exposing name pool frame =
    record frame { variables = record frame.variables { exposed = with_name frame.variables.exposed name (Pool pool) } }

-- a name lives in a pool for an activity's frame on top, and has a cell there
abbrev pub with_exposed : World → ℕ → ℕ → Derived → World
with_exposed w a pool name = record w {
  activities = with_change_at w.activities a (with_top_changed (exposing name pool));
  pools = with_cell w.pools pool (watched_name name);
}

-- ---- several names, in order: the tail of each is replaced when it is its turn

-- The world when all is done, or when it comes to a name that is too long.
pub data Assigned : Type 0 where
  All : World → Assigned
  TooLong : World → Assigned

abbrev pub assign_from : World → ℕ → List (Name × Option Value) → Assigned
assign_from w a [] = All w
assign_from w a (row ∷ rows) =
    let name = derived w a row.0 in if is_too_long name then TooLong w else assign_from (with_value w a name row.1) a rows

abbrev pub expose_from : World → ℕ → ℕ → List Name → Assigned
expose_from w a pool [] = All w
expose_from w a pool (one ∷ names) =
    let name = derived w a one in if is_too_long name then TooLong w else expose_from (with_exposed w a pool name) a pool names

-- Error 5 is raised at a name that is too long.
abbrev pub finished : Turn → Assigned → World
finished t (All w) = w
finished t (TooLong w) = raised w t.number resources_exhausted (line t)

-- The clause ends as these names get these values, or lose theirs.
abbrev pub assigns : Turn → List (Name × Option Value) → World
assigns t rows = finished t (assign_from (goes_on t) t.number rows)

-- The clause ends as these names are exposed.
abbrev pub exposes : Turn → ℕ → List Name → World
exposes t pool names = finished t (expose_from (goes_on t) t.number pool names)
