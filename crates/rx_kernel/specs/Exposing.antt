-- Names that frames of the code expose.
use Rattle.std.specs.Prelude.{ℕ}
use Rattle.rx_tree.specs.declared.name.Derived.{Derived}
use Rattle.rx_tree.specs.declared.name.Place.TheVariants.{Pool}
use Rattle.rx_vars.specs.Names.{with_name}
use Rattle.rx_frames.specs.Frames.{Frame}

-- the frame once a name lives in a pool
abbrev pub exposing : {Todo : Type 0} → Derived → ℕ → Frame Todo → Frame Todo
exposing name pool frame =
    record frame { variables = record frame.variables { exposed = with_name frame.variables.exposed name (Pool pool) } }
