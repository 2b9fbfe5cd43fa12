-- What messages act on.
use Rattle.std.specs.Prelude.{List}
use Rattle.rx_tree.specs.Object.{Object}
use Rattle.rx_tree.specs.declared.class.ClassDef.{ClassDef}
use Rattle.rx_pools.specs.Pools.{Pools}
use Rattle.rx_frames.specs.declared.position.Position.{Position}
use Rattle.rx_frames.specs.Activities.{Activity}
use Rattle.rx_sends.specs.declared.parts.Parts as declared

-- The activities, the objects, the classes and the pools of the objects' variables, by the way in which frames tell what is still to be
-- done.
pub record Parts (Todo : Type 0) : Type 0 where
  pub activities : List (Activity Todo)
  pub objects : List Object
  pub classes : List ClassDef
  pub pools : Pools

-- what calls take: its frames tell it by their positions in code
abbrev pub parts_of : declared.Parts → Parts Position
parts_of parts = record { activities = parts.stacks; objects = parts.heap; classes = parts.classes; pools = parts.pools }
