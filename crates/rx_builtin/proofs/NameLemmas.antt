-- What stands beside a name in a table.
use Rattle.std.proofs.Common.{◌≡◌, Bool, true, false, if◌then◌else◌, Option, Some, option_map, refl}

-- an entry that is chosen, seen through a part of it
pub option_map-if : {E F : Type 0} (seen : E → F) (b : Bool) (entry : E) (other : Option E) → option_map seen (if b then Some entry else other) ≡ (if b then Some (seen entry) else option_map seen other)
option_map-if seen true entry other = refl
option_map-if seen false entry other = refl
