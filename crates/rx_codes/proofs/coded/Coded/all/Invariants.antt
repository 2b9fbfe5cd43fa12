use Rattle.std.proofs.Common.{◌≡◌, ◌++◌, length, map, reverse}
use Rattle.std.specs.Arc.{arc_value}
use Rattle.rx_codes.specs.Codes.{with_objects}
use Rattle.rx_codes.proofs.coded.Coded.all.Given as goal

abbrev pub invariant-loop-body : goal.invariant-loop-body
invariant-loop-body l =
    map (with_objects (arc_value l.objects)) l.fn.bodies ≡ map (with_objects (arc_value l.objects)) l.bodies ++ reverse l.coded.items

abbrev pub decreases-loop-body : goal.decreases-loop-body
decreases-loop-body l = length l.bodies
