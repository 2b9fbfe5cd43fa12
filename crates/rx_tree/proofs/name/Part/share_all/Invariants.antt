use Rattle.std.proofs.Common.{◌≡◌, take}
use Rattle.rx_tree.proofs.name.Part.share_all.Given as goal

abbrev pub invariant-loop-part : goal.invariant-loop-part
invariant-loop-part l = l.shared ≡ take l.part-index l.parts
