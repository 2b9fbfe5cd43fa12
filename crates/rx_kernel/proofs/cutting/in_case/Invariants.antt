use Rattle.std.proofs.Common.{◌≡◌, map, take}
use Rattle.std.specs.Str.{str_to_ascii_uppercase}
use Rattle.rx_kernel.proofs.cutting.in_case.Given as goal

abbrev pub invariant-loop-text : goal.invariant-loop-text
invariant-loop-text l = l.cased ≡ map str_to_ascii_uppercase (take l.text-index l.text-items)
