use Rattle.std.proofs.Common.{◌≡◌, ◌+◌, drop, map}
use Rattle.rx_machine.specs.Scenes.{class_name, symbols_from}
use Rattle.rx_codes.specs.Codes.{symbols_for}
use Rattle.rx_codes.proofs.fixing.symbols_of.Given as goal

abbrev pub invariant-loop-place : goal.invariant-loop-place
invariant-loop-place l = symbols_from l.symbols (9 + l.place) (map class_name (drop l.place l.classes)) ≡ symbols_for l.classes
