use Rattle.std.proofs.Common.{◌≡◌, ◌+◌, drop, map}
use Rattle.rx_machine.specs.Scenes.{symbols_from}
use Rattle.rx_codes.proofs.fixing.add_symbols.Given as goal

abbrev pub invariant-loop-place : goal.invariant-loop-place
invariant-loop-place l =
    symbols_from l.symbols (1 + l.place) (map (λ name. name.now) (drop l.place l.names))
    ≡ symbols_from l.initial.symbols 1 (map (λ name. name.now) l.names)
