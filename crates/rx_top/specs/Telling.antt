-- What telling an output and a report came to.
use Rattle.std.specs.Prelude.{ℕ, List, Option, ◌⊎◌}
use Rattle.std.specs.Io.KnownBytes.{Appends}
use Rattle.rx_ports.specs.Causes.{Rose}
use Rattle.rx_ports.specs.Sinks.{AppendsPrefix}
use Rattle.rx_ports.specs.declared.sink.Accepted.{Accepted}
use Rattle.rx_ports.specs.declared.sink.Accepted.TheVariants.{All, Failed, NoMemory}

-- both were accepted whole; or some first bytes of each, with a fault of one sink or for want of memory
abbrev pub TellsBoth : Option (List ℕ) → Option (List ℕ) → ℕ → ℕ → Option (List ℕ) → Option (List ℕ) → ℕ → ℕ → List ℕ → List ℕ → Accepted → Type 0
TellsBoth out out' out_faults out_faults' err err' err_faults err_faults' output report All = Appends out out' output × Appends err err' report
TellsBoth out out' out_faults out_faults' err err' err_faults err_faults' output report Failed =
    (Rose out_faults out_faults' ⊎ Rose err_faults err_faults') × AppendsPrefix out out' output × AppendsPrefix err err' report
TellsBoth out out' out_faults out_faults' err err' err_faults err_faults' output report NoMemory = AppendsPrefix out out' output × AppendsPrefix err err' report
