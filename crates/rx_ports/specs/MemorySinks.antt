-- What a sink in memory knows, and what a call makes of it.
use Rattle.std.specs.Prelude.{ℕ, List, ◌++◌, take}
use Rattle.rx_ports.specs.Causes.{next_count}
use Rattle.rx_ports.specs.declared.sink.Accepted.{Accepted}
use Rattle.rx_ports.specs.declared.sink.Accepted.TheVariants.{All, Failed, NoMemory}

-- the bytes that were accepted, the numbers of the calls that are to fail, how many first bytes a
-- failing call keeps, how many calls there were, and how many of them failed
pub record SinkState : Type 0 where
  pub bytes : List ℕ
  pub fail : List ℕ
  pub keep : ℕ
  pub calls : ℕ
  pub faults : ℕ

-- the sink after a `put` of the bytes that gave this answer
abbrev pub sink_after : SinkState → List ℕ → Accepted → SinkState
sink_after s bytes All = record s { bytes = s.bytes ++ bytes; calls = next_count s.calls }
sink_after s bytes Failed =
    record s {
      bytes = s.bytes ++ take s.keep bytes;
      calls = next_count s.calls;
      faults = next_count s.faults;
    }
sink_after s bytes NoMemory = record s { calls = next_count s.calls }
