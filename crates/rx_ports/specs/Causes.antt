-- Counts of calls and of faults.
use Rattle.std.specs.Prelude.{ℕ, ◌+◌, ◌-◌, ◌^◌, ◌≤◌, min, List, Contains}

-- one more, or the last value of a count
abbrev pub next_count : ℕ → ℕ
next_count count = min (count + 1) (2 ^ 64 - 1)

-- a count has risen, or stands at its last value
abbrev pub Rose : ℕ → ℕ → Type 0
Rose before now = next_count before ≤ now

-- a count doesn't fall in a call, and it rises where the call answers `failed`
pub record HasCause (before now : ℕ) (failed : Type 0) : Type 0 where
  pub later : before ≤ now
  pub rose : failed → Rose before now

-- after so many calls, the number of the next one is among those that are to fail
abbrev pub FailsNext : List ℕ → ℕ → Type 0
FailsNext fail calls = Contains fail (next_count calls)
