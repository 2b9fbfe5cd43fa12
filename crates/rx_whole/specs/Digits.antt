-- How many digits a number has.
use Rattle.std.specs.Prelude.{ℕ, ℤ, ◌^◌, Bool, nat_lt, unsigned_abs, Option, Some, None, if◌then◌else◌}

-- whether a number has at most so many digits: its sign is no digit, and 0 has none that counts
abbrev pub has_at_most : ℕ → ℤ → Bool
has_at_most digits number = nat_lt (unsigned_abs number) (10 ^ digits)

-- a magnitude, if it is below a limit
abbrev pub below : ℕ → ℕ → Option ℕ
below limit magnitude = if nat_lt magnitude limit then Some magnitude else None
