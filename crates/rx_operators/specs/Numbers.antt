-- What reading two texts tells of their numbers.
use Rattle.std.specs.Prelude.{ℤ, ◌&&◌, if◌then◌else◌, Option, Some, None}
use Rattle.rx_whole.specs.Digits.{has_at_most}
use Rattle.rx_operators.specs.declared.arithmetic.Operands.{Operands}
use Rattle.rx_operators.specs.declared.arithmetic.Operands.TheVariants.{Both, Long, NotBoth}

abbrev pub pair_of : Option ℤ → Option ℤ → Operands
pair_of (Some a) (Some b) = if has_at_most 18 a && has_at_most 18 b then Both a b else Long
pair_of (Some a) None = NotBoth
pair_of None b = NotBoth
