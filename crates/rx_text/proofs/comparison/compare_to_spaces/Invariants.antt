use Rattle.std.proofs.Common.{◌≡◌, drop}
use Rattle.rx_text.proofs.Order.{order_to_spaces}
use Rattle.rx_text.proofs.comparison.compare_to_spaces.Given as goal

abbrev pub invariant-loop-byte : goal.invariant-loop-byte
invariant-loop-byte l = order_to_spaces l.text ≡ order_to_spaces (drop l.byte-index l.text)
