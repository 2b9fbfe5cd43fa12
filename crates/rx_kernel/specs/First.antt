-- The message with which an activity begins.
use Rattle.std.specs.Prelude.{ℕ, Option, None, Some}
use Rattle.rx_sends.specs.declared.parts.Sent.{Sent}
use Rattle.rx_machine.specs.World.{World}
use Rattle.rx_machine.specs.Sending.{sends}

-- the world once an activity has sent its first message, if it has one
abbrev pub with_first : World → ℕ → Option Sent → World
with_first w a None = w
with_first w a (Some one) = sends w a 0 one
