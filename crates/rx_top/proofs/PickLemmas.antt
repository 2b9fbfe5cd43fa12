-- The next pick of a world that goes on.
use Rattle.std.proofs.Common.{◌≡◌, ℕ, Option, None, Some, sym}
use Rattle.rx_machine.specs.World.{World}
use Rattle.rx_machine.specs.declared.end.End.TheVariants.{Going}
use Rattle.rx_machine.specs.Enabled.{robin}
use Rattle.rx_machine.specs.End.{end}
use Rattle.rx_machine.proofs.CircleLemmas.{going-has-next, robin-is-enabled}
use Rattle.rx_top.specs.Running.{IsNextPick}

pub next-pick : (w : World) (last : ℕ) (next : Option ℕ) → end w ≡ Going → next ≡ robin w last → IsNextPick w last next
next-pick w last None going is = absurd (going-has-next w last going (sym is))
next-pick w last (Some a) going is = record { going = going; next = sym is; enabled = robin-is-enabled w last a (sym is) }
