-- What functions that read ensure.
use Rattle.std.specs.Prelude.{◌≡◌, ◌≢◌, Bool, true, false, Option, Some, None, Result, Ok, Err}
use Rattle.rx_tree.specs.declared.token.Oper.{Oper}
use Rattle.rx_tree.specs.Operators.{Tokens}
use Rattle.rx_exprs.specs.declared.refused.Fault.{Fault}
use Rattle.rx_exprs.specs.declared.refused.Refused.{Refused}
use Rattle.rx_exprs.specs.declared.refused.Refused.TheVariants.{Bad, OutOfMemory}
use Rattle.rx_exprs.specs.declared.operators.Joint.{Joint}
use Rattle.rx_exprs.specs.declared.operators.Joint.TheVariants as j
use Rattle.rx_exprs.specs.Reader.{Outcome}

-- the refusal of the reader that a refusal is
abbrev pub fault_of : Refused → Fault
fault_of (Bad fault) = fault
fault_of OutOfMemory = record { left = 0; number = 0 }

-- what the reader reads, or its refusal, unless memory runs out
abbrev pub Reads : {A : Type 0} → Outcome A → Result A Refused → Tokens → Type 0
Reads outcome (Ok a) new = outcome ≡ Ok (a, new)
Reads outcome (Err refused) new = refused ≢ OutOfMemory → outcome ≡ Err (fault_of refused)

-- something that may stand at the front is taken, or nothing is
abbrev pub Takes : {A : Type 0} → Option (A × Tokens) → Option A → Tokens → Tokens → Type 0
Takes found (Some a) old new = found ≡ Some (a, new)
Takes found None old new = (found ≡ None) × (new ≡ old)

abbrev pub Eats : Option Tokens → Bool → Tokens → Tokens → Type 0
Eats behind true old new = behind ≡ Some new
Eats behind false old new = (behind ≡ None) × (new ≡ old)

-- where the right operand of an operator begins, wherever the tokens are
abbrev pub IsJoint : (Tokens → Tokens → Option (Oper × Tokens)) → Joint → Type 0
IsJoint find j.Nothing = (here behind : Tokens) → find here behind ≡ None
IsJoint find (j.Here oper) = (here behind : Tokens) → find here behind ≡ Some (oper, here)
IsJoint find (j.Behind oper) = (here behind : Tokens) → find here behind ≡ Some (oper, behind)
