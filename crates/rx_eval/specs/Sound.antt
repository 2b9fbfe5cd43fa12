-- What an instruction knows of its callee.
use Rattle.std.specs.Prelude.{IsTrue}
use Rattle.rx_builtin.specs.Functions.{is_builtin}
use Rattle.rx_eval.specs.declared.code.Callee.{Callee}
use Rattle.rx_eval.specs.declared.code.Callee.TheVariants.{Builtin}
use Rattle.rx_eval.specs.declared.code.Calling.{Calling}
use Rattle.rx_eval.specs.declared.code.Instr.{Instr}
use Rattle.rx_eval.specs.declared.code.Instr.TheVariants as i

-- a built-in function has the name of one
abbrev pub IsSoundCallee : Callee → Calling → Type 0
IsSoundCallee Builtin call = IsTrue (is_builtin call.name)
IsSoundCallee _ call = Unit {0}

abbrev pub IsSound : Calling → Type 0
IsSound call = IsSoundCallee call.callee call

abbrev pub IsSoundInstr : Instr → Type 0
IsSoundInstr (i.Function call) = IsSound call
IsSoundInstr _ = Unit {0}
