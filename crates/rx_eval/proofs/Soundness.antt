-- What an instruction that fits knows of its callee.
use Rattle.std.proofs.Common.{◌≡◌, ℕ, ◌&&◌, Bool, true, false, not, is_some, if◌then◌else◌, List, [], ◌∷◌, drop, take, ◌+◌, slice_get, Some, refl, subst}
use Rattle.rx_builtin.specs.Functions.{is_builtin}
use Rattle.rx_vars.specs.Tables.{look_up}
use Rattle.rx_eval.specs.declared.code.Callee.{Callee}
use Rattle.rx_eval.specs.declared.code.Callee.TheVariants.{Label, Builtin, Routine}
use Rattle.rx_eval.specs.declared.code.Calling.{Calling}
use Rattle.rx_eval.specs.declared.code.Instr.{Instr}
use Rattle.rx_eval.specs.declared.code.Instr.TheVariants as i
use Rattle.rx_eval.specs.Bodies.{Body}
use Rattle.rx_eval.specs.Calling.{callee, wants_strings}
use Rattle.rx_eval.specs.Places.{fits, knows_call, made_by, marks_of, runs, takes}
use Rattle.rx_eval.specs.Sound.{IsSoundCallee, IsSoundInstr}
use Rattle.rx_eval.proofs.At.{cut, fits_at}
use Rattle.rx_eval.proofs.First.{callee_is, if_both}

is_one : (label builtin : Bool) → Builtin ≡ (if label then Label else if builtin then Builtin else Routine) → builtin ≡ true
is_one true builtin e = cc
is_one false true e = refl
is_one false false e = cc

sound_callee : (body : Body) (call : Calling) (c : Callee) → c ≡ callee body call.name call.is_string → IsSoundCallee c call
sound_callee body call Label is = tt
sound_callee body call Builtin is = is_one (not call.is_string && is_some (look_up body.labels call.name)) (is_builtin call.name) is
sound_callee body call Routine is = tt

sound_run : (body : Body) (instr : Instr) (marks : List Bool) (go : List Bool → Bool) → runs body instr marks go ≡ true → IsSoundInstr instr
sound_run body (i.Const value) marks go h = tt
sound_run body (i.Name name) marks go h = tt
sound_run body (i.Environment name object) marks go h = tt
sound_run body (i.Begin form) marks go h = tt
sound_run body (i.Oper oper) marks go h = tt
sound_run body (i.Prefix oper) marks go h = tt
sound_run body i.Group marks go h = tt
sound_run body (i.Function call) marks go h =
    let both = if_both (knows_call body call) (takes (wants_strings call.callee) call.shape marks (λ rest. go (false ∷ rest))) h in
    sound_callee body call call.callee (callee_is call.callee (callee body call.name call.is_string) both.0)
sound_run body (i.Send send) marks go h = tt
sound_run body i.Wanted marks go h = tt

pub sound_at : (body : Body) (code : List Instr) (at : ℕ) (instr : Instr) → fits body code [] ≡ true → slice_get code at ≡ Some instr → IsSoundInstr instr
sound_at body code at instr h get =
    let marks = marks_of (made_by (take at code) []) in
    sound_run body instr marks (fits body (drop (at + 1) code))
    (subst (λ all. fits body all marks ≡ true) (cut code at instr get).0 (fits_at body code at h))
