-- The errors that messages raise, and refusals of what they call as their own.
use Rattle.std.specs.Prelude.{ℕ, Bool, if◌then◌else◌}
use Rattle.rx_heap.specs.declared.heap.HeapRefused.{HeapRefused}
use Rattle.rx_heap.specs.declared.heap.HeapRefused.TheVariants as heap
use Rattle.rx_native.specs.declared.answer.NativeRefused.{NativeRefused}
use Rattle.rx_native.specs.declared.answer.NativeRefused.TheVariants as native
use Rattle.rx_native.specs.Outcomes.{resources_exhausted}
use Rattle.rx_sends.specs.declared.refused.SendRefused.{SendRefused}
use Rattle.rx_sends.specs.declared.refused.SendRefused.TheVariants as refused

-- a frame would be too many
abbrev pub control_stack_full : ℕ
control_stack_full = 11

-- a message has no method
abbrev pub method_not_found : ℕ
method_not_found = 97

-- an instruction stands where it may not be done
abbrev pub execution_error : ℕ
execution_error = 98

abbrev pub of_native : NativeRefused → SendRefused
of_native (native.Raised number) = refused.Raised number
of_native native.OutOfMemory = refused.OutOfMemory

abbrev pub of_heap : HeapRefused → SendRefused
of_heap heap.Full = refused.Raised resources_exhausted
of_heap heap.OutOfMemory = refused.OutOfMemory

-- where NOMETHOD isn't trapped, an error is raised in its place
abbrev pub untrapped : Bool → SendRefused → SendRefused
untrapped traps refused.NoMethod = if traps then refused.NoMethod else refused.Raised method_not_found
untrapped traps (refused.Raised number) = refused.Raised number
untrapped traps refused.OutOfMemory = refused.OutOfMemory
