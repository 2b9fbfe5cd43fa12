-- Methods of the package that are begun, and their frames.
use Rattle.std.specs.Prelude.{ℕ, ◌+◌, ◌==◌, Bool, true, List, position, slice_get, codes, Option, Some}
use Rattle.std.specs.Option.{option_and_then, option_map_or}
use Rattle.rx_tree.specs.declared.value.Value.{Value}
use Rattle.rx_tree.specs.declared.value.Value.TheVariants.{Ref}
use Rattle.rx_tree.specs.declared.class.ClassDef.{ClassDef}
use Rattle.rx_tree.specs.declared.name.Derived.TheVariants.{Simple}
use Rattle.rx_tree.specs.declared.activity.FrameKind.TheVariants.{Method}
use Rattle.rx_vars.specs.Names.{changed, no_names}
use Rattle.rx_vars.specs.Variables.{Variables, no_variables}
use Rattle.rx_classes.specs.Orders.{order}
use Rattle.rx_frames.specs.Frames.{Frame, frame_with}
use Rattle.rx_native.specs.Outcomes.{nil}
use Rattle.rx_native.specs.Arguments.{Arguments}
use Rattle.rx_sends.specs.declared.call.Call.{Call}
use Rattle.rx_sends.specs.declared.call.PackageMethod.{PackageMethod}

-- the class behind the first place of a class, if there is one
abbrev pub class_behind : ℕ → List ℕ → Option ℕ
class_behind class classes =
    option_and_then (λ (place : ℕ). slice_get classes (place + 1)) (position (λ (other : ℕ). class == other) classes)

-- SUPER is the class behind the method's own in the order of the receiver's class, or `.nil` at its end. For a class object the
-- order is that of this class itself.
abbrev pub super_of : List ClassDef → ℕ → ℕ → Value
super_of classes class of = option_map_or Ref (class_behind of (order classes class)) nil

-- a method of the package for a receiver of a class
abbrev pub call_of : List ClassDef → ℕ → ℕ → PackageMethod → Arguments → Bool → Call
call_of classes class object method args made = record {
  method = method;
  object = object;
  behind = super_of classes class method.scope.class;
  args = args;
  made = made;
}

-- A method begins with the variables SELF, the receiver, and SUPER.
abbrev pub first_variables : ℕ → Value → Variables
first_variables object behind =
    record (no_variables true) { rows = changed (changed no_names (Simple (codes "SELF")) (Some (Ref object))) (Simple (codes "SUPER")) (Some behind) }

-- The frame of a method is at the beginning of its body. It asks for its pool, whose number is given, where the method is guarded; it
-- completes a Message where an activity's first message begins it; and NEW gives its object in place of a value.
abbrev pub frame_of : {Todo : Type 0} → Todo → Call → ℕ → Option ℕ → Frame Todo
frame_of beginning call pool completes =
    record (frame_with beginning Method call.method.body
    (Some (record { object = call.object; scope = call.method.scope; pool = pool })) call.args) {
      variables = first_variables call.object call.behind;
      asks = call.method.guarded;
      completes = completes;
      made = call.made;
    }
