-- Which method a message reaches.
use Rattle.std.specs.Prelude.{ℕ, ◌==◌, ◌||◌, Bool, true, false, not, if◌then◌else◌, List, Option, Some, None, codes}
use Rattle.rx_tree.specs.Object.{Object}
use Rattle.rx_tree.specs.declared.value.Value.{Value}
use Rattle.rx_tree.specs.declared.value.Value.TheVariants.{Str, Ref}
use Rattle.rx_tree.specs.declared.class.ClassDef.{ClassDef}
use Rattle.rx_classes.specs.declared.method.MethodId.{MethodId}
use Rattle.rx_classes.specs.declared.method.MethodId.TheVariants as id
use Rattle.rx_classes.specs.declared.method.Sought.{Sought}
use Rattle.rx_classes.specs.declared.method.Sought.TheVariants as s
use Rattle.rx_classes.specs.Lookup.{find, find_from, sought}
use Rattle.rx_native.specs.Targets.{target_scope}
use Rattle.rx_sends.specs.declared.parts.Sent.{Sent}
use Rattle.rx_sends.specs.declared.reaching.Reached.{Reached}
use Rattle.rx_sends.specs.declared.reaching.Reached.TheVariants as r

-- whether the sender has the receiver as its object
abbrev pub is_own : Option ℕ → Value → Bool
is_own (Some object) (Ref number) = object == number
is_own (Some object) (Str text) = false
is_own None target = false

-- A private method is there for a sender alone that has the receiver as its object.
abbrev pub is_permitted : Option ℕ → Value → MethodId → Bool
is_permitted sender target (id.Native number) = true
is_permitted sender target (id.Body body private guarded) = not private || is_own sender target

-- the first method of a name along the scopes that are searched for a receiver, or from the first one of a class on
abbrev pub sought_for : List ClassDef → List Object → Value → Option ℕ → List ℕ → Sought
sought_for classes objects target None name =
    sought (find classes (target_scope objects target).class (target_scope objects target).class_side name)
sought_for classes objects target (Some above) name =
    find_from classes (target_scope objects target).class (target_scope objects target).class_side above name

abbrev pub or_unknown : Option ℕ → Value → Sought → Reached
or_unknown sender target (s.Found scope method) = if is_permitted sender target method then r.Unknown scope method else r.NoMethod
or_unknown sender target s.NoMethod = r.NoMethod
or_unknown sender target s.NotInOrder = r.NoMethod

-- The first method of the name decides: where it isn't permitted, the message has none.
abbrev pub reached_by : Option ℕ → Value → Sought → Sought → Reached
reached_by sender target s.NotInOrder unknown = r.NotInOrder
reached_by sender target s.NoMethod unknown = or_unknown sender target unknown
reached_by sender target (s.Found scope method) unknown =
    if is_permitted sender target method then r.Method scope method else or_unknown sender target unknown

-- What a message reaches: a method of its name, or UNKNOWN, which is sought by the same rules. The sender is told by its object.
abbrev pub reached : List ClassDef → List Object → Option ℕ → Sent → Reached
reached classes objects sender sent =
    reached_by sender sent.target (sought_for classes objects sent.target sent.above sent.name)
    (sought_for classes objects sent.target sent.above (codes "UNKNOWN"))
