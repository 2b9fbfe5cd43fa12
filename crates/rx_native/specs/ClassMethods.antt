-- What the methods of Class come to, by the number of the class that they are sent to.
use Rattle.std.specs.Prelude.{ℕ, ◌==◌, if◌then◌else◌, List, [], ◌∷◌, Err}
use Rattle.std.specs.Option.{option_map_or}
use Rattle.rx_tree.specs.Object.{Object}
use Rattle.rx_tree.specs.declared.value.Value.TheVariants.{Str, Ref}
use Rattle.rx_tree.specs.declared.class.ClassDef.{ClassDef}
use Rattle.rx_classes.specs.Natives.{array_class, directory_class, queue_class}
use Rattle.rx_classes.specs.Classes.{class_name, parent_of}
use Rattle.rx_classes.specs.Installing.{is_closed}
use Rattle.rx_classes.specs.Orders.{order}
use Rattle.rx_heap.specs.declared.kind.Kind.{Kind}
use Rattle.rx_heap.specs.declared.kind.Kind.TheVariants as k
use Rattle.rx_heap.specs.Objects.{empty_of}
use Rattle.rx_native.specs.declared.answer.NativeAnswer.TheVariants as a
use Rattle.rx_native.specs.declared.answer.Began.TheVariants as b
use Rattle.rx_native.specs.declared.class.OfClass.{OfClass}
use Rattle.rx_native.specs.declared.class.OfClass.TheVariants as c
use Rattle.rx_native.specs.Outcomes.{Outcome, incorrect_method_call, on, gives, makes, nil}
use Rattle.rx_native.specs.Arguments.{Arguments, no_argument}

-- the kind of the first native class in an order that has items
abbrev pub kind_in : List ℕ → Kind
kind_in [] = k.Plain
kind_in (class ∷ classes) =
    if class == array_class then k.Array
    else if class == queue_class then k.Queue
    else if class == directory_class then k.Directory
    else kind_in classes

abbrev pub class_answer : OfClass → List ClassDef → List Object → ℕ → Arguments → Outcome
-- The arguments are those of INIT, which is sent to the new object. Strings, Messages and classes aren't made so.
class_answer c.New classes objects class args =
    if is_closed class then Err incorrect_method_call
    else makes objects class (empty_of (kind_in (order classes class))) (λ (object : ℕ). a.Begin (b.New object))
class_answer c.Id classes objects class args =
    on (no_argument args) (λ (none : Unit {0}). gives objects (Str (class_name classes class)))
class_answer c.Superclass classes objects class args =
    on (no_argument args) (λ (none : Unit {0}). gives objects (option_map_or Ref (parent_of classes class) nil))
