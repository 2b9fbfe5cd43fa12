-- Objects by their numbers, what each is of, and what it holds.
use Rattle.std.specs.Prelude.{◌≡◌, ℕ, zero, suc, ◌-◌, ◌≤◌, ◌<◌, false, List, [], ◌∷◌, length, replicate, slice_get, slice_set, Option, None, Some}
use Rattle.rx_tree.specs.declared.value.Value.{Value}
use Rattle.rx_tree.specs.declared.value.Value.TheVariants.{Ref}
use Rattle.rx_tree.specs.declared.activity.Outcome.TheVariants.{Waiting}
use Rattle.rx_tree.specs.Object.{Object, Contents, Plain, ClassObject, Places, Line, Names, Message, Sending}
use Rattle.rx_heap.specs.declared.kind.Kind.{Kind}
use Rattle.rx_heap.specs.declared.kind.Kind.TheVariants as kind

-- the most objects
abbrev pub most_objects : ℕ
most_objects = 1048576

-- ---- kinds

-- the kind of an object that holds this
abbrev pub kind_by : Contents → Kind
kind_by Plain = kind.Plain
kind_by ClassObject = kind.ClassObject
kind_by (Places places) = kind.Array
kind_by (Line items) = kind.Queue
kind_by (Names entries) = kind.Directory
kind_by (Message sending) = kind.Message

-- A Message that sends nothing yet: its target is object 1, `.nil`.
abbrev pub no_sending : Sending
no_sending = record { target = Ref 1; name = []; args = []; used = false; outcome = Waiting; notify = [] }

-- what a new object of a kind holds
abbrev pub empty_of : Kind → Contents
empty_of kind.Plain = Plain
empty_of kind.ClassObject = ClassObject
empty_of kind.Array = Places []
empty_of kind.Queue = Line []
empty_of kind.Directory = Names []
empty_of kind.Message = Message no_sending

-- a new object of a class and a kind
abbrev pub new_object : ℕ → Kind → Object
new_object class of_kind = record { class = class; contents = empty_of of_kind }

-- ---- numbers

-- The objects before any is made, where this is the number of the last class: `.nil`, which is of class 2, Object, and the
-- classes, which are of class 3, Class.
abbrev pub first_objects : ℕ → List Object
first_objects classes = new_object 2 kind.Plain ∷ replicate (classes - 1) (new_object 3 kind.ClassObject)

-- The object of this number is there.
abbrev pub IsObject : List Object → ℕ → Type 0
IsObject objects number = (0 < number) × (number ≤ length objects)

-- the object of a number; numbers begin at 1, and 0 is none
abbrev pub object_at : List Object → ℕ → Option Object
object_at objects zero = None
object_at objects (suc place) = slice_get objects place

abbrev pub class_of : Option Object → ℕ
class_of None = 0
class_of (Some object) = object.class

abbrev pub contents_of : Option Object → Contents
contents_of None = Plain
contents_of (Some object) = object.contents

-- the class of the object of a number
abbrev pub class_at : List Object → ℕ → ℕ
class_at objects number = class_of (object_at objects number)

-- what the object of a number holds
abbrev pub contents_at : List Object → ℕ → Contents
contents_at objects number = contents_of (object_at objects number)

-- The object of this number is there, and is of this kind.
abbrev pub IsOfKind : List Object → ℕ → Kind → Type 0
IsOfKind objects number of_kind = IsObject objects number × (kind_by (contents_at objects number) ≡ of_kind)

abbrev pub with_contents_of : List Object → ℕ → Contents → Option Object → List Object
with_contents_of objects number contents None = objects
with_contents_of objects number contents (Some object) = slice_set objects (number - 1) (record object { contents = contents })

-- the objects once the one of a number holds this
abbrev pub with_contents : List Object → ℕ → Contents → List Object
with_contents objects number contents = with_contents_of objects number contents (object_at objects number)

-- ---- what the kinds hold

abbrev pub places_in : Contents → List (Option Value)
places_in (Places places) = places
places_in _ = []

abbrev pub items_in : Contents → List Value
items_in (Line items) = items
items_in _ = []

abbrev pub entries_in : Contents → List (List ℕ × Value)
entries_in (Names entries) = entries
entries_in _ = []

-- an Array's places
abbrev pub places_at : List Object → ℕ → List (Option Value)
places_at objects array = places_in (contents_at objects array)

-- a Queue's items, the front first
abbrev pub items_at : List Object → ℕ → List Value
items_at objects queue = items_in (contents_at objects queue)

-- a Directory's names with their values, in their order
abbrev pub entries_at : List Object → ℕ → List (List ℕ × Value)
entries_at objects directory = entries_in (contents_at objects directory)
