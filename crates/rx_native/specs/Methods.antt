-- Which native method a class has under which name, and what a call of it comes to.
use Rattle.std.specs.Prelude.{◌≡◌, ℕ, ◌==◌, Bool, is_some, if◌then◌else◌, List, [], ◌∷◌, ◌++◌, codes, map, replicate, slice_get, Option, Some, None, option_and_then}
use Rattle.rx_tree.specs.Object.{Object}
use Rattle.rx_tree.specs.declared.value.Value.{Value}
use Rattle.rx_tree.specs.declared.value.Value.TheVariants.{Str, Ref}
use Rattle.rx_tree.specs.declared.class.ClassDef.{ClassDef}
use Rattle.rx_vars.specs.Tables.{look_up}
use Rattle.rx_builtin.specs.declared.facts.Facts.{Facts}
use Rattle.rx_classes.specs.Natives.{NativeMethod, native_methods, object_class, class_class, string_class, array_class, queue_class, directory_class}
use Rattle.rx_native.specs.declared.method.Method.{Method}
use Rattle.rx_native.specs.declared.method.Method.TheVariants as m
use Rattle.rx_native.specs.declared.object.OfObject.TheVariants as o
use Rattle.rx_native.specs.declared.class.OfClass.TheVariants as c
use Rattle.rx_native.specs.declared.string.OfString.TheVariants as s
use Rattle.rx_native.specs.declared.string.OfText.{OfText}
use Rattle.rx_native.specs.declared.string.OfText.TheVariants as t
use Rattle.rx_native.specs.declared.string.OfWords.{OfWords}
use Rattle.rx_native.specs.declared.string.OfWords.TheVariants as w
use Rattle.rx_native.specs.declared.string.OfValue.{OfValue}
use Rattle.rx_native.specs.declared.string.OfValue.TheVariants as v
use Rattle.rx_native.specs.declared.array.OfArrayClass.TheVariants as ac
use Rattle.rx_native.specs.declared.array.OfArray.TheVariants as a
use Rattle.rx_native.specs.declared.queue.OfQueue.TheVariants as q
use Rattle.rx_native.specs.declared.directory.OfDirectory.TheVariants as d
use Rattle.rx_native.specs.Outcomes.{Outcome}
use Rattle.rx_native.specs.Arguments.{Arguments}
use Rattle.rx_native.specs.ObjectMethods.{object_answer}
use Rattle.rx_native.specs.ClassMethods.{class_answer}
use Rattle.rx_native.specs.StringMethods.{string_answer}
use Rattle.rx_native.specs.ArrayMethods.{array_answer, array_class_answer}
use Rattle.rx_native.specs.QueueMethods.{queue_answer}
use Rattle.rx_native.specs.DirectoryMethods.{directory_answer}

-- ---- the methods by their names

-- methods with their names
abbrev pub Table : Type 0
Table = List (List ℕ × Method)

abbrev pub of_object : Table
of_object =
    (codes "=", m.Object o.Same) ∷ (codes "==", m.Object o.Same) ∷ (codes "\\=", m.Object o.Different) ∷
    (codes "\\==", m.Object o.Different) ∷ (codes "CLASS", m.Object o.Class) ∷ (codes "STRING", m.Object o.String) ∷
    (codes "HASMETHOD", m.Object o.Hasmethod) ∷ (codes "ISA", m.Object o.Isa) ∷ (codes "START", m.Object o.Start) ∷
    (codes "INIT", m.Object o.Init) ∷ []

abbrev pub of_class : Table
of_class = (codes "NEW", m.Class c.New) ∷ (codes "ID", m.Class c.Id) ∷ (codes "SUPERCLASS", m.Class c.Superclass) ∷ []

abbrev pub text : OfText → Method
text method = m.String (s.Text method)

abbrev pub words : OfWords → Method
words method = m.String (s.Words method)

abbrev pub value : OfValue → Method
value method = m.String (s.Value method)

abbrev pub of_string : Table
of_string =
    (codes "LENGTH", text t.Length) ∷ (codes "SUBSTR", text t.Substr) ∷ (codes "LEFT", text t.Left) ∷ (codes "RIGHT", text t.Right) ∷
    (codes "CENTER", text t.Center) ∷ (codes "STRIP", text t.Strip) ∷ (codes "REVERSE", text t.Reverse) ∷
    (codes "COPIES", text t.Copies) ∷ (codes "DELSTR", text t.Delstr) ∷ (codes "TRANSLATE", text t.Translate) ∷
    (codes "VERIFY", text t.Verify) ∷ (codes "COMPARE", text t.Compare) ∷ (codes "ABBREV", text t.Abbrev) ∷
    (codes "UPPER", text t.Upper) ∷ (codes "LOWER", text t.Lower) ∷ (codes "WORD", words w.Word) ∷ (codes "WORDS", words w.Words) ∷
    (codes "WORDINDEX", words w.Wordindex) ∷ (codes "WORDLENGTH", words w.Wordlength) ∷ (codes "SUBWORD", words w.Subword) ∷
    (codes "DELWORD", words w.Delword) ∷ (codes "SPACE", words w.Space) ∷ (codes "D2X", value v.D2x) ∷ (codes "X2D", value v.X2d) ∷
    (codes "C2X", value v.C2x) ∷ (codes "X2C", value v.X2c) ∷ (codes "B2X", value v.B2x) ∷ (codes "X2B", value v.X2b) ∷
    (codes "C2D", value v.C2d) ∷ (codes "D2C", value v.D2c) ∷ (codes "ABS", value v.Abs) ∷ (codes "SIGN", value v.Sign) ∷
    (codes "DATATYPE", value v.Datatype) ∷ (codes "POS", text t.Pos) ∷ (codes "LASTPOS", text t.Lastpos) ∷
    (codes "COUNTSTR", text t.Countstr) ∷ (codes "WORDPOS", words w.Wordpos) ∷ (codes "INSERT", text t.Insert) ∷
    (codes "OVERLAY", text t.Overlay) ∷ (codes "CHANGESTR", text t.Changestr) ∷ []

abbrev pub of_array_class : Table
of_array_class = (codes "NEW", m.ArrayClass ac.New) ∷ (codes "OF", m.ArrayClass ac.Of) ∷ []

abbrev pub of_array : Table
of_array =
    (codes "AT", m.Array a.At) ∷ (codes "[]", m.Array a.At) ∷ (codes "PUT", m.Array a.Put) ∷ (codes "[]=", m.Array a.Put) ∷
    (codes "APPEND", m.Array a.Append) ∷ (codes "REMOVE", m.Array a.Remove) ∷ (codes "HASINDEX", m.Array a.Hasindex) ∷
    (codes "ITEMS", m.Array a.Items) ∷ (codes "SIZE", m.Array a.Size) ∷ (codes "MAKEARRAY", m.Array a.Makearray) ∷ []

abbrev pub of_queue : Table
of_queue =
    (codes "QUEUE", m.Queue q.Queue) ∷ (codes "PUSH", m.Queue q.Push) ∷ (codes "PULL", m.Queue q.Pull) ∷
    (codes "PEEK", m.Queue q.Peek) ∷ (codes "ITEMS", m.Queue q.Items) ∷ (codes "AT", m.Queue q.At) ∷
    (codes "[]", m.Queue q.At) ∷ (codes "MAKEARRAY", m.Queue q.Makearray) ∷ []

abbrev pub of_directory : Table
of_directory =
    (codes "AT", m.Directory d.At) ∷ (codes "[]", m.Directory d.At) ∷ (codes "PUT", m.Directory d.Put) ∷
    (codes "[]=", m.Directory d.Put) ∷ (codes "REMOVE", m.Directory d.Remove) ∷ (codes "HASINDEX", m.Directory d.Hasindex) ∷
    (codes "ITEMS", m.Directory d.Items) ∷ (codes "MAKEARRAY", m.Directory d.Makearray) ∷
    (codes "UNKNOWN", m.Directory d.Unknown) ∷ []

-- the methods of a class's instances
abbrev pub of_instances : ℕ → Table
of_instances class =
    if class == object_class then of_object
    else if class == class_class then of_class
    else if class == string_class then of_string
    else if class == array_class then of_array
    else if class == queue_class then of_queue
    else if class == directory_class then of_directory
    else []

-- those of the class itself
abbrev pub of_class_side : ℕ → Table
of_class_side class = if class == array_class then of_array_class else []

-- What a native method is, by its class, its side and its name. The methods of Message aren't here.
abbrev pub method_of : NativeMethod → Option Method
method_of native = look_up (if native.class_side then of_class_side native.class else of_instances native.class) native.name

-- the native method of a number
abbrev pub method_numbered : ℕ → Option Method
method_numbered id = option_and_then method_of (slice_get native_methods id)

-- whether a native method is one of these
abbrev pub is_built : ℕ → Bool
is_built id = is_some (method_numbered id)

-- A list has what the native methods are, in their order, but for the last six, which are those of Message.
abbrev pub IsTable : List Method → Type 0
IsTable table = map Some table ++ replicate 6 None ≡ map method_of native_methods

-- ---- what a call comes to

-- the number of an object that a value is
abbrev pub object_in : Value → ℕ
object_in (Str text) = 0
object_in (Ref object) = object

abbrev pub answer_of : Method → Facts → List ClassDef → List Object → Value → Arguments → Outcome
answer_of (m.Object method) facts classes objects target args = object_answer method classes objects target args
answer_of (m.Class method) facts classes objects target args = class_answer method classes objects (object_in target) args
answer_of (m.String method) facts classes objects target args = string_answer method facts objects target args
answer_of (m.ArrayClass method) facts classes objects target args = array_class_answer method objects (object_in target) args
answer_of (m.Array method) facts classes objects target args = array_answer method objects (object_in target) args
answer_of (m.Queue method) facts classes objects target args = queue_answer method objects (object_in target) args
answer_of (m.Directory method) facts classes objects target args = directory_answer method objects (object_in target) args
