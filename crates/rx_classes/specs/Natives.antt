-- The native classes and their methods.
use Rattle.std.specs.Prelude.{ℕ, ◌==◌, ◌&&◌, Bool, true, false, not, List, [], ◌∷◌, ◌++◌, codes, map, position, Option}
use Rattle.std.specs.Str.{bytes_eq}

-- Classes have the object numbers from 2: the native ones, in this order, and then those of the package, from 9.
abbrev pub native_names : List (List ℕ)
native_names =
    codes "OBJECT" ∷ codes "CLASS" ∷ codes "STRING" ∷ codes "ARRAY" ∷ codes "QUEUE" ∷ codes "DIRECTORY" ∷ codes "MESSAGE" ∷ []

abbrev pub object_class : ℕ
object_class = 2

abbrev pub class_class : ℕ
class_class = 3

abbrev pub string_class : ℕ
string_class = 4

abbrev pub array_class : ℕ
array_class = 5

abbrev pub queue_class : ℕ
queue_class = 6

abbrev pub directory_class : ℕ
directory_class = 7

abbrev pub message_class : ℕ
message_class = 8

abbrev pub first_class : ℕ
first_class = 9

-- a native method: its class, whether it stands on the class's own side, and its name
pub record NativeMethod : Type 0 where
  pub class : ℕ
  pub class_side : Bool
  pub name : List ℕ

abbrev pub of_instances : ℕ → List (List ℕ) → List NativeMethod
of_instances class names = map (λ (name : List ℕ). record { class = class; class_side = false; name = name }) names

abbrev pub of_class : ℕ → List (List ℕ) → List NativeMethod
of_class class names = map (λ (name : List ℕ). record { class = class; class_side = true; name = name }) names

abbrev pub object_methods : List (List ℕ)
object_methods =
    codes "=" ∷ codes "==" ∷ codes "\\=" ∷ codes "\\==" ∷ codes "CLASS" ∷ codes "STRING" ∷ codes "HASMETHOD" ∷ codes "ISA" ∷
    codes "START" ∷ codes "INIT" ∷ []

abbrev pub class_methods : List (List ℕ)
class_methods = codes "NEW" ∷ codes "ID" ∷ codes "SUPERCLASS" ∷ []

-- the built-in functions with the receiver as their first argument, and those with the receiver as their second
abbrev pub string_methods : List (List ℕ)
string_methods =
    codes "LENGTH" ∷ codes "SUBSTR" ∷ codes "LEFT" ∷ codes "RIGHT" ∷ codes "CENTER" ∷ codes "STRIP" ∷ codes "REVERSE" ∷
    codes "COPIES" ∷ codes "DELSTR" ∷ codes "TRANSLATE" ∷ codes "VERIFY" ∷ codes "COMPARE" ∷ codes "ABBREV" ∷ codes "UPPER" ∷
    codes "LOWER" ∷ codes "WORD" ∷ codes "WORDS" ∷ codes "WORDINDEX" ∷ codes "WORDLENGTH" ∷ codes "SUBWORD" ∷ codes "DELWORD" ∷
    codes "SPACE" ∷ codes "D2X" ∷ codes "X2D" ∷ codes "C2X" ∷ codes "X2C" ∷ codes "B2X" ∷ codes "X2B" ∷ codes "C2D" ∷
    codes "D2C" ∷ codes "ABS" ∷ codes "SIGN" ∷ codes "DATATYPE" ∷
    codes "POS" ∷ codes "LASTPOS" ∷ codes "COUNTSTR" ∷ codes "WORDPOS" ∷ codes "INSERT" ∷ codes "OVERLAY" ∷ codes "CHANGESTR" ∷ []

abbrev pub array_methods : List (List ℕ)
array_methods =
    codes "AT" ∷ codes "[]" ∷ codes "PUT" ∷ codes "[]=" ∷ codes "APPEND" ∷ codes "REMOVE" ∷ codes "HASINDEX" ∷ codes "ITEMS" ∷
    codes "SIZE" ∷ codes "MAKEARRAY" ∷ []

abbrev pub queue_methods : List (List ℕ)
queue_methods =
    codes "QUEUE" ∷ codes "PUSH" ∷ codes "PULL" ∷ codes "PEEK" ∷ codes "ITEMS" ∷ codes "AT" ∷ codes "[]" ∷ codes "MAKEARRAY" ∷ []

abbrev pub directory_methods : List (List ℕ)
directory_methods =
    codes "AT" ∷ codes "[]" ∷ codes "PUT" ∷ codes "[]=" ∷ codes "REMOVE" ∷ codes "HASINDEX" ∷ codes "ITEMS" ∷ codes "MAKEARRAY" ∷
    codes "UNKNOWN" ∷ []

abbrev pub message_methods : List (List ℕ)
message_methods = codes "SEND" ∷ codes "START" ∷ codes "RESULT" ∷ codes "COMPLETED" ∷ codes "NOTIFY" ∷ []

-- All native methods. The number of each is its place, from 0.
abbrev pub native_methods : List NativeMethod
native_methods =
    of_instances object_class object_methods ++ (of_instances class_class class_methods ++ (of_instances string_class string_methods ++
    (of_class array_class (codes "NEW" ∷ codes "OF" ∷ []) ++ (of_instances array_class array_methods ++
    (of_instances queue_class queue_methods ++ (of_instances directory_class directory_methods ++
    (of_class message_class (codes "NEW" ∷ []) ++ of_instances message_class message_methods)))))))

abbrev pub same_side : Bool → Bool → Bool
same_side true side = side
same_side false side = not side

abbrev pub is_native : ℕ → Bool → List ℕ → NativeMethod → Bool
is_native class class_side name method =
    (method.class == class) && (same_side method.class_side class_side && bytes_eq method.name name)

-- the number of the native method of a class, a side and a name
abbrev pub native_method : ℕ → Bool → List ℕ → Option ℕ
native_method class class_side name = position (is_native class class_side name) native_methods
