-- The numbers of the native methods that aren't done as the others are.
use Rattle.std.specs.Prelude.{ℕ, ◌==◌, ◌||◌, Bool, true, false, List, codes, unwrap_or}
use Rattle.rx_classes.specs.Natives.{array_class, class_class, message_class, native_method, object_class}

abbrev pub number_of : ℕ → Bool → List ℕ → ℕ
number_of class class_side name = unwrap_or (native_method class class_side name) 0

-- START of Object
abbrev pub start : ℕ
start = number_of object_class false (codes "START")

-- NEW of Class
abbrev pub new : ℕ
new = number_of class_class false (codes "NEW")

-- NEW of the class Array itself
abbrev pub new_array : ℕ
new_array = number_of array_class true (codes "NEW")

-- NEW of the class Message itself
abbrev pub new_message : ℕ
new_message = number_of message_class true (codes "NEW")

abbrev pub is_start : ℕ → Bool
is_start id = id == start

abbrev pub is_new : ℕ → Bool
is_new id = (id == new) || (id == new_array)
