-- The functions that give a place, or compare.
use Rattle.std.specs.Prelude.{◌≡◌, ℕ, ◌-◌, ◌<◌, Bool, true, false, ◌==◌, nat_le, ◌&&◌, not, max, if◌then◌else◌, List, length, slice_index_or, slice_index, Option, None, Some, unwrap_or, Result, Ok, Err}
use Rattle.std.specs.List.{list_any}
use Rattle.std.specs.Char.{to_ascii_uppercase}
use Rattle.rx_answers.specs.Answers.{at_place}
use Rattle.rx_cutfn.specs.Places.{first_place, last_place, begins_with, stands_at}

-- POS: the first place of the needle from a place on, which is 1 where it isn't given; 0 for an empty needle
unfoldable pub pos : List ℕ → List ℕ → Option ℕ → Result ℕ ℕ
pos needle text from =
    let place = unwrap_or from 1 in
    at_place place (Ok (if length needle == 0 then 0 else first_place (stands_at needle text) place (length text)))

-- LASTPOS: the last place of the needle, or 0 for an empty needle
unfoldable pub lastpos : List ℕ → List ℕ → ℕ
lastpos needle text = if length needle == 0 then 0 else last_place (stands_at needle text) (length text)

-- whether a byte is in a reference
abbrev pub is_in : List ℕ → ℕ → Bool
is_in reference byte = list_any (λ other. other == byte) reference

-- whether a table tells of each byte whether it is in a reference
abbrev pub TellsMembers : List Bool → List ℕ → Type 0
TellsMembers table reference = (byte : ℕ) → byte < 256 → slice_index_or table byte false ≡ is_in reference byte

-- whether bytes that are in the reference are sought, by a letter: M, or N for the other bytes, which is so where none is given
unfoldable pub seeks_members : Option ℕ → Option Bool
seeks_members option =
    let letter = to_ascii_uppercase (unwrap_or option 0x4E) in
    if letter == 0x4E then Some false else if letter == 0x4D then Some true else None

-- whether a byte is sought
abbrev pub is_sought : List ℕ → Bool → ℕ → Bool
is_sought reference members byte = if members then is_in reference byte else not (is_in reference byte)

-- the first place of a sought byte, from a place on; another letter raises 40
abbrev pub first_sought : List ℕ → List ℕ → ℕ → Option Bool → Result ℕ ℕ
first_sought text reference place (Some members) =
    at_place place (Ok (first_place (λ k. is_sought reference members (slice_index text (k - 1))) place (length text)))
first_sought text reference place None = Err 40

-- VERIFY: that, from place 1 on where none is given
unfoldable pub verify : List ℕ → List ℕ → Option ℕ → Option ℕ → Result ℕ ℕ
verify text reference option from = first_sought text reference (unwrap_or from 1) (seeks_members option)

-- COMPARE: the first place where the texts differ, the shorter one padded
unfoldable pub compare : List ℕ → List ℕ → ℕ → ℕ
compare a b pad =
    let byte_of = λ (text : List ℕ) (place : ℕ). slice_index_or text (place - 1) pad in
    first_place (λ place. not (byte_of a place == byte_of b place)) 1 (max (length a) (length b))

-- ABBREV: 1 for a front part of the text that has so many bytes, where the number is given, else 0
unfoldable pub is_abbreviation : List ℕ → List ℕ → Option ℕ → ℕ
is_abbreviation text short least =
    if begins_with text short && nat_le (unwrap_or least (length short)) (length short) then 1 else 0
