-- The functions that give a text with other bytes.
use Rattle.std.specs.Prelude.{◌≡◌, ℕ, ◌<◌, ◌==◌, ◌&&◌, is_none, if◌then◌else◌, List, [], map, slice_index, slice_index_or, position, Option, None, Some, unwrap_or, Result}
use Rattle.std.specs.List.{range_with_len}
use Rattle.std.specs.Str.{str_to_ascii_uppercase, str_to_ascii_lowercase}
use Rattle.rx_answers.specs.Answers.{within_limit}

-- UPPER
unfoldable pub upper : List ℕ → Result (List ℕ) ℕ
upper text = within_limit (str_to_ascii_uppercase text)

-- LOWER
unfoldable pub lower : List ℕ → Result (List ℕ) ℕ
lower text = within_limit (str_to_ascii_lowercase text)

-- what stands at a place of the output table, or the pad
abbrev pub byte_at : List ℕ → ℕ → ℕ → Option ℕ → ℕ
byte_at output pad byte None = byte
byte_at output pad byte (Some place) = slice_index_or output place pad

-- a byte that is in the input table becomes the byte of the output table at its first place there
abbrev pub translated : List ℕ → List ℕ → ℕ → ℕ → ℕ
translated output input pad byte = byte_at output pad byte (position (λ other. other == byte) input)

-- whether a table tells of each byte what it becomes
abbrev pub IsTable : List ℕ → List ℕ → List ℕ → ℕ → Type 0
IsTable table output input pad =
    (byte : ℕ) → byte < 256 → slice_index table byte ≡ translated output input pad byte

-- all bytes in order
abbrev pub all_bytes : List ℕ
all_bytes = range_with_len 0 256

-- TRANSLATE: upper case, where no table and no pad is given; else an output table that isn't given is empty, an input table
-- that isn't given has all bytes, and a pad that isn't given is a blank
unfoldable pub translate : List ℕ → Option (List ℕ) → Option (List ℕ) → Option ℕ → Result (List ℕ) ℕ
translate text output input pad =
    if is_none output && (is_none input && is_none pad) then upper text
    else within_limit (map (translated (unwrap_or output []) (unwrap_or input all_bytes) (unwrap_or pad 0x20)) text)
