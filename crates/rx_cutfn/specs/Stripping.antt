-- STRIP.
use Rattle.std.specs.Prelude.{ℕ, ◌==◌, Bool, if◌then◌else◌, List, [], ◌∷◌, reverse, Option, None, Some, unwrap_or, Result, Err}
use Rattle.std.specs.Char.{to_ascii_uppercase}
use Rattle.rx_text.specs.Blanks.{is_blank}
use Rattle.rx_answers.specs.Answers.{within_limit}

-- whether a byte is one to strip: the byte that is given, or else a blank
abbrev pub is_outer : Option ℕ → ℕ → Bool
is_outer None byte = is_blank byte
is_outer (Some given) byte = byte == given

-- a text from its first other byte on
abbrev pub without_leading : Option ℕ → List ℕ → List ℕ
without_leading given [] = []
without_leading given (byte ∷ rest) = if is_outer given byte then without_leading given rest else byte ∷ rest

-- a text up to its last other byte: the same, read from the end
abbrev pub without_trailing : Option ℕ → List ℕ → List ℕ
without_trailing given text = reverse (without_leading given (reverse text))

-- STRIP: both sides (B), which is so where no letter is given, or the leading (L) or the trailing one (T)
unfoldable pub strip : List ℕ → Option ℕ → Option ℕ → Result (List ℕ) ℕ
strip text option given =
    let letter = to_ascii_uppercase (unwrap_or option 0x42) in
    if letter == 0x42 then within_limit (without_trailing given (without_leading given text))
    else if letter == 0x4C then within_limit (without_leading given text)
    else if letter == 0x54 then within_limit (without_trailing given text)
    else Err 40
