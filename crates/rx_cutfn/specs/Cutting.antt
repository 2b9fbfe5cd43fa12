-- The functions that cut, pad and join texts.
use Rattle.std.specs.Prelude.{ℕ, ◌+◌, ◌-◌, ◌/◌, List, [], ◌++◌, length, take, drop, replicate, reverse, Option, None, Some, unwrap_or, Result}
use Rattle.std.specs.List.{concat}
use Rattle.rx_answers.specs.Answers.{within_limit, at_place}

-- a text made so many bytes long: the first of it, with pads behind it
abbrev pub fitted : ℕ → ℕ → List ℕ → List ℕ
fitted width pad text = take width (text ++ replicate width pad)

-- the same from its end: the last of it, with pads in front of it
abbrev pub fitted_at_end : ℕ → ℕ → List ℕ → List ℕ
fitted_at_end width pad text = drop (length text) (replicate width pad ++ text)

-- the same in the middle: half of what is missing is padded, or half of what is too much is cut, in front; what is left of
-- that, with an odd byte, on the right
abbrev pub centered : ℕ → ℕ → List ℕ → List ℕ
centered width pad text =
    let missing = width - length text in
    let excess = length text - width in
    fitted width pad (replicate (missing / 2) pad ++ drop (excess / 2) text)

-- LEFT
unfoldable pub left : List ℕ → ℕ → ℕ → Result (List ℕ) ℕ
left text width pad = within_limit (fitted width pad text)

-- RIGHT
unfoldable pub right : List ℕ → ℕ → ℕ → Result (List ℕ) ℕ
right text width pad = within_limit (fitted_at_end width pad text)

-- CENTER
unfoldable pub center : List ℕ → ℕ → ℕ → Result (List ℕ) ℕ
center text width pad = within_limit (centered width pad text)

-- SUBSTR: the bytes from a place on, all of them or so many, padded
abbrev pub bytes_from : List ℕ → Option ℕ → ℕ → List ℕ
bytes_from rest None pad = rest
bytes_from rest (Some width) pad = fitted width pad rest

unfoldable pub substr : List ℕ → ℕ → Option ℕ → ℕ → Result (List ℕ) ℕ
substr text from width pad = at_place from (within_limit (bytes_from (drop (from - 1) text) width pad))

-- DELSTR: the bytes before a place, and those behind so many from it on, or none
abbrev pub bytes_behind : List ℕ → Option ℕ → List ℕ
bytes_behind rest None = []
bytes_behind rest (Some width) = drop width rest

unfoldable pub delstr : List ℕ → ℕ → Option ℕ → Result (List ℕ) ℕ
delstr text from width =
    at_place from (within_limit (take (from - 1) text ++ bytes_behind (drop (from - 1) text) width))

-- INSERT: the new text behind so many bytes, which are padded; at 0 and at its own length, where these aren't given
unfoldable pub insert : List ℕ → List ℕ → Option ℕ → Option ℕ → ℕ → Result (List ℕ) ℕ
insert new text at width pad =
    let front = unwrap_or at 0 in
    let new_width = unwrap_or width (length new) in
    within_limit (fitted front pad text ++ (fitted new_width pad new ++ drop front text))

-- OVERLAY: the new text over the bytes from a place on, before which the text is padded; at 1 and at its own length, where
-- these aren't given
unfoldable pub overlay : List ℕ → List ℕ → Option ℕ → Option ℕ → ℕ → Result (List ℕ) ℕ
overlay new text at width pad =
    let place = unwrap_or at 1 in
    let front = place - 1 in
    let new_width = unwrap_or width (length new) in
    at_place place (within_limit (fitted front pad text ++ (fitted new_width pad new ++ drop (front + new_width) text)))

-- COPIES
unfoldable pub copies : List ℕ → ℕ → Result (List ℕ) ℕ
copies text count = within_limit (concat (replicate count text))

-- REVERSE
unfoldable pub turned : List ℕ → Result (List ℕ) ℕ
turned text = within_limit (reverse text)
