-- The places of a needle from the left without overlap, counted and replaced.
use Rattle.std.specs.Prelude.{ℕ, zero, suc, ◌-◌, ◌==◌, if◌then◌else◌, List, [], ◌∷◌, ◌++◌, length, Result, flat_map}
use Rattle.rx_answers.specs.Answers.{within_limit}
use Rattle.rx_cutfn.specs.Places.{begins_with}

-- a byte in front of the first piece
abbrev pub with_byte : ℕ → List (List ℕ) → List (List ℕ)
with_byte byte [] = (byte ∷ []) ∷ []
with_byte byte (piece ∷ pieces) = (byte ∷ piece) ∷ pieces

-- the pieces that the needle cuts a text into, where the first `skip` bytes of the text belong to a needle
unfoldable pub pieces_behind : List ℕ → ℕ → List ℕ → List (List ℕ)
pieces_behind needle skip [] = [] ∷ []
pieces_behind needle (suc skip) (byte ∷ rest) = pieces_behind needle skip rest
pieces_behind needle zero (byte ∷ rest) =
    if begins_with (byte ∷ rest) needle then [] ∷ pieces_behind needle (length needle - 1) rest
    else with_byte byte (pieces_behind needle zero rest)

-- the pieces of a text between the needle's places; an empty needle has no place
abbrev pub pieces : List ℕ → List ℕ → List (List ℕ)
pieces needle text = if length needle == 0 then text ∷ [] else pieces_behind needle 0 text

-- the pieces with another text between each two
abbrev pub joined : List ℕ → List (List ℕ) → List ℕ
joined between [] = []
joined between (piece ∷ pieces) = piece ++ flat_map (λ next. between ++ next) pieces

-- CHANGESTR
unfoldable pub changestr : List ℕ → List ℕ → List ℕ → Result (List ℕ) ℕ
changestr needle text new = within_limit (joined new (pieces needle text))

-- COUNTSTR: each place is between two pieces
unfoldable pub countstr : List ℕ → List ℕ → ℕ
countstr needle text = length (pieces needle text) - 1
