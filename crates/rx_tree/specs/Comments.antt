-- Comments.
use Rattle.std.specs.Prelude.{◌≡◌, ℕ, Bool, true, false, ◌==◌, ◌&&◌, ◌||◌, not, List, [], ◌∷◌, ◌++◌, IsTrue}
use Rattle.std.specs.List.{list_all}
use Rattle.rx_tree.specs.Letters.{is_feed, begins}

-- what stands in a comment behind the mark that opens it: the mark that closes it, or a byte and more, or a comment in it
-- and more
pub data Inside : Type 0 where
  Closed : Inside
  Byte : ℕ → Inside → Inside
  Nested : Inside → Inside → Inside

abbrev pub inside_bytes : Inside → List ℕ
inside_bytes Closed = 42 ∷ (47 ∷ [])
inside_bytes (Byte b more) = b ∷ inside_bytes more
inside_bytes (Nested inner more) = 47 ∷ (42 ∷ (inside_bytes inner ++ inside_bytes more))

abbrev pub is_opening : ℕ → ℕ → Bool
is_opening b c = (b == 47) && (c == 42)

abbrev pub is_closing : ℕ → ℕ → Bool
is_closing b c = (b == 42) && (c == 47)

-- No mark begins at a byte of a comment.
abbrev pub IsInside : Inside → Type 0
IsInside Closed = Unit {0}
IsInside (Byte b more) = (begins (λ c. is_opening b c || is_closing b c) (inside_bytes more) ≡ false) × IsInside more
IsInside (Nested inner more) = IsInside inner × IsInside more

-- A comment goes from the mark that opens it to the one that closes it, and may have comments in it.
pub record IsComment (written : List ℕ) : Type 0 where
  pub inside : Inside
  pub is : written ≡ 47 ∷ (42 ∷ inside_bytes inside)
  pub well : IsInside inside

-- whether a line ends in front of these bytes
abbrev pub is_line_end : List ℕ → Bool
is_line_end [] = true
is_line_end (b ∷ bytes) = is_feed b

-- A line comment goes from two hyphens to the end of the line.
pub record IsLineComment (written rest : List ℕ) : Type 0 where
  pub text : List ℕ
  pub is : written ≡ 45 ∷ (45 ∷ text)
  pub one_line : IsTrue (list_all (λ b. not (is_feed b)) text)
  pub ends : IsTrue (is_line_end rest)
