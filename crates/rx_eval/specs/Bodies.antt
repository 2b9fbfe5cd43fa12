-- What is fixed for a body.
use Rattle.std.specs.Prelude.{ℕ, List}

-- Names with numbers: the labels of the body, and the objects that environment symbols name.
pub record Body : Type 0 where
  pub labels : List (List ℕ × ℕ)
  pub objects : List (List ℕ × ℕ)
