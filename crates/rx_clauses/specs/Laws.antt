-- What holds of bodies and their tokens.
use Rattle.std.specs.Prelude.{◌≡◌, ◌↔◌, Ok}
use Rattle.rx_tree.specs.Operators.{Tokens}
use Rattle.rx_clause_tree.specs.declared.clause.Body.{Body}
use Rattle.rx_clause_tree.specs.Bodies.{IsBody}
use Rattle.rx_clauses.specs.Reader.{body}

-- A body fits exactly where the reader reads it.
abbrev pub ReaderLaw : Type 0
ReaderLaw = (tokens : Tokens) (found : Body) (rest : Tokens) → IsBody found tokens rest ↔ (body tokens ≡ Ok (found, rest))

-- At most one body fits.
abbrev pub AtMostOneFits : Type 0
AtMostOneFits = (tokens : Tokens) (found other : Body) (rest others : Tokens) → IsBody found tokens rest → IsBody other tokens others
    → (found ≡ other) × (rest ≡ others)
