-- Which tokens bodies are written with: labels and clauses up to a directive or the end, each where it may stand.
use Rattle.std.specs.Prelude.{◌≡◌, ◌≢◌, ℕ, Bool, true, false, List, [], ◌∷◌, Some, codes}
use Rattle.rx_tree.specs.declared.name.Name.{Name}
use Rattle.rx_tree.specs.declared.token.Token.{Token}
use Rattle.rx_tree.specs.declared.token.TokenKind.{TokenKind}
use Rattle.rx_tree.specs.declared.token.TokenKind.TheVariants as k
use Rattle.rx_tree.specs.Operators.{Tokens}
use Rattle.rx_clause_tree.specs.declared.simple.Simple.{Simple}
use Rattle.rx_clause_tree.specs.declared.simple.Simple.TheVariants as c
use Rattle.rx_clause_tree.specs.declared.clause.Before.{Before}
use Rattle.rx_clause_tree.specs.declared.clause.Before.TheVariants.{Nothing, Labels, Clauses}
use Rattle.rx_clause_tree.specs.declared.clause.Clause.{Clause}
use Rattle.rx_clause_tree.specs.declared.clause.Body.{Body}
use Rattle.rx_clause_tree.specs.declared.clause.ClauseKind.TheVariants as x
use Rattle.rx_clause_tree.specs.ClauseWords.{word, behind_end}
use Rattle.rx_clause_tree.specs.Assignments.{IsLabel}
use Rattle.rx_clause_tree.specs.Instructions.{AreNames}
use Rattle.rx_clause_tree.specs.Clauses.{BeginsOther, IsClause, clause}

-- the most blocks that stand inside one another
abbrev pub most_blocks : ℕ
most_blocks = 250

-- ---- EXPOSE and PROCEDURE

pub data IsExpose : Simple → Tokens → Tokens → Type 0 where
  -- EXPOSE names
  expose : {names : List Name} {tokens rest : Tokens} (t : Token) → t.kind ≡ word (codes "EXPOSE") → AreNames names tokens rest → names ≢ []
      → IsExpose (c.Expose names) (t ∷ tokens) rest

pub data IsProcedure : Simple → Tokens → Tokens → Type 0 where
  -- PROCEDURE
  procedure : {tokens rest : Tokens} (t : Token) → t.kind ≡ word (codes "PROCEDURE") → behind_end tokens ≡ Some rest
      → IsProcedure (c.Procedure []) (t ∷ tokens) rest
  -- PROCEDURE EXPOSE names
  procedure_expose : {names : List Name} {tokens rest : Tokens} (t u : Token) → t.kind ≡ word (codes "PROCEDURE")
      → u.kind ≡ word (codes "EXPOSE") → AreNames names tokens rest → names ≢ [] → IsProcedure (c.Procedure names) (t ∷ (u ∷ tokens)) rest

-- ---- bodies

abbrev pub is_two_colons : TokenKind → Bool
is_two_colons k.TwoColons = true
is_two_colons _ = false

-- where a body ends: at a directive, or with the tokens
abbrev pub ends_body : Tokens → Bool
ends_body [] = true
ends_body (t ∷ rest) = is_two_colons t.kind

-- Labels stand in no other clause. EXPOSE is the first clause of its body, and PROCEDURE stands directly behind a label.
pub data AreBodyClauses : Before → List Clause → Tokens → Tokens → Type 0 where
  no_body_clause : {before : Before} {rest : Tokens} → ends_body rest ≡ true → AreBodyClauses before [] rest rest
  label : {before : Before} {one : Simple} {clauses : List Clause} {tokens behind rest : Tokens} (t : Token) → IsLabel one (t ∷ tokens) behind
      → AreBodyClauses Labels clauses behind rest → AreBodyClauses before (clause t.line (x.Simple one) ∷ clauses) (t ∷ tokens) rest
  expose : {one : Simple} {clauses : List Clause} {tokens behind rest : Tokens} (t : Token) → BeginsOther (t ∷ tokens)
      → IsExpose one (t ∷ tokens) behind → AreBodyClauses Clauses clauses behind rest
      → AreBodyClauses Nothing (clause t.line (x.Simple one) ∷ clauses) (t ∷ tokens) rest
  procedure : {one : Simple} {clauses : List Clause} {tokens behind rest : Tokens} (t : Token) → BeginsOther (t ∷ tokens)
      → IsProcedure one (t ∷ tokens) behind → AreBodyClauses Clauses clauses behind rest
      → AreBodyClauses Labels (clause t.line (x.Simple one) ∷ clauses) (t ∷ tokens) rest
  other : {before : Before} {first : Clause} {clauses : List Clause} {tokens behind rest : Tokens} → ends_body tokens ≡ false
      → IsClause [] most_blocks first tokens behind → AreBodyClauses Clauses clauses behind rest
      → AreBodyClauses before (first ∷ clauses) tokens rest

-- The tokens begin with those of a body, and the rest begins with a directive or is empty.
pub data IsBody : Body → Tokens → Tokens → Type 0 where
  body : {clauses : List Clause} {tokens rest : Tokens} → AreBodyClauses Nothing clauses tokens rest → IsBody (record { clauses = clauses }) tokens rest
