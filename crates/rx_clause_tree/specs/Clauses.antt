-- Which tokens clauses are written with. Each fact says that the tokens begin with those of a clause, and which rest stands
-- behind it; that the clause may stand inside these loops; and how many blocks may stand inside one another in it.
use Rattle.std.specs.Prelude.{◌≡◌, ◌≢◌, ℕ, suc, Bool, true, false, ◌&&◌, ◌||◌, if◌then◌else◌, List, [], ◌∷◌, ◌++◌, Option, Some, None, codes}
use Rattle.rx_tree.specs.declared.token.Token.{Token}
use Rattle.rx_tree.specs.declared.token.TokenKind.{TokenKind}
use Rattle.rx_tree.specs.declared.expr.Expr.{Expr}
use Rattle.rx_tree.specs.declared.stops.Stops.TheVariants as s
use Rattle.rx_tree.specs.Operators.{Tokens}
use Rattle.rx_tree.specs.Expressions.{Fits}
use Rattle.rx_clause_tree.specs.declared.simple.Simple.{Simple}
use Rattle.rx_clause_tree.specs.declared.simple.Simple.TheVariants as c
use Rattle.rx_clause_tree.specs.declared.instruction.Forward.{Forward}
use Rattle.rx_clause_tree.specs.declared.template.Parse.{Parse}
use Rattle.rx_clause_tree.specs.declared.loops.Header.{Header}
use Rattle.rx_clause_tree.specs.declared.loops.Test.{Test}
use Rattle.rx_clause_tree.specs.declared.clause.Clause.{Clause, roll-Clause}
use Rattle.rx_clause_tree.specs.declared.clause.ClauseKind.{ClauseKind}
use Rattle.rx_clause_tree.specs.declared.clause.ClauseKind.TheVariants as x
use Rattle.rx_clause_tree.specs.declared.clause.When.{When, roll-When}
use Rattle.rx_clause_tree.specs.ClauseWords.{word, is_word, begins_word, is_clause_end, behind_end, behind_word, begins_assignment, begins_label, begins_keyword}
use Rattle.rx_clause_tree.specs.Assignments.{IsAssignment, IsSendAssign, BeginsNoSendAssign, IsMessage}
use Rattle.rx_clause_tree.specs.Instructions.{IsPlainInstruction}
use Rattle.rx_clause_tree.specs.Forwards.{IsForward}
use Rattle.rx_clause_tree.specs.Templates.{IsParse}
use Rattle.rx_clause_tree.specs.Loops.{Loops, IsHeader, IsTest, IsLoopInstruction, control_of, behind_block}

-- ---- instructions that hold no other clause

pub data IsSimple : Loops → Simple → Tokens → Tokens → Type 0 where
  plain : {loops : Loops} {simple : Simple} {tokens rest : Tokens} → IsPlainInstruction simple tokens rest → IsSimple loops simple tokens rest
  looping : {loops : Loops} {simple : Simple} {tokens rest : Tokens} → IsLoopInstruction loops simple tokens rest → IsSimple loops simple tokens rest
  forwarding : {loops : Loops} {forward : Forward} {tokens rest : Tokens} → IsForward forward tokens rest → IsSimple loops (c.Forward forward) tokens rest
  parsing : {loops : Loops} {parse : Parse} {tokens rest : Tokens} → IsParse parse tokens rest → IsSimple loops (c.Parse parse) tokens rest

-- ---- what goes before instructions

-- An instruction is none of what goes before it: assignments, assignments by a message, and labels.
pub record BeginsOther (tokens : Tokens) : Type 0 where
  pub no_assignment : begins_assignment tokens ≡ false
  pub no_send_assign : BeginsNoSendAssign tokens
  pub no_label : begins_label tokens ≡ false

-- ---- words between clauses

-- what stands behind `[;] THEN [;]`
abbrev pub behind_then : Tokens → Option Tokens
behind_then [] = None
behind_then (t ∷ rest) = if is_clause_end t.kind then behind_word (codes "THEN") rest else behind_word (codes "THEN") (t ∷ rest)

-- DO and LOOP
abbrev pub begins_loop : TokenKind → Bool
begins_loop kind = is_word (codes "DO") kind || is_word (codes "LOOP") kind

-- DO alone is a group and no loop
abbrev pub is_group : TokenKind → Tokens → Bool
is_group kind [] = false
is_group kind (u ∷ rest) = is_word (codes "DO") kind && is_clause_end u.kind

abbrev pub clause : ℕ → ClauseKind → Clause
clause line kind = roll-Clause (record { line = line; kind = kind })

abbrev pub when : Expr → Clause → When
when test chosen = roll-When (record { test = test; chosen = chosen })

-- ---- clauses

mutual
  -- A clause that may stand in others is one of these, tried in this order: an assignment, an assignment by a message, an
  -- instruction, a message clause. It has the line of its first token.
  pub data IsClause : Loops → ℕ → Clause → Tokens → Tokens → Type 0 where
    assignment : {loops : Loops} {room : ℕ} {simple : Simple} {tokens rest : Tokens} (t : Token) → IsAssignment simple (t ∷ tokens) rest
        → IsClause loops room (clause t.line (x.Simple simple)) (t ∷ tokens) rest
    by_message : {loops : Loops} {room : ℕ} {simple : Simple} {tokens rest : Tokens} (t : Token) → begins_assignment (t ∷ tokens) ≡ false
        → IsSendAssign simple (t ∷ tokens) rest → IsClause loops room (clause t.line (x.Simple simple)) (t ∷ tokens) rest
    instruction : {loops : Loops} {room : ℕ} {kind : ClauseKind} {tokens rest : Tokens} (t : Token) → BeginsOther (t ∷ tokens)
        → IsInstruction loops room kind (t ∷ tokens) rest → IsClause loops room (clause t.line kind) (t ∷ tokens) rest
    message : {loops : Loops} {room : ℕ} {simple : Simple} {tokens rest : Tokens} (t : Token) → BeginsOther (t ∷ tokens)
        → begins_keyword (t ∷ tokens) ≡ false → IsMessage simple (t ∷ tokens) rest
        → IsClause loops room (clause t.line (x.Simple simple)) (t ∷ tokens) rest

  -- IF, SELECT, DO and LOOP are the blocks. The clauses of a block have room for one block less.
  pub data IsInstruction : Loops → ℕ → ClauseKind → Tokens → Tokens → Type 0 where
    simple : {loops : Loops} {room : ℕ} {one : Simple} {tokens rest : Tokens} → IsSimple loops one tokens rest
        → IsInstruction loops room (x.Simple one) tokens rest
    -- IF e [;] THEN [;] clause [ELSE [;] clause]
    choice : {loops : Loops} {room : ℕ} {test : Expr} {chosen : Clause} {other : Option Clause} {tokens behind inside others rest : Tokens} (t : Token)
        → t.kind ≡ word (codes "IF") → Fits s.Then tokens test behind → behind_then behind ≡ Some inside
        → IsClause loops room chosen inside others → IsElse loops room other others rest
        → IsInstruction loops (suc room) (x.If test chosen other) (t ∷ tokens) rest
    -- SELECT; WHEN ..; [OTHERWISE [;] clauses] END
    select : {loops : Loops} {room : ℕ} {whens : List When} {other : Option (List Clause)} {tokens inside behind others rest : Tokens} (t : Token)
        → t.kind ≡ word (codes "SELECT") → behind_end tokens ≡ Some inside → AreWhens loops room whens inside behind → whens ≢ []
        → IsOtherwise loops room other behind others → behind_block None others ≡ Some rest
        → IsInstruction loops (suc room) (x.Select whens other) (t ∷ tokens) rest
    -- DO; clauses END
    group : {loops : Loops} {room : ℕ} {clauses : List Clause} {tokens inside behind rest : Tokens} (t : Token)
        → t.kind ≡ word (codes "DO") → behind_end tokens ≡ Some inside → AreClauses loops room clauses inside behind
        → behind_block None behind ≡ Some rest → IsInstruction loops (suc room) (x.Group clauses) (t ∷ tokens) rest
    -- DO or LOOP with a header, a test or neither; clauses END [v]
    loop : {loops : Loops} {room : ℕ} {header : Header} {test : Test} {clauses : List Clause} {tokens behind inside others rest : Tokens} (t : Token)
        → begins_loop t.kind ≡ true → is_group t.kind tokens ≡ false → IsHeader header tokens behind → IsTest test behind inside
        → AreClauses (loops ++ control_of header ∷ []) room clauses inside others → behind_block (control_of header) others ≡ Some rest
        → IsInstruction loops (suc room) (x.Loop header test clauses) (t ∷ tokens) rest

  -- An ELSE that stands here belongs to the IF before it, the nearest.
  pub data IsElse : Loops → ℕ → Option Clause → Tokens → Tokens → Type 0 where
    no_else : {loops : Loops} {room : ℕ} {rest : Tokens} → behind_word (codes "ELSE") rest ≡ None → IsElse loops room None rest rest
    else_here : {loops : Loops} {room : ℕ} {other : Clause} {tokens inside rest : Tokens} → behind_word (codes "ELSE") tokens ≡ Some inside
        → IsClause loops room other inside rest → IsElse loops room (Some other) tokens rest

  -- WHENs side by side
  pub data AreWhens : Loops → ℕ → List When → Tokens → Tokens → Type 0 where
    no_when : {loops : Loops} {room : ℕ} {rest : Tokens} → begins_word (codes "WHEN") rest ≡ false → AreWhens loops room [] rest rest
    when_here : {loops : Loops} {room : ℕ} {test : Expr} {chosen : Clause} {whens : List When} {tokens behind inside others rest : Tokens} (t : Token)
        → t.kind ≡ word (codes "WHEN") → Fits s.Then tokens test behind → behind_then behind ≡ Some inside
        → IsClause loops room chosen inside others → AreWhens loops room whens others rest
        → AreWhens loops room (when test chosen ∷ whens) (t ∷ tokens) rest

  -- [OTHERWISE [;] clauses]
  pub data IsOtherwise : Loops → ℕ → Option (List Clause) → Tokens → Tokens → Type 0 where
    no_otherwise : {loops : Loops} {room : ℕ} {rest : Tokens} → behind_word (codes "OTHERWISE") rest ≡ None → IsOtherwise loops room None rest rest
    otherwise_here : {loops : Loops} {room : ℕ} {clauses : List Clause} {tokens inside rest : Tokens} → behind_word (codes "OTHERWISE") tokens ≡ Some inside
        → AreClauses loops room clauses inside rest → IsOtherwise loops room (Some clauses) tokens rest

  -- clauses up to END
  pub data AreClauses : Loops → ℕ → List Clause → Tokens → Tokens → Type 0 where
    no_clause : {loops : Loops} {room : ℕ} {rest : Tokens} → begins_word (codes "END") rest ≡ true → AreClauses loops room [] rest rest
    one_clause : {loops : Loops} {room : ℕ} {first : Clause} {clauses : List Clause} {tokens behind rest : Tokens}
        → begins_word (codes "END") tokens ≡ false → IsClause loops room first tokens behind → AreClauses loops room clauses behind rest
        → AreClauses loops room (first ∷ clauses) tokens rest
