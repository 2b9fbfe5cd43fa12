-- What DO and LOOP begin and end with, and LEAVE and ITERATE: which tokens they are written with.
use Rattle.std.specs.Prelude.{◌≡◌, Bool, true, false, ◌||◌, ◌&&◌, List, [], ◌∷◌, ◌++◌, Option, Some, None, is_some, if◌then◌else◌, codes}
use Rattle.rx_tree.specs.declared.name.Name.{Name}
use Rattle.rx_tree.specs.declared.token.Token.{Token}
use Rattle.rx_tree.specs.declared.expr.Expr.{Expr}
use Rattle.rx_clause_tree.specs.declared.loops.Bound.{Bound}
use Rattle.rx_clause_tree.specs.declared.loops.Bound.TheVariants as b
use Rattle.rx_clause_tree.specs.declared.loops.Header.{Header}
use Rattle.rx_clause_tree.specs.declared.loops.Header.TheVariants as h
use Rattle.rx_clause_tree.specs.declared.loops.Test.{Test}
use Rattle.rx_clause_tree.specs.declared.loops.Test.TheVariants as w
use Rattle.rx_tree.specs.declared.stops.Stops.TheVariants as s
use Rattle.rx_tree.specs.Operators.{Tokens}
use Rattle.rx_tree.specs.Expressions.{Fits}
use Rattle.rx_clause_tree.specs.declared.simple.Simple.{Simple}
use Rattle.rx_clause_tree.specs.declared.simple.Simple.TheVariants as c
use Rattle.rx_clause_tree.specs.ClauseWords.{word, is_word, begins_word, variable_of, same_name, is_clause_end, behind_end, is_equal}

-- ---- bounds of a controlled loop

pub data IsBound : Bound → Tokens → Tokens → Type 0 where
  to : {expr : Expr} {tokens rest : Tokens} (t : Token) → t.kind ≡ word (codes "TO") → Fits s.Loop tokens expr rest
      → IsBound (b.To expr) (t ∷ tokens) rest
  by : {expr : Expr} {tokens rest : Tokens} (t : Token) → t.kind ≡ word (codes "BY") → Fits s.Loop tokens expr rest
      → IsBound (b.By expr) (t ∷ tokens) rest
  for : {expr : Expr} {tokens rest : Tokens} (t : Token) → t.kind ≡ word (codes "FOR") → Fits s.Loop tokens expr rest
      → IsBound (b.For expr) (t ∷ tokens) rest

abbrev pub begins_bound : Tokens → Bool
begins_bound tokens = begins_word (codes "TO") tokens || (begins_word (codes "BY") tokens || begins_word (codes "FOR") tokens)

-- whether two bounds begin with the same word
abbrev pub same_bound : Bound → Bound → Bool
same_bound (b.To first) (b.To second) = true
same_bound (b.By first) (b.By second) = true
same_bound (b.For first) (b.For second) = true
same_bound _ _ = false

abbrev pub is_bounded : Bound → List Bound → Bool
is_bounded one [] = false
is_bounded one (bound ∷ bounds) = same_bound one bound || is_bounded one bounds

-- The bounds behind those that were read already, in any order, each word once.
pub data AreBounds : List Bound → List Bound → Tokens → Tokens → Type 0 where
  no_bound : {read : List Bound} {rest : Tokens} → begins_bound rest ≡ false → AreBounds read read rest rest
  bound : {one : Bound} {read all : List Bound} {tokens behind rest : Tokens} → IsBound one tokens behind → is_bounded one read ≡ false
      → AreBounds (read ++ one ∷ []) all behind rest → AreBounds read all tokens rest

-- ---- headers

-- `v =` and `v OVER` go before every other form, also where v is a word of one
abbrev pub is_control : Token → Bool
is_control u = is_equal u.kind || is_word (codes "OVER") u.kind

abbrev pub begins_control : Tokens → Bool
begins_control [] = false
begins_control (t ∷ []) = false
begins_control (t ∷ (u ∷ rest)) = is_some (variable_of t.kind) && is_control u

-- what may stand behind DO or LOOP in place of a header: a test, or the end of the clause
abbrev pub begins_test : Tokens → Bool
begins_test [] = false
begins_test (t ∷ rest) = is_word (codes "WHILE") t.kind || (is_word (codes "UNTIL") t.kind || is_clause_end t.kind)

pub data IsHeader : Header → Tokens → Tokens → Type 0 where
  -- v = e [TO e] [BY e] [FOR e]
  counts : {name : Name} {first : Expr} {bounds : List Bound} {tokens behind rest : Tokens} (t u : Token) → variable_of t.kind ≡ Some name
      → is_equal u.kind ≡ true → Fits s.Loop tokens first behind → AreBounds [] bounds behind rest
      → IsHeader (h.Counts name first bounds) (t ∷ (u ∷ tokens)) rest
  -- v OVER e
  over : {name : Name} {expr : Expr} {tokens rest : Tokens} (t u : Token) → variable_of t.kind ≡ Some name → u.kind ≡ word (codes "OVER")
      → Fits s.Loop tokens expr rest → IsHeader (h.Over name expr) (t ∷ (u ∷ tokens)) rest
  -- FOREVER
  forever : {rest : Tokens} (t : Token) → begins_control (t ∷ rest) ≡ false → t.kind ≡ word (codes "FOREVER")
      → IsHeader h.Forever (t ∷ rest) rest
  -- none, with a test or without
  bare : {rest : Tokens} → begins_control rest ≡ false → begins_test rest ≡ true → IsHeader h.Forever rest rest
  -- e
  times : {expr : Expr} {tokens rest : Tokens} → begins_control tokens ≡ false → begins_word (codes "FOREVER") tokens ≡ false
      → begins_test tokens ≡ false → Fits s.Loop tokens expr rest → IsHeader (h.Times expr) tokens rest

-- [WHILE e] or [UNTIL e], and the end of the clause
pub data IsTest : Test → Tokens → Tokens → Type 0 where
  no_test : {rest : Tokens} (t : Token) → is_clause_end t.kind ≡ true → IsTest w.Never (t ∷ rest) rest
  while : {expr : Expr} {tokens rest : Tokens} (t u : Token) → t.kind ≡ word (codes "WHILE") → Fits s.Loop tokens expr (u ∷ rest)
      → is_clause_end u.kind ≡ true → IsTest (w.While expr) (t ∷ tokens) rest
  until : {expr : Expr} {tokens rest : Tokens} (t u : Token) → t.kind ≡ word (codes "UNTIL") → Fits s.Loop tokens expr (u ∷ rest)
      → is_clause_end u.kind ≡ true → IsTest (w.Until expr) (t ∷ tokens) rest

-- ---- the end of a block

-- the variable that a loop runs by
abbrev pub control_of : Header → Option Name
control_of (h.Counts name first bounds) = Some name
control_of (h.Over name expr) = Some name
control_of _ = None

-- what stands behind the variable of a loop and the end of the clause
abbrev pub behind_name : Option Name → Option Name → Tokens → Option Tokens
behind_name (Some name) (Some other) rest = if same_name name other then behind_end rest else None
behind_name _ _ rest = None

abbrev pub behind_control : Option Name → Tokens → Option Tokens
behind_control control [] = None
behind_control control (t ∷ rest) = if is_clause_end t.kind then Some rest else behind_name control (variable_of t.kind) rest

-- what stands behind END, the variable that the loop runs by or none, and the end of the clause
abbrev pub behind_block : Option Name → Tokens → Option Tokens
behind_block control [] = None
behind_block control (t ∷ rest) = if is_word (codes "END") t.kind then behind_control control rest else None

-- ---- LEAVE and ITERATE

-- the loops around a clause in its body, the innermost last, each with the variable that it runs by
abbrev pub Loops : Type 0
Loops = List (Option Name)

abbrev pub is_name : Name → Option Name → Bool
is_name name None = false
is_name name (Some other) = same_name name other

-- whether one of these loops runs by a variable
abbrev pub runs_by : Name → Loops → Bool
runs_by name [] = false
runs_by name (loop ∷ loops) = is_name name loop || runs_by name loops

-- whether there is a loop that is meant: any where none is named
abbrev pub are_around : Option Name → Loops → Bool
are_around None [] = false
are_around None (loop ∷ loops) = true
are_around (Some name) loops = runs_by name loops

-- a variable that may be omitted, and the end of the clause
pub data IsLoopName : Option Name → Tokens → Tokens → Type 0 where
  no_loop_name : {rest : Tokens} (t : Token) → is_clause_end t.kind ≡ true → IsLoopName None (t ∷ rest) rest
  loop_name : {name : Name} {rest : Tokens} (t u : Token) → variable_of t.kind ≡ Some name → is_clause_end u.kind ≡ true
      → IsLoopName (Some name) (t ∷ (u ∷ rest)) rest

-- LEAVE and ITERATE stand inside the loop that they mean.
pub data IsLoopInstruction : Loops → Simple → Tokens → Tokens → Type 0 where
  -- LEAVE [v]
  leave : {loops : Loops} {name : Option Name} {tokens rest : Tokens} (t : Token) → t.kind ≡ word (codes "LEAVE") → IsLoopName name tokens rest
      → are_around name loops ≡ true → IsLoopInstruction loops (c.Leave name) (t ∷ tokens) rest
  -- ITERATE [v]
  iterate : {loops : Loops} {name : Option Name} {tokens rest : Tokens} (t : Token) → t.kind ≡ word (codes "ITERATE") → IsLoopName name tokens rest
      → are_around name loops ≡ true → IsLoopInstruction loops (c.Iterate name) (t ∷ tokens) rest
