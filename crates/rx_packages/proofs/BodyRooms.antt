-- What stands in clauses and bodies has room in their tokens.
use Rattle.std.proofs.Common.{◌≡◌, ℕ, ◌+◌, ◌<◌, ◌≤◌, Bool, true, false, if◌then◌else◌, List, [], ◌∷◌, Option, Some, None, ap, arith}
use Rattle.std.specs.Prelude.{codes}
use Rattle.rx_tree.specs.declared.name.Name.{Name}
use Rattle.rx_tree.specs.Operators.{Tokens}
use Rattle.rx_exprs.proofs.Tables.{some-is}
use Rattle.rx_clause_tree.specs.declared.simple.Simple.{Simple}
use Rattle.rx_clause_tree.specs.declared.clause.Before.{Before}
use Rattle.rx_clause_tree.specs.declared.clause.Body.{Body}
use Rattle.rx_clause_tree.specs.declared.clause.Clause.{Clause}
use Rattle.rx_clause_tree.specs.declared.clause.ClauseKind.{ClauseKind}
use Rattle.rx_clause_tree.specs.declared.clause.ClauseKind.TheVariants as x
use Rattle.rx_clause_tree.specs.declared.clause.When.{When}
use Rattle.rx_clause_tree.specs.ClauseWords.{variable_of, is_word, same_name, is_clause_end, behind_end, skip, behind_word}
use Rattle.rx_clause_tree.specs.Loops.{Loops, control_of, behind_name, behind_control, behind_block}
use Rattle.rx_clause_tree.specs.Clauses as i
use Rattle.rx_clause_tree.specs.Clauses.{behind_then, IsClause, IsInstruction, IsElse, AreWhens, IsOtherwise, AreClauses}
use Rattle.rx_clause_tree.specs.Bodies as d
use Rattle.rx_clause_tree.specs.Bodies.{IsExpose, IsProcedure, AreBodyClauses, IsBody}
use Rattle.rx_packages.specs.Sizes.{in_simple, in_kind, in_clause, in_clauses}
use Rattle.rx_packages.proofs.SizeLemmas.{simple_size, in_else, if_size, in_whens, in_otherwise, select_size, group_clause_size, loop_size, clause_size, when_size}
use Rattle.rx_packages.proofs.Widths.{room, wide}
use Rattle.rx_packages.proofs.Rooms.{fits-room}
use Rattle.rx_packages.proofs.ClauseRooms.{end-room, skip-room, assignment-room, send-room, label-room, message-room, names-room, simple-room, header-room, test-room}

-- ---- words between clauses

word-room : (spelling : List ℕ) (tokens rest : Tokens) → behind_word spelling tokens ≡ Some rest → room rest < room tokens
word-room spelling [] rest is = cc
word-room spelling (t ∷ others) rest is = go (is_word spelling t.kind) is
  where
    go : (test : Bool) → (if test then Some (skip others) else None) ≡ Some rest → room rest < room (t ∷ others)
    go true e = let same = ap room (some-is e) in let h = skip-room others in let w = wide t others in omega arith
    go false e = cc

then-room : (tokens rest : Tokens) → behind_then tokens ≡ Some rest → room rest < room tokens
then-room [] rest is = cc
then-room (t ∷ others) rest is = go (is_clause_end t.kind) is
  where
    go : (test : Bool) → (if test then behind_word (codes "THEN") others else behind_word (codes "THEN") (t ∷ others)) ≡ Some rest
        → room rest < room (t ∷ others)
    go true e = let h = word-room (codes "THEN") others rest e in let w = wide t others in omega arith
    go false e = word-room (codes "THEN") (t ∷ others) rest e

name-room : (control other : Option Name) (tokens rest : Tokens) → behind_name control other tokens ≡ Some rest → room rest < room tokens
name-room (Some name) (Some other) tokens rest is = go (same_name name other) is
  where
    go : (test : Bool) → (if test then behind_end tokens else None) ≡ Some rest → room rest < room tokens
    go true e = end-room tokens rest e
    go false e = cc
name-room None other tokens rest is = cc
name-room (Some name) None tokens rest is = cc

control-room : (control : Option Name) (tokens rest : Tokens) → behind_control control tokens ≡ Some rest → room rest < room tokens
control-room control [] rest is = cc
control-room control (t ∷ others) rest is = go (is_clause_end t.kind) is
  where
    go : (test : Bool) → (if test then Some others else behind_name control (variable_of t.kind) others) ≡ Some rest → room rest < room (t ∷ others)
    go true e = let same = ap room (some-is e) in let w = wide t others in omega arith
    go false e = let h = name-room control (variable_of t.kind) others rest e in let w = wide t others in omega arith

block-room : (control : Option Name) (tokens rest : Tokens) → behind_block control tokens ≡ Some rest → room rest < room tokens
block-room control [] rest is = cc
block-room control (t ∷ others) rest is = go (is_word (codes "END") t.kind) is
  where
    go : (test : Bool) → (if test then behind_control control others else None) ≡ Some rest → room rest < room (t ∷ others)
    go true e = let h = control-room control others rest e in let w = wide t others in omega arith
    go false e = cc

-- ---- clauses

-- a clause without others, on a line
on-line : (line : ℕ) (one : Simple) (tokens rest : Tokens) → in_simple one + room rest < room tokens
    → in_clause (i.clause line (x.Simple one)) + room rest ≤ room tokens
on-line line one tokens rest h = let c = clause_size line (x.Simple one) in let s = simple_size one in omega arith

mutual
  clause-room : {loops : Loops} {depth : ℕ} {one : Clause} {tokens rest : Tokens} → IsClause loops depth one tokens rest
      → in_clause one + room rest ≤ room tokens
  clause-room (i.assignment {simple = one} {tokens = tokens} {rest = rest} t is) = on-line t.line one (t ∷ tokens) rest (assignment-room is)
  clause-room (i.by_message {simple = one} {tokens = tokens} {rest = rest} t isnt is) = on-line t.line one (t ∷ tokens) rest (send-room is)
  clause-room (i.instruction {kind = kind} t other is) = let h = instruction-room is in let c = clause_size t.line kind in omega arith
  clause-room (i.message {simple = one} {tokens = tokens} {rest = rest} t other isnt is) = on-line t.line one (t ∷ tokens) rest (message-room is)

  instruction-room : {loops : Loops} {depth : ℕ} {kind : ClauseKind} {tokens rest : Tokens} → IsInstruction loops depth kind tokens rest
      → in_kind kind + room rest < room tokens
  instruction-room (i.simple {one = one} is) = let h = simple-room is in let s = simple_size one in omega arith
  instruction-room (i.choice {test = test} {chosen = chosen} {other = other} {tokens = tokens} {behind = behind} {inside = inside} t is fits then_ first last) =
      let s = if_size test chosen other in let a = fits-room fits in let b = then-room behind inside then_ in
      let c = clause-room first in let d = else-room last in let w = wide t tokens in omega arith
  instruction-room (i.select {whens = whens} {other = other} {tokens = tokens} {inside = inside} {others = others} {rest = rest} t is end list some last ends) =
      let s = select_size whens other in let a = end-room tokens inside end in let b = whens-room list in
      let c = otherwise-room last in let d = block-room None others rest ends in let w = wide t tokens in omega arith
  instruction-room (i.group {clauses = clauses} {tokens = tokens} {inside = inside} {behind = behind} {rest = rest} t is end list ends) =
      let s = group_clause_size clauses in let a = end-room tokens inside end in let b = clauses-room list in
      let c = block-room None behind rest ends in let w = wide t tokens in omega arith
  instruction-room (i.loop {header = header} {test = test} {clauses = clauses} {tokens = tokens} {others = others} {rest = rest} t is isnt head tested list ends) =
      let s = loop_size header test clauses in let a = header-room head in let b = test-room tested in let c = clauses-room list in
      let d = block-room (control_of header) others rest ends in let w = wide t tokens in omega arith

  else-room : {loops : Loops} {depth : ℕ} {other : Option Clause} {tokens rest : Tokens} → IsElse loops depth other tokens rest
      → in_else other + room rest ≤ room tokens
  else-room (i.no_else none) = omega arith
  else-room (i.else_here {tokens = tokens} {inside = inside} is first) =
      let h = word-room (codes "ELSE") tokens inside is in let g = clause-room first in omega arith

  whens-room : {loops : Loops} {depth : ℕ} {list : List When} {tokens rest : Tokens} → AreWhens loops depth list tokens rest
      → in_whens list + room rest ≤ room tokens
  whens-room (i.no_when none) = omega arith
  whens-room (i.when_here {test = test} {chosen = chosen} {tokens = tokens} {behind = behind} {inside = inside} t is fits then_ first others) =
      let s = when_size test chosen in let a = fits-room fits in let b = then-room behind inside then_ in
      let c = clause-room first in let d = whens-room others in let w = wide t tokens in omega arith

  otherwise-room : {loops : Loops} {depth : ℕ} {other : Option (List Clause)} {tokens rest : Tokens} → IsOtherwise loops depth other tokens rest
      → in_otherwise other + room rest ≤ room tokens
  otherwise-room (i.no_otherwise none) = omega arith
  otherwise-room (i.otherwise_here {tokens = tokens} {inside = inside} is list) =
      let h = word-room (codes "OTHERWISE") tokens inside is in let g = clauses-room list in omega arith

  clauses-room : {loops : Loops} {depth : ℕ} {list : List Clause} {tokens rest : Tokens} → AreClauses loops depth list tokens rest
      → in_clauses list + room rest ≤ room tokens
  clauses-room (i.no_clause ends) = omega arith
  clauses-room (i.one_clause isnt first others) = let h = clause-room first in let g = clauses-room others in omega arith

-- ---- bodies

expose-room : {one : Simple} {tokens rest : Tokens} → IsExpose one tokens rest → in_simple one + room rest < room tokens
expose-room (d.expose {tokens = tokens} t is names some) = let h = names-room names in let w = wide t tokens in omega arith

procedure-room : {one : Simple} {tokens rest : Tokens} → IsProcedure one tokens rest → in_simple one + room rest < room tokens
procedure-room (d.procedure {tokens = tokens} {rest = rest} t is end) = let h = end-room tokens rest end in let w = wide t tokens in omega arith
procedure-room (d.procedure_expose {tokens = tokens} t u is exposes names some) =
    let h = names-room names in let v = wide u tokens in let w = wide t (u ∷ tokens) in omega arith

list-room : {before : Before} {list : List Clause} {tokens rest : Tokens} → AreBodyClauses before list tokens rest
    → in_clauses list + room rest ≤ room tokens
list-room (d.no_body_clause ends) = omega arith
list-room (d.label {one = one} {tokens = tokens} {behind = behind} t is others) =
    let h = on-line t.line one (t ∷ tokens) behind (label-room is) in let g = list-room others in omega arith
list-room (d.expose {one = one} {tokens = tokens} {behind = behind} t other is others) =
    let h = on-line t.line one (t ∷ tokens) behind (expose-room is) in let g = list-room others in omega arith
list-room (d.procedure {one = one} {tokens = tokens} {behind = behind} t other is others) =
    let h = on-line t.line one (t ∷ tokens) behind (procedure-room is) in let g = list-room others in omega arith
list-room (d.other isnt is others) = let h = clause-room is in let g = list-room others in omega arith

pub body-room : {one : Body} {tokens rest : Tokens} → IsBody one tokens rest → in_clauses one.clauses + room rest ≤ room tokens
body-room (d.body list) = list-room list
