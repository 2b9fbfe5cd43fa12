-- Clauses and blocks: what is written is read, and what is read is written.
use Rattle.std.proofs.Common.{◌≡◌, ◌≢◌, ℕ, zero, suc, ◌+◌, ◌*◌, ◌<◌, ◌≤◌, Bool, true, false, ◌&&◌, ◌||◌, if◌then◌else◌, List, [], ◌∷◌, ◌++◌, length, Option, Some, None, Ok, refl, sym, ◌∙◌, ap, subst, arith}
use Rattle.std.specs.Prelude.{codes}
use Rattle.rx_tree.specs.declared.name.Name.{Name}
use Rattle.rx_tree.specs.declared.token.Token.{Token}
use Rattle.rx_tree.specs.declared.token.TokenKind.{TokenKind}
use Rattle.rx_tree.specs.declared.expr.Expr.{Expr}
use Rattle.rx_tree.specs.declared.expr.SendPart.{SendPart}
use Rattle.rx_tree.specs.declared.stops.Stops.TheVariants as s
use Rattle.rx_tree.specs.Operators.{Tokens}
use Rattle.rx_exprs.specs.Reader.{Outcome}
use Rattle.rx_exprs.proofs.Steps.{step}
use Rattle.rx_exprs.proofs.Tables.{some-is}
use Rattle.rx_clause_tree.specs.declared.simple.Simple.{Simple}
use Rattle.rx_clause_tree.specs.declared.simple.Simple.TheVariants as c
use Rattle.rx_clause_tree.specs.declared.clause.Clause.{Clause}
use Rattle.rx_clause_tree.specs.declared.clause.ClauseKind.{ClauseKind}
use Rattle.rx_clause_tree.specs.declared.clause.ClauseKind.TheVariants as x
use Rattle.rx_clause_tree.specs.declared.clause.When.{When}
use Rattle.rx_clause_tree.specs.ClauseWords.{word, is_word, variable_of, same_name, is_clause_end, behind_end, behind_word, begins_assignment, begins_label}
use Rattle.rx_clause_tree.specs.Assignments.{IsMessage, IsAssignment, IsAssignedTerm, IsSendAssign, BeginsNoSendAssign}
use Rattle.rx_clause_tree.specs.Assignments as a
use Rattle.rx_clause_tree.specs.Loops.{Loops, control_of, behind_name, behind_control, behind_block}
use Rattle.rx_clause_tree.specs.Clauses as i
use Rattle.rx_clause_tree.specs.Clauses.{IsSimple, BeginsOther, behind_then, begins_loop, is_group, clause, when, IsClause, IsInstruction, IsElse, AreWhens, IsOtherwise, AreClauses}
use Rattle.rx_clause_tree.specs.Bodies.{ends_body}
use Rattle.rx_clauses.specs.declared.keyword.Keyword.{Keyword}
use Rattle.rx_clauses.specs.declared.keyword.Keyword.TheVariants as w
use Rattle.rx_clauses.specs.declared.start.Start.{Start}
use Rattle.rx_clauses.specs.declared.start.Start.TheVariants as b
use Rattle.rx_clauses.specs.Keywords.{keyword_of}
use Rattle.rx_clauses.specs.Starts.{Assigned, assigned_at, send_assign}
use Rattle.rx_clauses.specs.Looping.{test}
use Rattle.rx_clauses.specs.Reader as r
use Rattle.rx_clauses.specs.Reader.{word_start, sending_start, start, by_start, read, instruction, clauses, whens}
use Rattle.rx_clauses.proofs.Sure.{Sure, sure-then, sure-some, sure-if, refused, found}
use Rattle.rx_clauses.proofs.Words.{end-shorter, symbol-no, no-symbol, word-is, word-shorter}
use Rattle.rx_clauses.proofs.KeywordLemmas.{keyword-is, no-keyword, keyword-no}
use Rattle.rx_clauses.proofs.Opens.{expression-read, expression-sure, fits-shorter, spelt-shorter, fits-no-body}
use Rattle.rx_clauses.proofs.PartsLaw.{last-read, last-sure, last-shorter}
use Rattle.rx_clauses.proofs.PlainLaw.{at-word}
use Rattle.rx_clauses.proofs.StartsLaw.{assignment-begins, assignment-read, assignment-sure, assignment-shorter, assigned-read, assigned-is, no-assigned, assigned-no, message-read, message-sure, message-shorter}
use Rattle.rx_clauses.proofs.LoopingLaw.{header-read, header-sure, header-shorter, test-read, test-sure, test-shorter}
use Rattle.rx_clauses.proofs.SimpleLaw.{simple-read, simple-sure}

-- ---- what a clause begins with

pub start-assignment : (t : Token) (tokens : Tokens) → begins_assignment (t ∷ tokens) ≡ true → start (t ∷ tokens) ≡ (b.Assignment, t ∷ tokens)
unfolding start
start-assignment t tokens is = rw is

pub start-sending : (t : Token) (tokens rest : Tokens) (receiver : Expr) (part : SendPart) → begins_assignment (t ∷ tokens) ≡ false
    → assigned_at (t ∷ tokens) ≡ Some ((receiver, part), rest) → start (t ∷ tokens) ≡ (b.Sending receiver part, rest)
unfolding start
start-sending t tokens rest receiver part isnt is = rw (isnt, is)

pub start-word : (t : Token) (tokens : Tokens) (keyword : Keyword) → BeginsOther (t ∷ tokens) → keyword_of t.kind ≡ Some keyword
    → start (t ∷ tokens) ≡ (b.Word keyword, t ∷ tokens)
unfolding start
start-word t tokens keyword other is = rw (other.no_assignment, no-assigned (t ∷ tokens) other.no_send_assign, other.no_label, is)

pub start-other : (t : Token) (tokens : Tokens) → BeginsOther (t ∷ tokens) → keyword_of t.kind ≡ None → start (t ∷ tokens) ≡ (b.Other, t ∷ tokens)
unfolding start
start-other t tokens other is = rw (other.no_assignment, no-assigned (t ∷ tokens) other.no_send_assign, other.no_label, is)

-- the ways in which a clause begins
pub data Started (t : Token) (tokens : Tokens) : Start × Tokens → Type 0 where
  assigns : begins_assignment (t ∷ tokens) ≡ true → Started t tokens (b.Assignment, t ∷ tokens)
  sends : {receiver : Expr} {part : SendPart} {rest : Tokens} → begins_assignment (t ∷ tokens) ≡ false → IsAssignedTerm receiver part (t ∷ tokens) rest
      → Started t tokens (b.Sending receiver part, rest)
  labels : begins_label (t ∷ tokens) ≡ true → Started t tokens (b.Label, t ∷ tokens)
  instructs : {keyword : Keyword} → BeginsOther (t ∷ tokens) → keyword_of t.kind ≡ Some keyword → Started t tokens (b.Word keyword, t ∷ tokens)
  tells : BeginsOther (t ∷ tokens) → keyword_of t.kind ≡ None → Started t tokens (b.Other, t ∷ tokens)

pub started : (t : Token) (tokens : Tokens) → Started t tokens (start (t ∷ tokens))
unfolding start
started t tokens = go (begins_assignment (t ∷ tokens)) refl
  where
    by-word : BeginsOther (t ∷ tokens) → (keyword : Option Keyword) → keyword_of t.kind ≡ keyword → Started t tokens (word_start keyword, t ∷ tokens)
    by-word other None is = tells other is
    by-word other (Some keyword) is = instructs other is

    by-label : begins_assignment (t ∷ tokens) ≡ false → assigned_at (t ∷ tokens) ≡ None → (label : Bool) → begins_label (t ∷ tokens) ≡ label
        → Started t tokens (if label then b.Label else word_start (keyword_of t.kind), t ∷ tokens)
    by-label isnt none true is = labels is
    by-label isnt none false is =
        by-word (record { no_assignment = isnt; no_send_assign = assigned-no (t ∷ tokens) none; no_label = is }) (keyword_of t.kind) refl

    by-term : begins_assignment (t ∷ tokens) ≡ false → (term : Option (Assigned × Tokens)) → assigned_at (t ∷ tokens) ≡ term
        → Started t tokens (sending_start term (if begins_label (t ∷ tokens) then b.Label else word_start (keyword_of t.kind)) (t ∷ tokens))
    by-term isnt None is = by-label isnt is (begins_label (t ∷ tokens)) refl
    by-term isnt (Some term) is = sends isnt (assigned-is (t ∷ tokens) term.1 term.0 is)

    go : (test : Bool) → begins_assignment (t ∷ tokens) ≡ test
        → Started t tokens (if test then (b.Assignment, t ∷ tokens)
        else sending_start (assigned_at (t ∷ tokens)) (if begins_label (t ∷ tokens) then b.Label else word_start (keyword_of t.kind)) (t ∷ tokens))
    go true is = assigns is
    go false is = by-term is (assigned_at (t ∷ tokens)) refl

-- ---- words between clauses

pub then-shorter : (tokens inside : Tokens) → behind_then tokens ≡ Some inside → length inside < length tokens
then-shorter [] inside is = cc
then-shorter (t ∷ rest) inside is = go (is_clause_end t.kind) is
  where
    go : (test : Bool) → (if test then behind_word (codes "THEN") rest else behind_word (codes "THEN") (t ∷ rest)) ≡ Some inside → length inside < length (t ∷ rest)
    go true same = let h = word-shorter (codes "THEN") rest inside same in omega arith
    go false same = word-shorter (codes "THEN") (t ∷ rest) inside same

name-shorter : (control other : Option Name) (tokens rest : Tokens) → behind_name control other tokens ≡ Some rest → length rest < length tokens
name-shorter (Some name) (Some other) tokens rest is = go (same_name name other) is
  where
    go : (test : Bool) → (if test then behind_end tokens else None) ≡ Some rest → length rest < length tokens
    go true same = end-shorter tokens rest same
    go false same = cc
name-shorter None other tokens rest is = cc
name-shorter (Some name) None tokens rest is = cc

control-shorter : (control : Option Name) (tokens rest : Tokens) → behind_control control tokens ≡ Some rest → length rest < length tokens
control-shorter control [] rest is = cc
control-shorter control (t ∷ behind) rest is = go (is_clause_end t.kind) is
  where
    go : (test : Bool) → (if test then Some behind else behind_name control (variable_of t.kind) behind) ≡ Some rest → length rest < length (t ∷ behind)
    go true same = let e = ap length (some-is same) in omega arith
    go false same = let h = name-shorter control (variable_of t.kind) behind rest same in omega arith

block-shorter : (control : Option Name) (tokens rest : Tokens) → behind_block control tokens ≡ Some rest → length rest < length tokens
block-shorter control [] rest is = cc
block-shorter control (t ∷ behind) rest is = go (is_word (codes "END") t.kind) is
  where
    go : (test : Bool) → (if test then behind_control control behind else None) ≡ Some rest → length rest < length (t ∷ behind)
    go true same = let h = control-shorter control behind rest same in omega arith
    go false same = cc

-- ---- lengths

send-shorter : {one : Simple} {tokens rest : Tokens} → IsSendAssign one tokens rest → length rest < length tokens
send-shorter (a.send_assign (a.assigned receiver before part u spelt plain equal) last) = let h = last-shorter last in let g = spelt-shorter spelt in omega arith

mutual
  pub shorter : {loops : Loops} {room : ℕ} {first : Clause} {tokens rest : Tokens} → IsClause loops room first tokens rest → length rest < length tokens
  shorter (i.assignment t is) = assignment-shorter is
  shorter (i.by_message t isnt is) = send-shorter is
  shorter (i.instruction t other is) = instruction-shorter is
  shorter (i.message t other isnt is) = message-shorter is

  instruction-shorter : {loops : Loops} {room : ℕ} {kind : ClauseKind} {tokens rest : Tokens} → IsInstruction loops room kind tokens rest → length rest < length tokens
  instruction-shorter (i.simple is) = let g = simple-read is in let h = g.read.shorter in let e = ap length g.is in omega arith
  instruction-shorter (i.choice {behind = behind} {inside = inside} t is fits then_ first other) =
      let c = fits-shorter fits in let d = then-shorter behind inside then_ in let h = shorter first in let g = else-shorter other in omega arith
  instruction-shorter (i.select {tokens = tokens} {inside = inside} {others = others} {rest = rest} t is end list some other ends) =
      let c = end-shorter tokens inside end in let d = whens-shorter list in let h = otherwise-shorter other in let g = block-shorter None others rest ends in omega arith
  instruction-shorter (i.group {tokens = tokens} {inside = inside} {behind = behind} {rest = rest} t is end list ends) =
      let c = end-shorter tokens inside end in let d = list-shorter list in let g = block-shorter None behind rest ends in omega arith
  instruction-shorter (i.loop {header = found} {others = others} {rest = rest} t is isnt head tested list ends) =
      let c = header-shorter head in let d = test-shorter tested in let h = list-shorter list in let g = block-shorter (control_of found) others rest ends in omega arith

  else-shorter : {loops : Loops} {room : ℕ} {other : Option Clause} {tokens rest : Tokens} → IsElse loops room other tokens rest → length rest ≤ length tokens
  else-shorter (i.no_else none) = omega arith
  else-shorter (i.else_here {tokens = tokens} {inside = inside} is first) = let c = word-shorter (codes "ELSE") tokens inside is in let h = shorter first in omega arith

  pub whens-shorter : {loops : Loops} {room : ℕ} {list : List When} {tokens rest : Tokens} → AreWhens loops room list tokens rest → length rest ≤ length tokens
  whens-shorter (i.no_when none) = omega arith
  whens-shorter (i.when_here {behind = behind} {inside = inside} t is fits then_ first others) =
      let c = fits-shorter fits in let d = then-shorter behind inside then_ in let h = shorter first in let g = whens-shorter others in omega arith

  otherwise-shorter : {loops : Loops} {room : ℕ} {other : Option (List Clause)} {tokens rest : Tokens} → IsOtherwise loops room other tokens rest → length rest ≤ length tokens
  otherwise-shorter (i.no_otherwise none) = omega arith
  otherwise-shorter (i.otherwise_here {tokens = tokens} {inside = inside} is list) =
      let c = word-shorter (codes "OTHERWISE") tokens inside is in let h = list-shorter list in omega arith

  list-shorter : {loops : Loops} {room : ℕ} {list : List Clause} {tokens rest : Tokens} → AreClauses loops room list tokens rest → length rest ≤ length tokens
  list-shorter (i.no_clause ends) = omega arith
  list-shorter (i.one_clause isnt first others) = let h = shorter first in let g = list-shorter others in omega arith

-- ---- what is written is read

-- an instruction's word, and what is read behind it
pub record Instructed (f : ℕ) (loops : Loops) (room : ℕ) (kind : ClauseKind) (here rest : Tokens) : Type 0 where
  pub token : Token
  pub behind : Tokens
  pub is : here ≡ token ∷ behind
  pub keyword : Keyword
  pub fact : keyword_of token.kind ≡ Some keyword
  pub reads : instruction f loops room keyword here behind ≡ Ok (kind, rest)

data IsLoopWord (kind : TokenKind) : Type 0 where
  is_do : kind ≡ word (codes "DO") → IsLoopWord kind
  is_loop : kind ≡ word (codes "LOOP") → IsLoopWord kind

loop-word : (kind : TokenKind) → begins_loop kind ≡ true → IsLoopWord kind
loop-word kind is = go (is_word (codes "DO") kind) refl is
  where
    go : (test : Bool) → is_word (codes "DO") kind ≡ test → (test || is_word (codes "LOOP") kind) ≡ true → IsLoopWord kind
    go true p same = is_do (word-is (codes "DO") kind p)
    go false p same = is_loop (word-is (codes "LOOP") kind same)

no-group-end : (kind : TokenKind) (tokens : Tokens) → kind ≡ word (codes "DO") → is_group kind tokens ≡ false → behind_end tokens ≡ None
no-group-end kind [] is isnt = refl
no-group-end kind (u ∷ rest) is isnt = go (is_clause_end u.kind) (ap (λ (x : TokenKind). is_word (codes "DO") x && is_clause_end u.kind) (sym is) ∙ isnt)
  where
    go : (test : Bool) → test ≡ false → (let y : Option Tokens = if test then Some rest else None in y ≡ None)
    go true p = cc
    go false p = refl

abbrev pub first_keyword : Tokens → Option Keyword
first_keyword [] = None
first_keyword (t ∷ tokens) = keyword_of t.kind

some-whens : (list : List When) → list ≢ [] → r.are_none list ≡ false
some-whens [] some = absurd (some refl)
some-whens (first ∷ list) some = refl

message-body : {one : Simple} {tokens rest : Tokens} → IsMessage one tokens rest → ends_body tokens ≡ false
message-body (a.message (a.to_end t fits end) loose) = fits-no-body fits

mutual
  pub reads : {loops : Loops} {room : ℕ} {first : Clause} {tokens rest : Tokens} → IsClause loops room first tokens rest → (f : ℕ) → 16 * length tokens + 8 < f
      → read f loops room tokens ≡ Ok (first, rest)
  reads (i.assignment {loops = loops} {room = room} {simple = one} {tokens = tokens} {rest = rest} t is) f enough =
      step (λ f. read f loops room (t ∷ tokens) ≡ Ok (clause t.line (x.Simple one), rest)) f (omega arith) (λ m also.
      rw (start-assignment t tokens (assignment-begins is), assignment-read is))
  reads (i.by_message {loops = loops} {room = room} {tokens = tokens} {rest = rest} t isnt (a.send_assign {receiver = receiver} {expr = expr} {part = part} {behind = behind} term last)) f enough =
      step (λ f. read f loops room (t ∷ tokens) ≡ Ok (clause t.line (x.Simple (c.SendAssign receiver part expr)), rest)) f (omega arith) (λ m also.
      rw (start-sending t tokens behind receiver part isnt (assigned-read term), last-read last))
  reads (i.instruction {loops = loops} {room = room} {kind = kind} {tokens = tokens} {rest = rest} t other is) f enough =
      step (λ f. read f loops room (t ∷ tokens) ≡ Ok (clause t.line kind, rest)) f (omega arith) (λ m also.
      let g = instruction-reads is m (omega arith) in
      let same : keyword_of t.kind ≡ Some g.keyword = ap (λ (ts : Tokens). first_keyword ts) g.is ∙ g.fact in
      let tail : tokens ≡ g.behind = ap r.behind g.is in
      let was = subst (λ (ts : Tokens). instruction m loops room g.keyword (t ∷ tokens) ts ≡ Ok (kind, rest)) (sym tail) g.reads in
      rw (start-word t tokens g.keyword other same, was))
  reads (i.message {loops = loops} {room = room} {simple = one} {tokens = tokens} {rest = rest} t other isnt is) f enough =
      step (λ f. read f loops room (t ∷ tokens) ≡ Ok (clause t.line (x.Simple one), rest)) f (omega arith) (λ m also.
      rw (start-other t tokens other (no-keyword t.kind isnt), message-body is, message-read is))

  pub instruction-reads : {loops : Loops} {room : ℕ} {kind : ClauseKind} {here rest : Tokens} → IsInstruction loops room kind here rest → (f : ℕ) → 16 * length here + 7 < f
      → Instructed f loops room kind here rest
  instruction-reads (i.simple {loops = loops} {room = room} {one = one} {tokens = here} {rest = rest} is) f enough =
      let g = simple-read is in
      record {
        token = g.token;
        behind = g.behind;
        is = g.is;
        keyword = w.Other g.read.by;
        fact = g.read.keyword;
        reads = step (λ f. instruction f loops room (w.Other g.read.by) here g.behind ≡ Ok (x.Simple one, rest)) f (omega arith) (λ m also. rw g.read.reads);
      }
  instruction-reads (i.choice {loops = loops} {room = room} {test = test} {chosen = chosen} {other = other} {tokens = tokens} {behind = behind} {inside = inside} {others = others} {rest = rest} t is fits then_ first otherwise) f enough =
      let c = fits-shorter fits in let d = then-shorter behind inside then_ in let h = shorter first in
      record {
        token = t;
        behind = tokens;
        is = refl;
        keyword = w.If;
        fact = ap keyword_of is;
        reads = step (λ f. instruction f loops (suc room) w.If (t ∷ tokens) tokens ≡ Ok (x.If test chosen other, rest)) f (omega arith) (λ m also.
            step (λ m. r.choice m loops room tokens ≡ Ok (x.If test chosen other, rest)) m (omega arith) (λ l too.
            rw (expression-read fits, then_, reads first l (omega arith), else-reads otherwise l (omega arith))));
      }
  instruction-reads (i.select {loops = loops} {room = room} {whens = list} {other = other} {tokens = tokens} {inside = inside} {behind = behind} {rest = rest} t is end are some otherwise ends) f enough =
      let c = end-shorter tokens inside end in let d = whens-shorter are in
      record {
        token = t;
        behind = tokens;
        is = refl;
        keyword = w.Select;
        fact = ap keyword_of is;
        reads = step (λ f. instruction f loops (suc room) w.Select (t ∷ tokens) tokens ≡ Ok (x.Select list other, rest)) f (omega arith) (λ m also.
            step (λ m. r.select m loops room tokens ≡ Ok (x.Select list other, rest)) m (omega arith) (λ l too.
            rw (end, whens-read are l (omega arith), some-whens list some, otherwise-reads otherwise l (omega arith), ends)));
      }
  instruction-reads (i.group {loops = loops} {room = room} {clauses = list} {tokens = tokens} {inside = inside} {rest = rest} t is end are ends) f enough =
      let c = end-shorter tokens inside end in
      record {
        token = t;
        behind = tokens;
        is = refl;
        keyword = w.Do;
        fact = ap keyword_of is;
        reads = step (λ f. instruction f loops (suc room) w.Do (t ∷ tokens) tokens ≡ Ok (x.Group list, rest)) f (omega arith) (λ m also.
            rw end (step (λ m. r.group m loops room inside ≡ Ok (x.Group list, rest)) m (omega arith) (λ l too. rw (list-reads are l (omega arith), ends))));
      }
  instruction-reads (i.loop {loops = loops} {room = room} {header = head} {test = tested} {clauses = list} {tokens = tokens} {rest = rest} t is isnt begun so are ends) f enough =
      let c = header-shorter begun in let d = test-shorter so in
      by-word (λ m much. step (λ m. r.loop m loops room tokens ≡ Ok (x.Loop head tested list, rest)) m (omega arith) (λ l too.
      rw (header-read begun, test-read so, list-reads are l (omega arith), ends))) (loop-word t.kind is)
    where
      by-word : ((m : ℕ) → 16 * length tokens + 16 < m → r.loop m loops room tokens ≡ Ok (x.Loop head tested list, rest)) → IsLoopWord t.kind
          → Instructed f loops (suc room) (x.Loop head tested list) (t ∷ tokens) rest
      by-word looped (is_do do_) = record {
        token = t;
        behind = tokens;
        is = refl;
        keyword = w.Do;
        fact = ap keyword_of do_;
        reads = step (λ f. instruction f loops (suc room) w.Do (t ∷ tokens) tokens ≡ Ok (x.Loop head tested list, rest)) f (omega arith) (λ m also.
            rw (no-group-end t.kind tokens do_ isnt, looped m (omega arith)));
      }
      by-word looped (is_loop loop_) = record {
        token = t;
        behind = tokens;
        is = refl;
        keyword = w.Loop;
        fact = ap keyword_of loop_;
        reads = step (λ f. instruction f loops (suc room) w.Loop (t ∷ tokens) tokens ≡ Ok (x.Loop head tested list, rest)) f (omega arith) (λ m also.
            looped m (omega arith));
      }

  else-reads : {loops : Loops} {room : ℕ} {other : Option Clause} {tokens rest : Tokens} → IsElse loops room other tokens rest → (f : ℕ) → 16 * length tokens < f
      → r.else_clause f loops room tokens ≡ Ok (other, rest)
  else-reads (i.no_else {loops = loops} {room = room} {rest = rest} none) f enough =
      step (λ f. r.else_clause f loops room rest ≡ Ok (None, rest)) f (omega arith) (λ m also. rw none)
  else-reads (i.else_here {loops = loops} {room = room} {other = other} {tokens = tokens} {inside = inside} {rest = rest} is first) f enough =
      step (λ f. r.else_clause f loops room tokens ≡ Ok (Some other, rest)) f (omega arith) (λ m also.
      let c = word-shorter (codes "ELSE") tokens inside is in rw (is, reads first m (omega arith)))

  whens-read : {loops : Loops} {room : ℕ} {list : List When} {tokens rest : Tokens} → AreWhens loops room list tokens rest → (f : ℕ) → 16 * length tokens + 9 < f
      → whens f loops room tokens ≡ Ok (list, rest)
  whens-read (i.no_when {loops = loops} {room = room} {rest = rest} none) f enough =
      step (λ f. whens f loops room rest ≡ Ok ([], rest)) f (omega arith) (λ m also. rw (no-symbol (codes "WHEN") rest none))
  whens-read (i.when_here {loops = loops} {room = room} {test = expr} {chosen = chosen} {whens = list} {tokens = tokens} {behind = behind} {inside = inside} {others = others} {rest = rest} t is fits then_ first more) f enough =
      step (λ f. whens f loops room (t ∷ tokens) ≡ Ok (when expr chosen ∷ list, rest)) f (omega arith) (λ m also.
      let c = fits-shorter fits in let d = then-shorter behind inside then_ in let h = shorter first in
      rw (is, expression-read fits, then_, reads first m (omega arith), whens-read more m (omega arith)))

  otherwise-reads : {loops : Loops} {room : ℕ} {other : Option (List Clause)} {tokens rest : Tokens} → IsOtherwise loops room other tokens rest → (f : ℕ) → 16 * length tokens < f
      → r.otherwise f loops room tokens ≡ Ok (other, rest)
  otherwise-reads (i.no_otherwise {loops = loops} {room = room} {rest = rest} none) f enough =
      step (λ f. r.otherwise f loops room rest ≡ Ok (None, rest)) f (omega arith) (λ m also. rw none)
  otherwise-reads (i.otherwise_here {loops = loops} {room = room} {clauses = list} {tokens = tokens} {inside = inside} {rest = rest} is are) f enough =
      step (λ f. r.otherwise f loops room tokens ≡ Ok (Some list, rest)) f (omega arith) (λ m also.
      let c = word-shorter (codes "OTHERWISE") tokens inside is in rw (is, list-reads are m (omega arith)))

  list-reads : {loops : Loops} {room : ℕ} {list : List Clause} {tokens rest : Tokens} → AreClauses loops room list tokens rest → (f : ℕ) → 16 * length tokens + 9 < f
      → clauses f loops room tokens ≡ Ok (list, rest)
  list-reads (i.no_clause {loops = loops} {room = room} {rest = rest} ends) f enough =
      step (λ f. clauses f loops room rest ≡ Ok ([], rest)) f (omega arith) (λ m also. rw ends)
  list-reads (i.one_clause {loops = loops} {room = room} {first = first} {clauses = list} {tokens = tokens} {rest = rest} isnt is more) f enough =
      step (λ f. clauses f loops room tokens ≡ Ok (first ∷ list, rest)) f (omega arith) (λ m also.
      let h = shorter is in rw (isnt, reads is m (omega arith), list-reads more m (omega arith)))

-- ---- what is read is written

ended-sure : (here : Tokens) (loops : Loops) (room number : ℕ) (control : Option Name) (kind : ClauseKind) (tokens : Tokens)
    → ((rest : Tokens) → behind_block control tokens ≡ Some rest → IsInstruction loops room kind here rest)
    → Sure (λ same rest. IsInstruction loops room same here rest) (r.ended number control kind tokens)
ended-sure here loops room number control kind tokens go = sure-some _ _ _ (λ none. refused _) (λ rest is. found kind rest (go rest is))

loop-no-group : (kind : TokenKind) (tokens : Tokens) → kind ≡ word (codes "LOOP") → is_group kind tokens ≡ false
loop-no-group kind [] is = refl
loop-no-group kind (u ∷ rest) is = rw is

do-no-group : (kind : TokenKind) (tokens : Tokens) → kind ≡ word (codes "DO") → behind_end tokens ≡ None → is_group kind tokens ≡ false
do-no-group kind [] is none = refl
do-no-group kind (u ∷ rest) is none = ap (λ (x : TokenKind). is_word (codes "DO") x && is_clause_end u.kind) is ∙ go (is_clause_end u.kind) none
  where
    go : (test : Bool) → (let y : Option Tokens = if test then Some rest else None in y ≡ None) → test ≡ false
    go true p = cc
    go false p = refl

send-sure : (here behind : Tokens) (receiver : Expr) (part : SendPart) → IsAssignedTerm receiver part here behind
    → Sure (λ one rest. IsSendAssign one here rest) (send_assign (receiver, part) behind)
send-sure here behind receiver part term = sure-then _ _ (last-sure behind) (λ expr rest last. found (c.SendAssign receiver part expr) rest (a.send_assign term last))

none-no : (list : List When) → r.are_none list ≡ false → list ≢ []
none-no [] is = cc
none-no (first ∷ list) is = λ e. cc

-- a clause by what it begins with, where instructions are read surely
started-sure : (loops : Loops) (room : ℕ) (t : Token) (tokens : Tokens) (by : Keyword → Outcome ClauseKind)
    → ((keyword : Keyword) → keyword_of t.kind ≡ Some keyword → Sure (λ kind rest. IsInstruction loops room kind (t ∷ tokens) rest) (by keyword))
    → (begun : Start × Tokens) → Started t tokens begun → Sure (λ first rest. IsClause loops room first (t ∷ tokens) rest) (by_start by (t ∷ tokens) begun.0 begun.1)
started-sure loops room t tokens by go _ (assigns is) =
    sure-then _ _ (assignment-sure (t ∷ tokens)) (λ one rest so. found _ rest (i.assignment t so))
started-sure loops room t tokens by go _ (sends {receiver = receiver} {part = part} {rest = behind} isnt term) =
    sure-then _ _ (send-sure (t ∷ tokens) behind receiver part term) (λ one rest so. found _ rest (i.by_message t isnt so))
started-sure loops room t tokens by go _ (labels is) = refused _
started-sure loops room t tokens by go _ (instructs {keyword = keyword} other is) =
    sure-then _ _ (go keyword is) (λ kind rest so. found _ rest (i.instruction t other so))
started-sure loops room t tokens by go _ (tells other is) =
    sure-if _ _ _ (λ ends. refused _) (λ goes.
    sure-then _ _ (message-sure (t ∷ tokens)) (λ one rest so. found _ rest (i.message t other (keyword-no t.kind is) so)))

nothing-sure : (loops : Loops) (room : ℕ) (by : Keyword → Outcome ClauseKind)
    → Sure (λ first rest. IsClause loops room first [] rest) (by_start by [] (start []).0 (start []).1)
unfolding start
nothing-sure loops room by = refused _

mutual
  pub read-sure : (f : ℕ) (loops : Loops) (room : ℕ) (tokens : Tokens) → Sure (λ first rest. IsClause loops room first tokens rest) (read f loops room tokens)
  read-sure zero loops room tokens = refused _
  read-sure (suc m) loops room [] = nothing-sure loops room _
  read-sure (suc m) loops room (t ∷ tokens) =
      started-sure loops room t tokens (λ keyword. instruction m loops room keyword (t ∷ tokens) tokens)
      (λ keyword is. instruction-sure m loops room keyword t tokens is) (start (t ∷ tokens)) (started t tokens)

  instruction-sure : (f : ℕ) (loops : Loops) (room : ℕ) (keyword : Keyword) (t : Token) (tokens : Tokens) → keyword_of t.kind ≡ Some keyword
      → Sure (λ kind rest. IsInstruction loops room kind (t ∷ tokens) rest) (instruction f loops room keyword (t ∷ tokens) tokens)
  instruction-sure zero loops room keyword t tokens is = refused _
  instruction-sure (suc m) loops room (w.Other by) t tokens is = sure-then _ _ (simple-sure loops by t tokens is) (λ one rest so. found _ rest (i.simple so))
  instruction-sure (suc m) loops room w.Procedure t tokens is = refused _
  instruction-sure (suc m) loops room w.Expose t tokens is = refused _
  instruction-sure (suc m) loops zero w.If t tokens is = refused _
  instruction-sure (suc m) loops zero w.Select t tokens is = refused _
  instruction-sure (suc m) loops zero w.Do t tokens is = refused _
  instruction-sure (suc m) loops zero w.Loop t tokens is = refused _
  instruction-sure (suc m) loops (suc room) w.If t tokens is = choice-sure m loops room t tokens (keyword-is t.kind w.If is)
  instruction-sure (suc m) loops (suc room) w.Select t tokens is = select-sure m loops room t tokens (keyword-is t.kind w.Select is)
  instruction-sure (suc m) loops (suc room) w.Do t tokens is =
      sure-some _ _ _
      (λ none. loop-sure m loops room t tokens (ap begins_loop (keyword-is t.kind w.Do is)) (do-no-group t.kind tokens (keyword-is t.kind w.Do is) none))
      (λ inside end. group-sure m loops room t tokens inside (keyword-is t.kind w.Do is) end)
  instruction-sure (suc m) loops (suc room) w.Loop t tokens is =
      loop-sure m loops room t tokens (ap begins_loop (keyword-is t.kind w.Loop is)) (loop-no-group t.kind tokens (keyword-is t.kind w.Loop is))

  choice-sure : (f : ℕ) (loops : Loops) (room : ℕ) (t : Token) (tokens : Tokens) → t.kind ≡ word (codes "IF")
      → Sure (λ kind rest. IsInstruction loops (suc room) kind (t ∷ tokens) rest) (r.choice f loops room tokens)
  choice-sure zero loops room t tokens is = refused _
  choice-sure (suc m) loops room t tokens is =
      sure-then _ _ (expression-sure s.Then tokens) (λ expr behind fits.
      sure-some _ _ _ (λ none. refused _) (λ inside then_.
      sure-then _ _ (read-sure m loops room inside) (λ first others so.
      sure-then _ _ (else-sure m loops room others) (λ other rest also. found _ rest (i.choice t is fits then_ so also)))))

  else-sure : (f : ℕ) (loops : Loops) (room : ℕ) (tokens : Tokens) → Sure (λ other rest. IsElse loops room other tokens rest) (r.else_clause f loops room tokens)
  else-sure zero loops room tokens = refused _
  else-sure (suc m) loops room tokens =
      sure-some _ _ _ (λ none. found None tokens (i.no_else none)) (λ inside is.
      sure-then _ _ (read-sure m loops room inside) (λ other rest so. found (Some other) rest (i.else_here is so)))

  select-sure : (f : ℕ) (loops : Loops) (room : ℕ) (t : Token) (tokens : Tokens) → t.kind ≡ word (codes "SELECT")
      → Sure (λ kind rest. IsInstruction loops (suc room) kind (t ∷ tokens) rest) (r.select f loops room tokens)
  select-sure zero loops room t tokens is = refused _
  select-sure (suc m) loops room t tokens is =
      sure-some _ _ _ (λ none. refused _) (λ inside end.
      sure-then _ _ (whens-sure m loops room inside) (λ list behind are.
      sure-if _ _ _ (λ none. refused _) (λ some.
      sure-then _ _ (otherwise-sure m loops room behind) (λ other others so.
      ended-sure (t ∷ tokens) loops (suc room) 7 None _ others (λ rest ends. i.select t is end are (none-no list some) so ends)))))

  pub whens-sure : (f : ℕ) (loops : Loops) (room : ℕ) (tokens : Tokens) → Sure (λ list rest. AreWhens loops room list tokens rest) (whens f loops room tokens)
  whens-sure zero loops room tokens = refused _
  whens-sure (suc m) loops room tokens =
      sure-some _ _ _ (λ none. found [] tokens (i.no_when (symbol-no (codes "WHEN") tokens none))) (λ after is.
      sure-then _ _ (expression-sure s.Then after) (λ expr behind fits.
      sure-some _ _ _ (λ none. refused _) (λ inside then_.
      sure-then _ _ (read-sure m loops room inside) (λ first others so.
      sure-then _ _ (whens-sure m loops room others) (λ list rest more.
      found _ rest (at-word (λ ts. AreWhens loops room (when expr first ∷ list) ts rest) (codes "WHEN") tokens after is (λ t y. i.when_here t y fits then_ so more)))))))

  otherwise-sure : (f : ℕ) (loops : Loops) (room : ℕ) (tokens : Tokens) → Sure (λ other rest. IsOtherwise loops room other tokens rest) (r.otherwise f loops room tokens)
  otherwise-sure zero loops room tokens = refused _
  otherwise-sure (suc m) loops room tokens =
      sure-some _ _ _ (λ none. found None tokens (i.no_otherwise none)) (λ inside is.
      sure-then _ _ (list-sure m loops room inside) (λ list rest so. found (Some list) rest (i.otherwise_here is so)))

  group-sure : (f : ℕ) (loops : Loops) (room : ℕ) (t : Token) (tokens inside : Tokens) → t.kind ≡ word (codes "DO") → behind_end tokens ≡ Some inside
      → Sure (λ kind rest. IsInstruction loops (suc room) kind (t ∷ tokens) rest) (r.group f loops room inside)
  group-sure zero loops room t tokens inside is end = refused _
  group-sure (suc m) loops room t tokens inside is end =
      sure-then _ _ (list-sure m loops room inside) (λ list others are.
      ended-sure (t ∷ tokens) loops (suc room) 10 None _ others (λ rest ends. i.group t is end are ends))

  loop-sure : (f : ℕ) (loops : Loops) (room : ℕ) (t : Token) (tokens : Tokens) → begins_loop t.kind ≡ true → is_group t.kind tokens ≡ false
      → Sure (λ kind rest. IsInstruction loops (suc room) kind (t ∷ tokens) rest) (r.loop f loops room tokens)
  loop-sure zero loops room t tokens is isnt = refused _
  loop-sure (suc m) loops room t tokens is isnt =
      sure-then _ _ (header-sure tokens) (λ head behind begun.
      sure-then _ _ (test-sure behind) (λ tested inside so.
      sure-then _ _ (list-sure m (loops ++ control_of head ∷ []) room inside) (λ list others are.
      ended-sure (t ∷ tokens) loops (suc room) 10 (control_of head) _ others (λ rest ends. i.loop t is isnt begun so are ends))))

  list-sure : (f : ℕ) (loops : Loops) (room : ℕ) (tokens : Tokens) → Sure (λ list rest. AreClauses loops room list tokens rest) (clauses f loops room tokens)
  list-sure zero loops room tokens = refused _
  list-sure (suc m) loops room tokens =
      sure-if _ _ _ (λ ends. found [] tokens (i.no_clause ends)) (λ isnt.
      sure-then _ _ (read-sure m loops room tokens) (λ first behind so.
      sure-then _ _ (list-sure m loops room behind) (λ others rest more. found _ rest (i.one_clause isnt so more))))
