-- Assignments, assignments by a message, and message clauses: what is written is read, and what is read is written.
use Rattle.std.proofs.Common.{◌≡◌, ◌+◌, ◌*◌, ◌<◌, Bool, true, false, ◌&&◌, not, if◌then◌else◌, List, [], ◌∷◌, ◌++◌, length, Option, Some, None, Ok, Err, refl, sym, ◌∙◌, ap, subst, arith}
use Rattle.std.proofs.lemmas.Bool.Decides.{nat_tests}
use Rattle.rx_tree.specs.declared.name.Name.{Name}
use Rattle.rx_tree.specs.declared.token.Oper.{Oper}
use Rattle.rx_tree.specs.declared.token.Oper.TheVariants as o
use Rattle.rx_tree.specs.declared.token.Token.{Token}
use Rattle.rx_tree.specs.declared.token.TokenKind.{TokenKind}
use Rattle.rx_tree.specs.declared.token.TokenKind.TheVariants as k
use Rattle.rx_tree.specs.declared.expr.Expr.{Expr, out-Expr, roll-Expr}
use Rattle.rx_tree.specs.declared.expr.Expr.TheOpen.{Expr-F}
use Rattle.rx_tree.specs.declared.expr.Expr.TheViews.{roll-out-Expr}
use Rattle.rx_tree.specs.declared.expr.Expr.TheVariants as e
use Rattle.rx_tree.specs.declared.expr.SendPart.{SendPart, out-SendPart}
use Rattle.rx_tree.specs.declared.stops.Stops.TheVariants as s
use Rattle.rx_tree.specs.Operators.{Tokens}
use Rattle.rx_tree.specs.Expressions.{IsSpelt, looseness, layer_looseness}
use Rattle.rx_exprs.specs.Marks.{opening_of}
use Rattle.rx_exprs.specs.Reader.{Outcome}
use Rattle.rx_exprs.specs.Forms.{level_form}
use Rattle.rx_exprs.proofs.Tables.{some-is, not-one}
use Rattle.rx_exprs.proofs.Levels.{levelled, raise, spelt}
use Rattle.rx_exprs.proofs.Taking.{reads}
use Rattle.rx_exprs.proofs.Giving.{taken}
use Rattle.rx_clause_tree.specs.declared.simple.Simple.{Simple}
use Rattle.rx_clause_tree.specs.declared.simple.Simple.TheVariants as c
use Rattle.rx_clause_tree.specs.ClauseWords.{variable_of, is_equal, assigning_of, begins_assignment}
use Rattle.rx_clause_tree.specs.Assignments.{with_operator, is_assigned, with_messages, IsAssignment, assign, assign_with, IsAssignedTerm, assigned, BeginsNoSendAssign, IsMessage, message}
use Rattle.rx_clauses.specs.Starts as r
use Rattle.rx_clauses.specs.Starts.{Assigned, split_more, split_behind, split_last, if_assigned, assigned_sends, assigned_term, if_read, assigned_at}
use Rattle.rx_clauses.proofs.Sure.{Sure, sure-then, sure-if, refused, found}
use Rattle.rx_clauses.proofs.PartsLaw.{last-read, last-sure, last-shorter}

pub equal-is : (kind : TokenKind) → is_equal kind ≡ true → kind ≡ k.Operator o.Equal
equal-is (k.Operator o.Equal) is = refl
equal-is (k.Operator _) is = cc
equal-is _ is = cc

assigning-not-equal : (kind : TokenKind) (oper : Oper) → assigning_of kind ≡ Some oper → is_equal kind ≡ false
assigning-not-equal (k.Operator o.Equal) oper is = cc
assigning-not-equal (k.Operator _) oper is = refl
assigning-not-equal _ oper is = refl

-- ---- assignments

pub assignment-begins : {one : Simple} {tokens rest : Tokens} → IsAssignment one tokens rest → begins_assignment tokens ≡ true
assignment-begins (assign t u named equal last) = rw (named, equal)
assignment-begins (assign_with {oper = oper} t u v named by equal close last) = rw (named, by, assigning-not-equal u.kind oper by, equal, close)

pub assignment-read : {one : Simple} {tokens rest : Tokens} → IsAssignment one tokens rest → r.assignment tokens ≡ Ok (one, rest)
assignment-read (assign t u named equal last) = rw (named, equal, last-read last)
assignment-read (assign_with {oper = oper} t u v named by equal close last) =
    rw (named, assigning-not-equal u.kind oper by, by, equal, close, last-read last)

pub assignment-shorter : {one : Simple} {tokens rest : Tokens} → IsAssignment one tokens rest → length rest < length tokens
assignment-shorter (assign t u named equal last) = let h = last-shorter last in omega arith
assignment-shorter (assign_with t u v named by equal close last) = let h = last-shorter last in omega arith

both-so : (a b : Bool) → (a && b) ≡ true → (a ≡ true) × (b ≡ true)
both-so true true is = (refl, refl)
both-so true false is = cc
both-so false b is = cc

not-so : (a : Bool) → not a ≡ true → a ≡ false
not-so true is = cc
not-so false is = refl

by-sure : (t u : Token) (name : Name) (oper : Oper) (tokens : Tokens) → variable_of t.kind ≡ Some name → assigning_of u.kind ≡ Some oper
    → Sure (λ one rest. IsAssignment one (t ∷ (u ∷ tokens)) rest) (r.assign_by name oper tokens)
by-sure t u name oper [] named by = refused _
by-sure t u name oper (v ∷ tokens) named by =
    sure-if _ _ _
    (λ both. sure-then _ _ (last-sure tokens) (λ expr rest last.
    let b = both-so (is_equal v.kind) (not v.blank) both in
    found (c.Assign name (with_operator name oper expr)) rest (assign_with t u v named by b.0 (not-so v.blank b.1) last)))
    (λ other. refused _)

to-sure : (t : Token) (name : Name) (behind : Tokens) → variable_of t.kind ≡ Some name → Sure (λ one rest. IsAssignment one (t ∷ behind) rest) (r.assign_to name behind)
to-sure t name [] named = refused _
to-sure t name (u ∷ tokens) named =
    sure-if _ _ _ (λ equal. sure-then _ _ (last-sure tokens) (λ expr rest last. found (c.Assign name expr) rest (assign t u named equal last)))
    (λ other. go (assigning_of u.kind) refl)
  where
    go : (by : Option Oper) → assigning_of u.kind ≡ by → Sure (λ one rest. IsAssignment one (t ∷ (u ∷ tokens)) rest) (r.assign_with name by (u ∷ tokens) tokens)
    go None is = refused _
    go (Some oper) is = by-sure t u name oper tokens named is

pub assignment-sure : (tokens : Tokens) → Sure (λ one rest. IsAssignment one tokens rest) (r.assignment tokens)
assignment-sure [] = refused _
assignment-sure (t ∷ behind) = go (variable_of t.kind) refl
  where
    go : (name : Option Name) → variable_of t.kind ≡ name → Sure (λ one rest. IsAssignment one (t ∷ behind) rest) (r.assign name behind)
    go None is = refused _
    go (Some name) is = to-sure t name behind is

-- ---- assignments by a message

split-behind : (one : SendPart) (before : List SendPart) (last : SendPart) → split_behind one (before ++ last ∷ []) ≡ Some (one ∷ before, last)
split-behind one [] last = refl
split-behind one (next ∷ before) last = rw (split-behind next before last)

pub split-is : (before : List SendPart) (last : SendPart) → split_last (before ++ last ∷ []) ≡ Some (before, last)
split-is [] last = refl
split-is (one ∷ before) last = split-behind one before last

behind-split : (one : SendPart) (parts : List SendPart) (found : List SendPart × SendPart) → split_behind one parts ≡ Some found
    → one ∷ parts ≡ found.0 ++ found.1 ∷ []
behind-split one [] found is = ap (λ f. f.0 ++ f.1 ∷ []) (some-is is)
behind-split one (next ∷ parts) found is = go (λ later same. behind-split next parts later same) (split_behind next parts) refl is
  where
    go : ((later : List SendPart × SendPart) → split_behind next parts ≡ Some later → next ∷ parts ≡ later.0 ++ later.1 ∷ [])
        → (more : Option (List SendPart × SendPart)) → split_behind next parts ≡ more → split_more one more ≡ Some found → one ∷ (next ∷ parts) ≡ found.0 ++ found.1 ∷ []
    go split None same made = cc
    go split (Some later) same made = ap (λ l. one ∷ l) (split later same) ∙ ap (λ f. f.0 ++ f.1 ∷ []) (some-is made)

is-split : (parts : List SendPart) (found : List SendPart × SendPart) → split_last parts ≡ Some found → parts ≡ found.0 ++ found.1 ∷ []
is-split [] found is = cc
is-split (one ∷ parts) found is = behind-split one parts found is

pub loose-sends : (receiver : Expr) (parts : List SendPart) → looseness (e.Sends receiver parts) ≡ 1
unfolding looseness
loose-sends receiver parts = ap layer_looseness (e.outs-Sends receiver parts)

term-read : (term : Expr) (tokens rest : Tokens) (u : Token) → IsSpelt s.Nothing term tokens (u ∷ rest) → looseness term ≡ 1 → is_equal u.kind ≡ true
    → level_form s.Nothing 1 tokens ≡ Ok (term, u ∷ rest)
unfolding level_form
term-read term tokens rest u spelt loose equal =
    let i = levelled spelt in
    let longest = not-one s.Nothing (u ∷ rest) (ap opening_of (equal-is u.kind equal)) in
    reads (raise (looseness term) 1 i.written (omega arith)) (16 * length tokens + 1 + 2) longest (omega arith)

pub assigned-read : {receiver : Expr} {part : SendPart} {tokens rest : Tokens} → IsAssignedTerm receiver part tokens rest
    → assigned_at tokens ≡ Some ((receiver, part), rest)
unfolding assigned_at
assigned-read (assigned {tokens = tokens} {rest = rest} receiver before last u spelt plain equal) =
    let parts = before ++ last ∷ [] in
    let was = term-read (e.Sends receiver parts) tokens rest u spelt (loose-sends receiver parts) equal in
    rw (was, equal, e.outs-Sends receiver parts, split-is before last, plain)

pub record IsFound (receiver : Expr) (part : SendPart) (tokens rest : Tokens) : Type 0 where
  pub so : IsAssignedTerm receiver part tokens rest

found-is : (tokens : Tokens) (receiver : Expr) (parts : List SendPart) (u : Token) (rest behind : Tokens) (one : Assigned)
    → IsSpelt s.Nothing (e.Sends receiver parts) tokens (u ∷ behind) → is_equal u.kind ≡ true
    → (split : Option (List SendPart × SendPart)) → split_last parts ≡ split → if_assigned receiver split behind ≡ Some (one, rest) → IsAssignedTerm one.0 one.1 tokens rest
found-is tokens receiver parts u rest behind one spelt equal None same is = cc
found-is tokens receiver parts u rest behind one spelt equal (Some found) same is = go (is_assigned (out-SendPart found.1)) refl is
  where
    whole : IsSpelt s.Nothing (e.Sends receiver (found.0 ++ found.1 ∷ [])) tokens (u ∷ behind)
    whole = subst (λ (l : List SendPart). IsSpelt s.Nothing (e.Sends receiver l) tokens (u ∷ behind)) (is-split parts found same) spelt

    go : (plain : Bool) → is_assigned (out-SendPart found.1) ≡ plain
        → (let y : Option (Assigned × Tokens) = if plain then Some ((with_messages receiver found.0, found.1), behind) else None in y ≡ Some (one, rest))
        → IsAssignedTerm one.0 one.1 tokens rest
    go false p made = cc
    go true p made =
        subst (λ (f : Assigned × Tokens). IsAssignedTerm f.0.0 f.0.1 tokens f.1) (some-is made) (assigned receiver found.0 found.1 u whole p equal)

sends-is : (tokens : Tokens) (term : Expr) (layer : Expr-F Expr SendPart) (u : Token) (rest behind : Tokens) (one : Assigned) → out-Expr term ≡ layer
    → IsSpelt s.Nothing term tokens (u ∷ behind) → is_equal u.kind ≡ true → assigned_sends layer behind ≡ Some (one, rest) → IsAssignedTerm one.0 one.1 tokens rest
sends-is tokens term (Expr-F.Sends receiver parts) u rest behind one same spelt equal is =
    let t : term ≡ e.Sends receiver parts = sym (roll-out-Expr term) ∙ ap roll-Expr same ∙ e.rolls-Sends receiver parts in
    found-is tokens receiver parts u rest behind one (subst (λ (x : Expr). IsSpelt s.Nothing x tokens (u ∷ behind)) t spelt) equal (split_last parts) refl is
sends-is tokens term _ u rest behind one same spelt equal is = cc

term-is : (tokens : Tokens) (term : Expr) (behind rest : Tokens) (one : Assigned) → IsSpelt s.Nothing term tokens behind → assigned_term term behind ≡ Some (one, rest)
    → IsAssignedTerm one.0 one.1 tokens rest
term-is tokens term [] rest one spelt is = cc
term-is tokens term (u ∷ behind) rest one spelt is = go (is_equal u.kind) refl is
  where
    go : (equal : Bool) → is_equal u.kind ≡ equal → (if equal then assigned_sends (out-Expr term) behind else None) ≡ Some (one, rest) → IsAssignedTerm one.0 one.1 tokens rest
    go true p same = sends-is tokens term (out-Expr term) u rest behind one refl spelt p same
    go false p same = cc

term-taken : (tokens : Tokens) (term : Expr) (behind : Tokens) → level_form s.Nothing 1 tokens ≡ Ok (term, behind) → IsSpelt s.Nothing term tokens behind
unfolding level_form
term-taken tokens term behind is = (spelt (taken (16 * length tokens + 1 + 2) s.Nothing 1 tokens term behind (omega arith) is).written).spelt

pub assigned-is : (tokens rest : Tokens) (one : Assigned) → assigned_at tokens ≡ Some (one, rest) → IsAssignedTerm one.0 one.1 tokens rest
unfolding assigned_at
assigned-is tokens rest one is = go (level_form s.Nothing 1 tokens) refl is
  where
    go : (r : Outcome Expr) → level_form s.Nothing 1 tokens ≡ r → if_read r ≡ Some (one, rest) → IsAssignedTerm one.0 one.1 tokens rest
    go (Ok all) same made = term-is tokens all.0 all.1 rest one (term-taken tokens all.0 all.1 same) made
    go (Err fault) same made = cc

none-assigned : (found : Option (Assigned × Tokens)) → ((one : Assigned) (rest : Tokens) → found ≡ Some (one, rest) → ⊥) → found ≡ None
none-assigned None none = refl
none-assigned (Some found) none = absurd (none found.0 found.1 refl)

pub no-assigned : (tokens : Tokens) → BeginsNoSendAssign tokens → assigned_at tokens ≡ None
no-assigned tokens none = none-assigned (assigned_at tokens) (λ one rest is. none one.0 one.1 rest (assigned-is tokens rest one is))

some-none : (found : Assigned × Tokens) → (let x : Option (Assigned × Tokens) = Some found in x ≡ None) → ⊥
some-none found is = cc

pub assigned-no : (tokens : Tokens) → assigned_at tokens ≡ None → BeginsNoSendAssign tokens
assigned-no tokens is receiver part rest term = some-none ((receiver, part), rest) (sym (assigned-read term) ∙ is)

-- ---- message clauses

pub message-read : {one : Simple} {tokens rest : Tokens} → IsMessage one tokens rest → r.message tokens ≡ Ok (one, rest)
message-read (message last loose) = rw (last-read last, loose)

pub message-shorter : {one : Simple} {tokens rest : Tokens} → IsMessage one tokens rest → length rest < length tokens
message-shorter (message last loose) = last-shorter last

pub message-sure : (tokens : Tokens) → Sure (λ one rest. IsMessage one tokens rest) (r.message tokens)
message-sure tokens =
    sure-then _ _ (last-sure tokens) (λ term rest last.
    sure-if _ _ _ (λ loose. let same : looseness term ≡ 1 = grind (arith, nat_tests) in found (c.Message term) rest (message last same)) (λ other. refused _))
