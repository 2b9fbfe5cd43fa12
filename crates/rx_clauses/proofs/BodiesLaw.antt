-- Bodies: what is written is read, and what is read is written; so at most one body fits.
use Rattle.std.proofs.Common.{◌≡◌, ℕ, zero, suc, ◌+◌, ◌*◌, ◌<◌, Bool, true, false, ◌&&◌, ◌||◌, List, [], ◌∷◌, length, Option, Some, None, is_some, Ok, Err, refl, sym, ◌∙◌, ap, subst, arith}
use Rattle.std.specs.Prelude.{codes}
use Rattle.rx_tree.specs.declared.token.Token.{Token}
use Rattle.rx_tree.specs.declared.token.TokenKind.{TokenKind}
use Rattle.rx_tree.specs.declared.token.TokenKind.TheVariants as k
use Rattle.rx_tree.specs.declared.name.Name.TheVariants as v
use Rattle.rx_tree.specs.declared.value.Value.TheVariants.{Str}
use Rattle.rx_tree.specs.declared.expr.Expr.{Expr}
use Rattle.rx_tree.specs.declared.expr.Expr.TheVariants as e
use Rattle.rx_tree.specs.declared.stops.Stops.TheVariants as s
use Rattle.rx_tree.specs.StopWords.{is_stop, is_stop_word}
use Rattle.rx_tree.specs.Operators.{Tokens}
use Rattle.rx_tree.specs.Terms.{term_of, direct_call, call_at, is_colon}
use Rattle.rx_exprs.specs.Marks.{opening_of}
use Rattle.rx_exprs.specs.Reader.{Outcome}
use Rattle.rx_exprs.specs.Forms.{level_form}
use Rattle.rx_exprs.proofs.Written as n
use Rattle.rx_exprs.proofs.Levels.{raise}
use Rattle.rx_exprs.proofs.Taking as taking
use Rattle.rx_exprs.proofs.Steps.{step}
use Rattle.rx_exprs.proofs.Tables.{ok-is, not-one}
use Rattle.rx_clause_tree.specs.declared.simple.Simple.{Simple}
use Rattle.rx_clause_tree.specs.declared.simple.Simple.TheVariants as c
use Rattle.rx_clause_tree.specs.declared.clause.Clause.{Clause}
use Rattle.rx_clause_tree.specs.declared.clause.Body.{Body}
use Rattle.rx_clause_tree.specs.declared.clause.ClauseKind.{ClauseKind}
use Rattle.rx_clause_tree.specs.declared.clause.ClauseKind.TheVariants as x
use Rattle.rx_clause_tree.specs.ClauseWords.{word, variable_of, symbol_of, is_clause_end, behind_end, skip, is_equal, is_assigning, begins_assignment, begins_label}
use Rattle.rx_clause_tree.specs.Assignments.{BeginsNoSendAssign, IsAssignedTerm, IsLabel}
use Rattle.rx_clause_tree.specs.Assignments as a
use Rattle.rx_clause_tree.specs.Clauses.{BeginsOther, IsClause, clause}
use Rattle.rx_clause_tree.specs.Clauses as i
use Rattle.rx_clause_tree.specs.Bodies as d
use Rattle.rx_clause_tree.specs.declared.clause.Before.{Before}
use Rattle.rx_clause_tree.specs.declared.clause.Before.TheVariants.{Nothing, Labels, Clauses}
use Rattle.rx_clause_tree.specs.Bodies.{most_blocks, IsExpose, IsProcedure, is_two_colons, ends_body, AreBodyClauses, IsBody}
use Rattle.rx_clauses.specs.declared.keyword.Keyword.{Keyword}
use Rattle.rx_clauses.specs.declared.keyword.Keyword.TheVariants as w
use Rattle.rx_clauses.specs.declared.start.Start.{Start}
use Rattle.rx_clauses.specs.declared.start.Start.TheVariants as b
use Rattle.rx_clauses.specs.Keywords.{keyword_of}
use Rattle.rx_clauses.specs.Parts.{behind_symbol}
use Rattle.rx_clauses.specs.Starts.{assigned_term, if_read, assigned_at}
use Rattle.rx_clauses.specs.Reader as r
use Rattle.rx_clauses.specs.Reader.{start, as_clause, line_of, turns, clause_at, body_clause, body_clauses, in_body, body}
use Rattle.rx_clauses.proofs.Sure.{Sure, sure-then, sure-some, sure-if, sure-as, so-read, refused, found}
use Rattle.rx_clauses.proofs.Words.{First, end-found, end-is, end-shorter, skip-shorter}
use Rattle.rx_clauses.proofs.KeywordLemmas.{keyword-is, no-keyword}
use Rattle.rx_clauses.proofs.PartsLaw.{names-shorter, some-names-read, some-names-sure, to-end-sure}
use Rattle.rx_clauses.proofs.PlainLaw.{at-word}
use Rattle.rx_clauses.proofs.StartsLaw.{assignment-begins, assigned-read}
use Rattle.rx_clauses.proofs.ClausesLaw.{start-assignment, start-sending, start-word, start-other, Started, assigns, sends, labels, instructs, tells, started, shorter, reads, instruction-reads, read-sure, first_keyword}

-- ---- labels

colon-kind : (kind : TokenKind) → is_colon kind ≡ true → kind ≡ k.Colon
colon-kind k.Colon is = refl
colon-kind _ is = cc

symbol-term : (kind : TokenKind) (name : List ℕ) → symbol_of kind ≡ Some name → (expr : Expr) × (term_of kind ≡ Some expr)
symbol-term (k.Simple one) name is = (e.Name (v.Simple one), refl)
symbol-term (k.Stem one) name is = (e.Name (v.Stem one), refl)
symbol-term (k.Compound one tail) name is = (e.Name (v.Compound one tail), refl)
symbol-term (k.Constant one) name is = (e.Const (Str one), refl)
symbol-term (k.Environment one) name is = (e.Environment one, refl)
symbol-term _ name is = cc

no-stop : (kind : TokenKind) → is_stop s.Nothing kind ≡ false
unfolding is_stop_word
no-stop (k.Simple name) = refl
no-stop _ = refl

label-term : (t u : Token) (rest : Tokens) (name : List ℕ) → symbol_of t.kind ≡ Some name → u.kind ≡ k.Colon
    → (expr : Expr) × (level_form s.Nothing 1 (t ∷ (u ∷ rest)) ≡ Ok (expr, u ∷ rest))
unfolding level_form
label-term t u rest name named colon =
    let term = symbol-term t.kind name named in
    let none : call_at (u ∷ rest) ≡ None = ap (λ (kind : TokenKind). direct_call kind u.blank rest) colon in (
      term.0,
      taking.reads (raise 0 1 (n.word t term.1 (no-stop t.kind) none) (omega arith)) (16 * length (t ∷ (u ∷ rest)) + 1 + 2)
          (not-one s.Nothing (u ∷ rest) (ap opening_of colon)) (omega arith),
    )

no-equal : (expr : Expr) (u : Token) (rest : Tokens) → u.kind ≡ k.Colon → assigned_term expr (u ∷ rest) ≡ None
no-equal expr u rest colon = rw colon

label-no-term : (t u : Token) (rest : Tokens) (name : List ℕ) → symbol_of t.kind ≡ Some name → u.kind ≡ k.Colon → assigned_at (t ∷ (u ∷ rest)) ≡ None
unfolding assigned_at
label-no-term t u rest name named colon = let term = label-term t u rest name named colon in ap if_read term.1 ∙ no-equal term.0 u rest colon

label-no-assign : (t u : Token) (rest : Tokens) (name : List ℕ) → symbol_of t.kind ≡ Some name → u.kind ≡ k.Colon → begins_assignment (t ∷ (u ∷ rest)) ≡ false
label-no-assign t u rest name named colon = go (is_some (variable_of t.kind)) rest
  where
    go : (test : Bool) (rest : Tokens) → (test && (is_equal u.kind || is_assigning u rest)) ≡ false
    go false rest = refl
    go true [] = rw colon
    go true (v ∷ rest) = rw colon

start-label : (t u : Token) (rest : Tokens) (name : List ℕ) → symbol_of t.kind ≡ Some name → u.kind ≡ k.Colon → start (t ∷ (u ∷ rest)) ≡ (b.Label, t ∷ (u ∷ rest))
unfolding start
start-label t u rest name named colon = rw (label-no-assign t u rest name named colon, label-no-term t u rest name named colon, named, colon)

label-no-body : (t : Token) (rest : Tokens) (name : List ℕ) → symbol_of t.kind ≡ Some name → ends_body (t ∷ rest) ≡ false
label-no-body t rest name is = go t.kind is
  where
    go : (kind : TokenKind) → symbol_of kind ≡ Some name → is_two_colons kind ≡ false
    go k.TwoColons is = cc
    go _ is = refl

keyword-no-body : (t : Token) (rest : Tokens) (keyword : Keyword) → keyword_of t.kind ≡ Some keyword → ends_body (t ∷ rest) ≡ false
keyword-no-body t rest keyword is = ap is_two_colons (keyword-is t.kind keyword is)

-- ---- what other clauses begin with

abbrev is_ordinary : Start → Bool
is_ordinary b.Label = false
is_ordinary (b.Word w.Expose) = false
is_ordinary (b.Word w.Procedure) = false
is_ordinary _ = true

ordinary-word : (f : ℕ) (keyword : Keyword) (kind : ClauseKind) (here behind rest : Tokens) → r.instruction f [] most_blocks keyword here behind ≡ Ok (kind, rest)
    → is_ordinary (b.Word keyword) ≡ true
ordinary-word zero keyword kind here behind rest is = cc
ordinary-word (suc m) w.Expose kind here behind rest is = cc
ordinary-word (suc m) w.Procedure kind here behind rest is = cc
ordinary-word (suc m) _ kind here behind rest is = refl

clause-ordinary : {first : Clause} {tokens rest : Tokens} → IsClause [] most_blocks first tokens rest → is_ordinary (start tokens).0 ≡ true
clause-ordinary (i.assignment {tokens = tokens} t is) = rw (start-assignment t tokens (assignment-begins is))
clause-ordinary (i.by_message {tokens = tokens} t isnt (a.send_assign {receiver = receiver} {part = part} {behind = behind} term last)) =
    rw (start-sending t tokens behind receiver part isnt (assigned-read term))
clause-ordinary (i.instruction {kind = kind} {tokens = tokens} {rest = rest} t other is) =
    let f = 16 * length (t ∷ tokens) + 8 in
    let g = instruction-reads is f (omega arith) in
    let same : keyword_of t.kind ≡ Some g.keyword = ap (λ (ts : Tokens). first_keyword ts) g.is ∙ g.fact in
    rw (start-word t tokens g.keyword other same, ordinary-word f g.keyword kind (t ∷ tokens) g.behind rest g.reads)
clause-ordinary (i.message {tokens = tokens} t other isnt is) = rw (start-other t tokens other (no-keyword t.kind isnt))

ordinary-clause : (before : Before) (tokens : Tokens) (begun : Start) → is_ordinary begun ≡ true → body_clause before tokens begun ≡ r.after Clauses (clause_at tokens)
ordinary-clause before tokens b.Assignment is = refl
ordinary-clause before tokens (b.Sending receiver part) is = refl
ordinary-clause before tokens b.Label is = cc
ordinary-clause before tokens (b.Word w.Expose) is = cc
ordinary-clause before tokens (b.Word w.Procedure) is = cc
ordinary-clause before tokens (b.Word _) is = refl
ordinary-clause before tokens b.Other is = refl

clause-read : {first : Clause} {tokens rest : Tokens} → IsClause [] most_blocks first tokens rest → clause_at tokens ≡ Ok (first, rest)
unfolding clause_at
clause-read {tokens = tokens} is = reads is (16 * length tokens + 16) (omega arith)

-- ---- what is written is read

expose-read : {one : Simple} {tokens rest : Tokens} (t : Token) → IsExpose one (t ∷ tokens) rest → (keyword_of t.kind ≡ Some w.Expose) × (r.expose Nothing (t ∷ tokens) tokens ≡ Ok (one, rest))
expose-read t (d.expose u is are some) = (ap keyword_of is, rw (some-names-read are some))

no-word-at-end : (tokens rest : Tokens) → behind_end tokens ≡ Some rest → behind_symbol (codes "EXPOSE") tokens ≡ None
no-word-at-end tokens rest is = go (end-found tokens rest is)
  where
    go : First (λ t. is_clause_end t.kind ≡ true) tokens rest → behind_symbol (codes "EXPOSE") tokens ≡ None
    go f = rw (f.is, end-is f.token.kind f.fact)

procedure-read : {one : Simple} {tokens rest : Tokens} (t : Token) → IsProcedure one (t ∷ tokens) rest
    → (keyword_of t.kind ≡ Some w.Procedure) × (r.procedure Labels (t ∷ tokens) tokens ≡ Ok (one, rest))
procedure-read t (d.procedure {tokens = tokens} u is end) = (ap keyword_of is, rw (no-word-at-end tokens _ end, end))
procedure-read t (d.procedure_expose u v is exposes are some) = (ap keyword_of is, rw (exposes, some-names-read are some))

expose-shorter : {one : Simple} {tokens rest : Tokens} → IsExpose one tokens rest → length rest < length tokens
expose-shorter (d.expose t is are some) = let h = names-shorter are in omega arith

procedure-shorter : {one : Simple} {tokens rest : Tokens} → IsProcedure one tokens rest → length rest < length tokens
procedure-shorter (d.procedure {tokens = tokens} {rest = rest} t is end) = let h = end-shorter tokens rest end in omega arith
procedure-shorter (d.procedure_expose t u is exposes are some) = let h = names-shorter are in omega arith

list-reads : {before : Before} {list : List Clause} {tokens rest : Tokens} → AreBodyClauses before list tokens rest → (f : ℕ) → length tokens < f
    → body_clauses f before tokens ≡ Ok (list, rest)
list-reads (d.no_body_clause {before = before} {rest = rest} ends) f enough =
    step (λ f. body_clauses f before rest ≡ Ok ([], rest)) f (omega arith) (λ m also. rw ends)
list-reads (d.label {before = before} {clauses = list} {rest = rest} t (a.label {rest = behind} u v name named colon) others) f enough =
    step (λ f. body_clauses f before (t ∷ (v ∷ behind)) ≡ Ok (clause t.line (x.Simple (c.Label name)) ∷ list, rest)) f (omega arith) (λ m also.
    let h = skip-shorter behind in
    rw (label-no-body t (v ∷ behind) name named, start-label t v behind name named (colon-kind v.kind colon), named, list-reads others m (omega arith)))
list-reads (d.expose {one = one} {clauses = list} {tokens = tokens} {rest = rest} t other is others) f enough =
    step (λ f. body_clauses f Nothing (t ∷ tokens) ≡ Ok (clause t.line (x.Simple one) ∷ list, rest)) f (omega arith) (λ m also.
    let h = expose-shorter is in
    let g = expose-read t is in
    rw (keyword-no-body t tokens w.Expose g.0, start-word t tokens w.Expose other g.0, g.1, list-reads others m (omega arith)))
list-reads (d.procedure {one = one} {clauses = list} {tokens = tokens} {rest = rest} t other is others) f enough =
    step (λ f. body_clauses f Labels (t ∷ tokens) ≡ Ok (clause t.line (x.Simple one) ∷ list, rest)) f (omega arith) (λ m also.
    let h = procedure-shorter is in
    let g = procedure-read t is in
    rw (keyword-no-body t tokens w.Procedure g.0, start-word t tokens w.Procedure other g.0, g.1, list-reads others m (omega arith)))
list-reads (d.other {before = before} {first = first} {clauses = list} {tokens = tokens} {rest = rest} isnt is others) f enough =
    step (λ f. body_clauses f before tokens ≡ Ok (first ∷ list, rest)) f (omega arith) (λ m also.
    let h = shorter is in
    rw (isnt, ordinary-clause before tokens (start tokens).0 (clause-ordinary is), clause-read is, list-reads others m (omega arith)))

-- ---- what is read is written

-- a clause in front of those behind it
abbrev InFront : Before → Tokens → Clause × Before → Tokens → Type 0
InFront before tokens one rest = (list : List Clause) (last : Tokens) → AreBodyClauses one.1 list rest last → AreBodyClauses before (one.0 ∷ list) tokens last

ordinary-sure : (before : Before) (tokens : Tokens) → ends_body tokens ≡ false → Sure (λ one rest. InFront before tokens one rest) (r.after Clauses (clause_at tokens))
unfolding clause_at
ordinary-sure before tokens isnt =
    sure-then _ _ (read-sure (16 * length tokens + 16) [] most_blocks tokens) (λ first rest so. found (first, Clauses) rest (λ list last others. d.other isnt so others))

-- a clause that holds no other, in front of those behind it
clause-front : (before state : Before) (t : Token) (tokens : Tokens) (Is : Simple → Tokens → Type 0) (outcome : Outcome Simple) → Sure Is outcome
    → ((one : Simple) (rest : Tokens) → Is one rest → InFront before (t ∷ tokens) (clause t.line (x.Simple one), state) rest)
    → Sure (λ one rest. InFront before (t ∷ tokens) one rest) (r.after state (as_clause t.line outcome))
clause-front before state t tokens Is (Ok all) is go = record { so = go all.0 all.1 is.so }
clause-front before state t tokens Is (Err fault) is go = record { so = tt }

names-exposed : (t : Token) (tokens : Tokens) → t.kind ≡ word (codes "EXPOSE") → Sure (λ one rest. IsExpose one (t ∷ tokens) rest) (r.expose Nothing (t ∷ tokens) tokens)
names-exposed t tokens is = sure-then _ _ (some-names-sure tokens) (λ names rest are. found (c.Expose names) rest (d.expose t is are.0 are.1))

expose-sure : (before : Before) (t : Token) (tokens : Tokens) → BeginsOther (t ∷ tokens) → t.kind ≡ word (codes "EXPOSE")
    → Sure (λ one rest. InFront before (t ∷ tokens) one rest) (r.after Clauses (as_clause t.line (r.expose before (t ∷ tokens) tokens)))
expose-sure Nothing t tokens other is =
    clause-front Nothing Clauses t tokens (λ one rest. IsExpose one (t ∷ tokens) rest) (r.expose Nothing (t ∷ tokens) tokens) (names-exposed t tokens is)
    (λ one rest so list last others. d.expose t other so others)
expose-sure Labels t tokens other is = refused _
expose-sure Clauses t tokens other is = refused _

names-sure : (t : Token) (tokens : Tokens) → t.kind ≡ word (codes "PROCEDURE") → Sure (λ one rest. IsProcedure one (t ∷ tokens) rest) (r.procedure_names tokens)
names-sure t tokens is =
    sure-some _ _ _
    (λ none. sure-as _ (λ one rest end. subst (λ (y : Simple). IsProcedure y (t ∷ tokens) rest) (sym end.0) (d.procedure t is end.1)) (to-end-sure (c.Procedure []) tokens))
    (λ after exposes. sure-then _ _ (some-names-sure after) (λ names rest are.
    found _ rest (at-word (λ ts. IsProcedure (c.Procedure names) (t ∷ ts) rest) (codes "EXPOSE") tokens after exposes (λ u y. d.procedure_expose t u is y are.0 are.1))))

procedure-sure : (before : Before) (t : Token) (tokens : Tokens) → BeginsOther (t ∷ tokens) → t.kind ≡ word (codes "PROCEDURE")
    → Sure (λ one rest. InFront before (t ∷ tokens) one rest) (r.after Clauses (as_clause t.line (r.procedure before (t ∷ tokens) tokens)))
procedure-sure Labels t tokens other is =
    clause-front Labels Clauses t tokens (λ one rest. IsProcedure one (t ∷ tokens) rest) (r.procedure_names tokens) (names-sure t tokens is)
    (λ one rest so list last others. d.procedure t other so others)
procedure-sure Nothing t tokens other is = refused _
procedure-sure Clauses t tokens other is = refused _

label-sure : (before : Before) (t : Token) (tokens : Tokens) → begins_label (t ∷ tokens) ≡ true
    → Sure (λ one rest. InFront before (t ∷ tokens) one rest) (r.after Labels (as_clause t.line (r.label (t ∷ tokens))))
label-sure before t [] is = cc
label-sure before t (u ∷ rest) is = go (symbol_of t.kind) refl is
  where
    go : (name : Option (List ℕ)) → symbol_of t.kind ≡ name → (is_some name && is_colon u.kind) ≡ true
        → Sure (λ one after. InFront before (t ∷ (u ∷ rest)) one after) (r.after Labels (as_clause t.line (r.labelled name rest)))
    go None named also = cc
    go (Some name) named also = found _ (skip rest) (λ list last others. d.label t (a.label {rest = rest} t u name named also) others)

clause-sure : (before : Before) (t : Token) (tokens : Tokens) (begun : Start × Tokens) → ends_body (t ∷ tokens) ≡ false → Started t tokens begun
    → Sure (λ one rest. InFront before (t ∷ tokens) one rest) (body_clause before (t ∷ tokens) begun.0)
clause-sure before t tokens _ isnt (assigns is) = ordinary-sure before (t ∷ tokens) isnt
clause-sure before t tokens _ isnt (sends none is) = ordinary-sure before (t ∷ tokens) isnt
clause-sure before t tokens _ isnt (labels is) = label-sure before t tokens is
clause-sure before t tokens _ isnt (instructs {keyword = w.Expose} other is) = expose-sure before t tokens other (keyword-is t.kind w.Expose is)
clause-sure before t tokens _ isnt (instructs {keyword = w.Procedure} other is) = procedure-sure before t tokens other (keyword-is t.kind w.Procedure is)
clause-sure before t tokens _ isnt (instructs {keyword = w.If} other is) = ordinary-sure before (t ∷ tokens) isnt
clause-sure before t tokens _ isnt (instructs {keyword = w.Select} other is) = ordinary-sure before (t ∷ tokens) isnt
clause-sure before t tokens _ isnt (instructs {keyword = w.Do} other is) = ordinary-sure before (t ∷ tokens) isnt
clause-sure before t tokens _ isnt (instructs {keyword = w.Loop} other is) = ordinary-sure before (t ∷ tokens) isnt
clause-sure before t tokens _ isnt (instructs {keyword = w.Other by} other is) = ordinary-sure before (t ∷ tokens) isnt
clause-sure before t tokens _ isnt (tells other is) = ordinary-sure before (t ∷ tokens) isnt

list-sure : (f : ℕ) (before : Before) (tokens : Tokens) → Sure (λ list rest. AreBodyClauses before list tokens rest) (body_clauses f before tokens)
list-sure zero before tokens = refused _
list-sure (suc m) before [] = found [] [] (d.no_body_clause refl)
list-sure (suc m) before (t ∷ tokens) =
    sure-if _ _ _ (λ ends. found [] (t ∷ tokens) (d.no_body_clause ends)) (λ isnt.
    sure-then _ _ (clause-sure before t tokens (start (t ∷ tokens)) isnt (started t tokens)) (λ one rest front.
    sure-then _ _ (list-sure m one.1 rest) (λ list last others. found (one.0 ∷ list) last (front list last others))))

-- ---- the law

pub body-read : (tokens : Tokens) (one : Body) (rest : Tokens) → IsBody one tokens rest → body tokens ≡ Ok (one, rest)
unfolding body
body-read tokens one rest (d.body are) = rw (list-reads are (length tokens + 1) (omega arith))

pub body-written : (tokens : Tokens) (one : Body) (rest : Tokens) → body tokens ≡ Ok (one, rest) → IsBody one tokens rest
unfolding body
body-written tokens one rest is =
    so-read {Is = λ found rest. IsBody found tokens rest} _ one rest (sure-then _ _ (list-sure (length tokens + 1) Nothing tokens) (λ list last are. found (in_body list) last (d.body are))) is

pub one-body : (tokens : Tokens) (one other : Body) (rest others : Tokens) → IsBody one tokens rest → IsBody other tokens others → (one ≡ other) × (rest ≡ others)
one-body tokens one other rest others p q =
    let same : (one, rest) ≡ (other, others) = ok-is (sym (body-read tokens one rest p) ∙ body-read tokens other others q) in
    (ap (λ z. z.0) same, ap (λ z. z.1) same)
