-- Bodies: more turns than are needed change nothing, and each way through the functions that read them.
use Rattle.std.proofs.Common.{◌≡◌, ℕ, zero, suc, ◌+◌, ◌*◌, ◌<◌, ◌≤◌, Bool, true, false, if◌then◌else◌, List, [], ◌∷◌, ◌++◌, length, Option, Some, None, Ok, Err, refl, sym, ◌∙◌, ap, arith}
use Rattle.std.specs.Prelude.{codes}
use Rattle.rx_tree.specs.declared.token.Token.{Token}
use Rattle.rx_tree.specs.Operators.{Tokens}
use Rattle.rx_exprs.specs.declared.refused.Fault.{Fault}
use Rattle.rx_exprs.specs.Reader.{Outcome, and_then, on_some}
use Rattle.rx_exprs.proofs.Steps.{step}
use Rattle.rx_exprs.proofs.Steady.{then-same, if-same}
use Rattle.rx_clause_tree.specs.declared.simple.Simple.{Simple}
use Rattle.rx_clause_tree.specs.declared.simple.Simple.TheVariants as c
use Rattle.rx_clause_tree.specs.declared.clause.Before.{Before}
use Rattle.rx_clause_tree.specs.declared.clause.Before.TheVariants.{Nothing, Labels, Clauses}
use Rattle.rx_clause_tree.specs.declared.clause.Clause.{Clause}
use Rattle.rx_clause_tree.specs.declared.clause.ClauseKind.TheVariants as x
use Rattle.rx_clause_tree.specs.Clauses.{clause}
use Rattle.rx_clause_tree.specs.ClauseWords.{symbol_of, behind_end, skip}
use Rattle.rx_clause_tree.specs.Bodies.{most_blocks, ends_body}
use Rattle.rx_clauses.specs.declared.keyword.Keyword.TheVariants as w
use Rattle.rx_clauses.specs.declared.start.Start.{Start}
use Rattle.rx_clauses.specs.declared.start.Start.TheVariants as b
use Rattle.rx_clauses.specs.Parts.{to_end}
use Rattle.rx_clauses.specs.Reader as r
use Rattle.rx_clauses.specs.Reader.{start, as_clause, behind, labelled, label, expose, procedure, procedure_names, after, turns, read, clause_at, body_clause, body_clauses, in_body, body}
use Rattle.rx_clauses.specs.Forms.{body_form, clause_form}
use Rattle.rx_clauses.proofs.Sure.{Sure, sure-then, sure-some, sure-as, as-read, so-read, refused, found}
use Rattle.rx_clauses.proofs.Words.{end-shorter, skip-shorter, symbol-shorter}
use Rattle.rx_clauses.proofs.PartsLaw.{names-shorter, some-names-sure, to-end-sure}
use Rattle.rx_clauses.proofs.ClausesLaw.{shorter, read-sure}
use Rattle.rx_clauses.proofs.Lists.{prepended, prepended_start, prepended_one, prepended_end}

behind-fewer : (tokens : Tokens) → length (behind tokens) ≤ length tokens
behind-fewer [] = omega arith
behind-fewer (t ∷ tokens) = omega arith

simple-less : (state : Before) (line n : ℕ) (outcome : Outcome Simple) → Sure (λ one rest. length rest < n) outcome
    → Sure (λ one rest. length rest < n) (after state (as_clause line outcome))
simple-less state line n (Ok all) is = record { so = is.so }
simple-less state line n (Err fault) is = record { so = tt }

label-less : (tokens : Tokens) → Sure (λ one rest. length rest < length tokens) (label tokens)
label-less [] = refused _
label-less (t ∷ tokens) = go (symbol_of t.kind)
  where
    go : (name : Option (List ℕ)) → Sure (λ one rest. length rest < length (t ∷ tokens)) (labelled name (behind tokens))
    go None = refused _
    go (Some name) = let h = skip-shorter (behind tokens) in let g = behind-fewer tokens in found (c.Label name) (skip (behind tokens)) (omega arith)

expose-less : (before : Before) (tokens : Tokens) → Sure (λ one rest. length rest < length tokens) (expose before tokens (behind tokens))
expose-less Nothing tokens =
    let g = behind-fewer tokens in
    sure-then _ _ (some-names-sure (behind tokens)) (λ names rest are. let h = names-shorter are.0 in found (c.Expose names) rest (omega arith))
expose-less Labels tokens = refused _
expose-less Clauses tokens = refused _

names-less : (tokens : Tokens) → Sure (λ one rest. length rest < length tokens) (procedure_names tokens)
names-less tokens =
    sure-some _ _ _ (λ none. sure-as _ (λ one rest is. end-shorter tokens rest is.1) (to-end-sure (c.Procedure []) tokens)) (λ others is.
    let g = symbol-shorter (codes "EXPOSE") tokens others is in
    sure-then _ _ (some-names-sure others) (λ names rest are. let h = names-shorter are.0 in found (c.Procedure names) rest (omega arith)))

procedure-less : (before : Before) (tokens : Tokens) → Sure (λ one rest. length rest < length tokens) (procedure before tokens (behind tokens))
procedure-less Labels tokens = let g = behind-fewer tokens in sure-as _ (λ one rest less. omega arith) (names-less (behind tokens))
procedure-less Nothing tokens = refused _
procedure-less Clauses tokens = refused _

ordinary-less : (tokens : Tokens) → Sure (λ one rest. length rest < length tokens) (after Clauses (clause_at tokens))
unfolding clause_at
ordinary-less tokens = sure-then _ _ (read-sure (turns tokens) [] most_blocks tokens) (λ first rest is. found (first, Clauses) rest (shorter is))

clause-less : (before : Before) (tokens : Tokens) (begun : Start) → Sure (λ one rest. length rest < length tokens) (body_clause before tokens begun)
clause-less before tokens b.Label = simple-less Labels (r.line_of tokens) (length tokens) (label tokens) (label-less tokens)
clause-less before tokens (b.Word w.Expose) = simple-less Clauses (r.line_of tokens) (length tokens) (expose before tokens (behind tokens)) (expose-less before tokens)
clause-less before tokens (b.Word w.Procedure) = simple-less Clauses (r.line_of tokens) (length tokens) (procedure before tokens (behind tokens)) (procedure-less before tokens)
clause-less before tokens b.Assignment = ordinary-less tokens
clause-less before tokens (b.Sending receiver part) = ordinary-less tokens
clause-less before tokens (b.Word w.If) = ordinary-less tokens
clause-less before tokens (b.Word w.Select) = ordinary-less tokens
clause-less before tokens (b.Word w.Do) = ordinary-less tokens
clause-less before tokens (b.Word w.Loop) = ordinary-less tokens
clause-less before tokens (b.Word (w.Other word)) = ordinary-less tokens
clause-less before tokens b.Other = ordinary-less tokens

pub body_less : (before : Before) (tokens rest : Tokens) (one : Clause × Before) → body_clause before tokens (start tokens).0 ≡ Ok (one, rest) → length rest < length tokens
body_less before tokens rest one is =
    so-read {Is = λ one rest. length rest < length tokens} (body_clause before tokens (start tokens).0) one rest (clause-less before tokens (start tokens).0) is

body-steady : (f g : ℕ) (before : Before) (tokens : Tokens) → length tokens < f → length tokens < g → body_clauses f before tokens ≡ body_clauses g before tokens
body-steady zero g before tokens p q = absurd (omega arith)
body-steady (suc m) g before tokens p q =
    step (λ g. body_clauses (suc m) before tokens ≡ body_clauses g before tokens) g (omega arith) (λ l is.
    if-same (ends_body tokens) _ _ _ _ refl
    (then-same _ _ _ _ refl (λ first others was. let h = body_less before tokens others first was in
    then-same _ _ _ _ (body-steady m l first.1 others (omega arith) (omega arith)) (λ _ _ _. refl))))

body-next : (before : Before) (tokens : Tokens) → body_form before tokens
    ≡ (if ends_body tokens then Ok ([], tokens)
    else and_then (body_clause before tokens (start tokens).0) (λ first others. and_then (body_form first.1 others) (λ list rest. Ok (first.0 ∷ list, rest))))
unfolding body_form
body-next before tokens =
    step (λ f. body_clauses f before tokens
    ≡ (if ends_body tokens then Ok ([], tokens)
    else and_then (body_clause before tokens (start tokens).0) (λ first others. and_then (body_clauses (length others + 1) first.1 others) (λ list rest. Ok (first.0 ∷ list, rest)))))
    (length tokens + 1) (omega arith) (λ m is.
    if-same (ends_body tokens) _ _ _ _ refl
    (then-same _ _ _ _ refl (λ first others was. let h = body_less before tokens others first was in
    then-same _ _ _ _ (body-steady m (length others + 1) first.1 others (omega arith) (omega arith)) (λ _ _ _. refl))))

pub body_end : (before : Before) (list : List Clause) (tokens : Tokens) → ends_body tokens ≡ true → prepended list (body_form before tokens) ≡ Ok (list, tokens)
body_end before list tokens p = rw (body-next before tokens, p) (prepended_end list tokens)

pub body_more : (before : Before) (list : List Clause) (tokens rest : Tokens) (one : Clause × Before) → ends_body tokens ≡ false
    → body_clause before tokens (start tokens).0 ≡ Ok (one, rest) → prepended list (body_form before tokens) ≡ prepended (list ++ one.0 ∷ []) (body_form one.1 rest)
body_more before list tokens rest one p q = rw (body-next before tokens, p, q) (prepended_one list one.0 (body_form one.1 rest))

pub body_bad : (before : Before) (list : List Clause) (tokens : Tokens) (fault : Fault) → ends_body tokens ≡ false
    → body_clause before tokens (start tokens).0 ≡ Err fault → prepended list (body_form before tokens) ≡ Err fault
body_bad before list tokens fault p q = rw (body-next before tokens, p, q) refl

pub at_form : (tokens : Tokens) → clause_at tokens ≡ clause_form [] most_blocks tokens
unfolding clause_at clause_form
at_form tokens = refl

pub body_of : (tokens : Tokens) → body tokens ≡ and_then (body_form Nothing tokens) (λ clauses rest. Ok (in_body clauses, rest))
unfolding body body_form
body_of tokens = refl

-- ---- a clause of a body, by what it begins with

begun-is : (before : Before) (tokens rest : Tokens) (begun : Start) → start tokens ≡ (begun, rest)
    → body_clause before tokens (start tokens).0 ≡ body_clause before tokens begun
begun-is before tokens rest begun is = ap (λ (p : Start × Tokens). body_clause before tokens p.0) is

pub label_ok : (before : Before) (tokens rest behind : Tokens) (one : Simple) → start tokens ≡ (b.Label, rest) → label tokens ≡ Ok (one, behind)
    → body_clause before tokens (start tokens).0 ≡ Ok ((clause (r.line_of tokens) (x.Simple one), Labels), behind)
label_ok before tokens rest others one is p = begun-is before tokens rest b.Label is ∙ ap (λ o. after Labels (as_clause (r.line_of tokens) o)) p

pub label_bad : (before : Before) (tokens rest : Tokens) (fault : Fault) → start tokens ≡ (b.Label, rest) → label tokens ≡ Err fault
    → body_clause before tokens (start tokens).0 ≡ Err fault
label_bad before tokens rest fault is p = begun-is before tokens rest b.Label is ∙ ap (λ o. after Labels (as_clause (r.line_of tokens) o)) p

pub expose_ok : (before : Before) (tokens rest behind : Tokens) (one : Simple) → start tokens ≡ (b.Word w.Expose, rest)
    → expose before tokens (r.behind tokens) ≡ Ok (one, behind)
    → body_clause before tokens (start tokens).0 ≡ Ok ((clause (r.line_of tokens) (x.Simple one), Clauses), behind)
expose_ok before tokens rest others one is p = begun-is before tokens rest (b.Word w.Expose) is ∙ ap (λ o. after Clauses (as_clause (r.line_of tokens) o)) p

pub expose_bad : (before : Before) (tokens rest : Tokens) (fault : Fault) → start tokens ≡ (b.Word w.Expose, rest)
    → expose before tokens (r.behind tokens) ≡ Err fault → body_clause before tokens (start tokens).0 ≡ Err fault
expose_bad before tokens rest fault is p = begun-is before tokens rest (b.Word w.Expose) is ∙ ap (λ o. after Clauses (as_clause (r.line_of tokens) o)) p

pub procedure_ok : (before : Before) (tokens rest behind : Tokens) (one : Simple) → start tokens ≡ (b.Word w.Procedure, rest)
    → procedure before tokens (r.behind tokens) ≡ Ok (one, behind)
    → body_clause before tokens (start tokens).0 ≡ Ok ((clause (r.line_of tokens) (x.Simple one), Clauses), behind)
procedure_ok before tokens rest others one is p =
    begun-is before tokens rest (b.Word w.Procedure) is ∙ ap (λ o. after Clauses (as_clause (r.line_of tokens) o)) p

pub procedure_bad : (before : Before) (tokens rest : Tokens) (fault : Fault) → start tokens ≡ (b.Word w.Procedure, rest)
    → procedure before tokens (r.behind tokens) ≡ Err fault → body_clause before tokens (start tokens).0 ≡ Err fault
procedure_bad before tokens rest fault is p =
    begun-is before tokens rest (b.Word w.Procedure) is ∙ ap (λ o. after Clauses (as_clause (r.line_of tokens) o)) p

pub ruleset body_ways = (at_form, label_ok, label_bad, expose_ok, expose_bad, procedure_ok, procedure_bad)

pub ruleset bodies = (prepended_start, body_end, body_more, body_bad, body_less)
