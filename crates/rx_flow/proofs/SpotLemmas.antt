-- The equations of `spots`, one for each kind of clause.
use Rattle.std.proofs.Common.{◌≡◌, ℕ, List, [], ◌∷◌, ◌++◌, map, Option, Some, None, refl, ap, sym, ◌∙◌}
use Rattle.rx_tree.specs.declared.expr.Expr.{Expr}
use Rattle.rx_clause_tree.specs.declared.simple.Simple.{Simple}
use Rattle.rx_clause_tree.specs.declared.loops.Header.{Header}
use Rattle.rx_clause_tree.specs.declared.loops.Test.{Test}
use Rattle.rx_clause_tree.specs.declared.clause.Clause.{Clause, para-roll-Clause}
use Rattle.rx_clause_tree.specs.declared.clause.When.{When, out-When, para-When, para-roll-When}
use Rattle.rx_clause_tree.specs.declared.clause.ClauseKind.{ClauseKind, roll-ClauseKind, para-ClauseKind, para-roll-ClauseKind}
use Rattle.rx_clause_tree.specs.declared.clause.ClauseKind.TheVariants as kind
use Rattle.rx_clause_tree.specs.declared.clause.ClauseKind.TheOpen.{ClauseKind-F}
use Rattle.rx_flow.specs.Rules.{made}
use Rattle.rx_flow.specs.Spots.{Spot, Doing, Turning, Laying, firsts, row, when_row, inner_step, clause_step, when_step, spots, all_spots, when_spots, tail_spots}

-- the places behind the first one of a clause
abbrev inner : ClauseKind → ℕ → Laying
inner = para-ClauseKind (ℕ → Laying) Laying Laying inner_step clause_step when_step

abbrev of_when : When → Laying
of_when = para-When (ℕ → Laying) Laying Laying inner_step clause_step when_step

spots-made : (line : ℕ) (k : ClauseKind) (after : List Clause) → spots (made line k) after ≡ Doing (made line k ∷ after) ∷ inner k line after
spots-made line k after =
    ap (λ (f : Laying). f after) (para-roll-Clause (ℕ → Laying) Laying Laying inner_step clause_step when_step (record { line = line; kind = k }))

of_when_is : (when : When) → of_when when ≡ spots when.chosen
of_when_is when = para-roll-When (ℕ → Laying) Laying Laying inner_step clause_step when_step (out-When when)

-- a list with the laying of each in its place
abbrev paired : List Clause → List (Clause × Laying)
paired clauses = map (λ (c : Clause). let p : Clause × Laying = (c, spots c) in p) clauses

firsts-paired : (clauses : List Clause) → firsts (paired clauses) ≡ clauses
firsts-paired [] = refl
firsts-paired (clause ∷ clauses) = ap (λ (xs : List Clause). clause ∷ xs) (firsts-paired clauses)

row-paired : (clauses after : List Clause) → row (paired clauses) after ≡ all_spots clauses after
row-paired [] after = refl
row-paired (clause ∷ clauses) after = rw (firsts-paired clauses, row-paired clauses after) refl

abbrev when_paired : List When → List (When × Laying)
when_paired whens = map (λ (w : When). let p : When × Laying = (w, of_when w) in p) whens

firsts-when_paired : (whens : List When) → firsts (when_paired whens) ≡ whens
firsts-when_paired [] = refl
firsts-when_paired (when ∷ whens) = ap (λ (xs : List When). when ∷ xs) (firsts-when_paired whens)

when_row-when_paired : (line : ℕ) (whens rest : List When) (others : Option (List Clause)) (after : List Clause)
    → when_row line (when_paired whens) rest others after ≡ when_spots line whens rest others after
when_row-when_paired line [] rest others after = refl
when_row-when_paired line (when ∷ whens) rest others after =
    rw (firsts-when_paired whens, of_when_is when, when_row-when_paired line whens rest others after) refl

-- a clause's spots, where its kind is this layer rolled, and the places behind its first one are these
behind_first : (line : ℕ) (x : ClauseKind-F ClauseKind Clause When) (k : ClauseKind) (after : List Clause) (inside : List Spot)
    → roll-ClauseKind x ≡ k → inner (roll-ClauseKind x) line after ≡ inside → spots (made line k) after ≡ Doing (made line k ∷ after) ∷ inside
behind_first line x k after inside rolls is =
    spots-made line k after ∙ ap (λ (xs : List Spot). Doing (made line k ∷ after) ∷ xs) (ap (λ (z : ClauseKind). inner z line after) (sym rolls) ∙ is)

pub spots-simple : (line : ℕ) (simple : Simple) (after : List Clause)
    → spots (made line (kind.Simple simple)) after ≡ Doing (made line (kind.Simple simple) ∷ after) ∷ []
spots-simple line simple after =
    behind_first line (ClauseKind-F.Simple simple) _ after [] (kind.rolls-Simple simple)
    (ap (λ (f : ℕ → Laying). f line after) (para-roll-ClauseKind (ℕ → Laying) Laying Laying inner_step clause_step when_step (ClauseKind-F.Simple simple)))

pub spots-if : (line : ℕ) (test : Expr) (one : Clause) (after : List Clause)
    → spots (made line (kind.If test one None)) after ≡ Doing (made line (kind.If test one None) ∷ after) ∷ spots one after
spots-if line test one after =
    behind_first line (ClauseKind-F.If test one None) _ after (spots one after) (kind.rolls-If test one None)
    (ap (λ (f : ℕ → Laying). f line after) (para-roll-ClauseKind (ℕ → Laying) Laying Laying inner_step clause_step when_step (ClauseKind-F.If test one None)))

pub spots-if_else : (line : ℕ) (test : Expr) (one other : Clause) (after : List Clause)
    → spots (made line (kind.If test one (Some other))) after
    ≡ Doing (made line (kind.If test one (Some other)) ∷ after) ∷ (spots one after ++ Doing after ∷ spots other after)
spots-if_else line test one other after =
    behind_first line (ClauseKind-F.If test one (Some other)) _ after (spots one after ++ Doing after ∷ spots other after) (kind.rolls-If test one (Some other))
    (ap (λ (f : ℕ → Laying). f line after) (para-roll-ClauseKind (ℕ → Laying) Laying Laying inner_step clause_step when_step (ClauseKind-F.If test one (Some other))))

pub spots-group : (line : ℕ) (clauses after : List Clause)
    → spots (made line (kind.Group clauses)) after ≡ Doing (made line (kind.Group clauses) ∷ after) ∷ all_spots clauses after
spots-group line clauses after =
    behind_first line (ClauseKind-F.Group clauses) _ after (all_spots clauses after) (kind.rolls-Group clauses)
    (ap (λ (f : ℕ → Laying). f line after) (para-roll-ClauseKind (ℕ → Laying) Laying Laying inner_step clause_step when_step (ClauseKind-F.Group clauses)) ∙ row-paired clauses after)

pub spots-loop : (line : ℕ) (header : Header) (test : Test) (clauses : List Clause) (after : List Clause)
    → spots (made line (kind.Loop header test clauses)) after
    ≡ Doing (made line (kind.Loop header test clauses) ∷ after) ∷ (Turning (made line (kind.Loop header test clauses)) after ∷ (all_spots clauses [] ++ Doing [] ∷ []))
spots-loop line header test clauses after =
    behind_first line (ClauseKind-F.Loop header test clauses) _ after _ (kind.rolls-Loop header test clauses)
    (ap (λ (f : ℕ → Laying). f line after) (para-roll-ClauseKind (ℕ → Laying) Laying Laying inner_step clause_step when_step (ClauseKind-F.Loop header test clauses))
    ∙ rw (firsts-paired clauses, row-paired clauses []) refl)

pub spots-no_when : (line : ℕ) (others after : List Clause)
    → spots (made line (kind.Select [] (Some others))) after ≡ Doing (made line (kind.Select [] (Some others)) ∷ after) ∷ all_spots others after
spots-no_when line others after =
    behind_first line (ClauseKind-F.Select [] (Some others)) _ after (all_spots others after) (kind.rolls-Select [] (Some others))
    (ap (λ (f : ℕ → Laying). f line after) (para-roll-ClauseKind (ℕ → Laying) Laying Laying inner_step clause_step when_step (ClauseKind-F.Select [] (Some others))) ∙ row-paired others after)

pub spots-select : (line : ℕ) (whens : List When) (after : List Clause)
    → spots (made line (kind.Select whens None)) after
    ≡ Doing (made line (kind.Select whens None) ∷ after) ∷ (Doing after ∷ (when_spots line whens [] None after ++ tail_spots line None after))
spots-select line [] after =
    behind_first line (ClauseKind-F.Select [] None) _ after _ (kind.rolls-Select [] None)
    (ap (λ (f : ℕ → Laying). f line after) (para-roll-ClauseKind (ℕ → Laying) Laying Laying inner_step clause_step when_step (ClauseKind-F.Select [] None)))
spots-select line (when ∷ whens) after =
    behind_first line (ClauseKind-F.Select (when ∷ whens) None) _ after _ (kind.rolls-Select (when ∷ whens) None)
    (ap (λ (f : ℕ → Laying). f line after) (para-roll-ClauseKind (ℕ → Laying) Laying Laying inner_step clause_step when_step (ClauseKind-F.Select (when ∷ whens) None))
    ∙ ap (λ (xs : List Spot). Doing after ∷ (xs ++ tail_spots line None after)) (when_row-when_paired line (when ∷ whens) [] None after))

pub spots-select_otherwise : (line : ℕ) (when : When) (whens : List When) (others after : List Clause)
    → spots (made line (kind.Select (when ∷ whens) (Some others))) after
    ≡ Doing (made line (kind.Select (when ∷ whens) (Some others)) ∷ after) ∷ (Doing after ∷ (when_spots line (when ∷ whens) [] (Some others) after ++ all_spots others after))
spots-select_otherwise line when whens others after =
    behind_first line (ClauseKind-F.Select (when ∷ whens) (Some others)) _ after _ (kind.rolls-Select (when ∷ whens) (Some others))
    (ap (λ (f : ℕ → Laying). f line after) (para-roll-ClauseKind (ℕ → Laying) Laying Laying inner_step clause_step when_step (ClauseKind-F.Select (when ∷ whens) (Some others)))
    ∙ ap (λ (os : List Clause). Doing after ∷ (when_row line (when_paired (when ∷ whens)) [] (Some os) after ++ row (paired others) after)) (firsts-paired others)
    ∙ ap (λ (xs : List Spot). Doing after ∷ (xs ++ row (paired others) after)) (when_row-when_paired line (when ∷ whens) [] (Some others) after)
    ∙ ap (λ (xs : List Spot). Doing after ∷ (when_spots line (when ∷ whens) [] (Some others) after ++ xs)) (row-paired others after))

-- every clause stands at its first place
pub spots-first : (clause : Clause) (after : List Clause) → (behind : List Spot) × (spots clause after ≡ Doing (clause ∷ after) ∷ behind)
spots-first clause after = (inner clause.kind clause.line after, spots-made clause.line clause.kind after)
