-- What the steps of `flatten` add to code.
use Rattle.std.proofs.Common.{◌≡◌, ℕ, suc, ◌+◌, ◌-◌, ◌<◌, ◌≤◌, List, [], ◌∷◌, ◌++◌, length, slice_set, get_or, take, Option, Some, None, refl, ap, sym, ◌∙◌, subst, arith, append_assoc, length-append}
use Rattle.std.proofs.Math.Seq.{set-append_seam}
use Rattle.std.proofs.lemmas.List.{append-nil, set-append_right, take_more}
use Rattle.rx_tree.specs.declared.expr.Expr.{Expr}
use Rattle.rx_clause_tree.specs.declared.simple.Simple.{Simple}
use Rattle.rx_clause_tree.specs.declared.loops.Header.{Header}
use Rattle.rx_clause_tree.specs.declared.loops.Test.{Test}
use Rattle.rx_clause_tree.specs.declared.clause.Clause.{Clause}
use Rattle.rx_clause_tree.specs.declared.clause.When.{When}
use Rattle.rx_clause_tree.specs.declared.clause.ClauseKind.{ClauseKind}
use Rattle.rx_clause_tree.specs.declared.clause.ClauseKind.TheVariants as kind
use Rattle.rx_flow.specs.Rules.{made}
use Rattle.rx_flow.specs.declared.code.Op.{Op}
use Rattle.rx_flow.specs.declared.code.Op.TheVariants as op
use Rattle.rx_flow.specs.declared.code.Code.{Code}
use Rattle.rx_flow.specs.Spots.{spots, all_spots}
use Rattle.rx_flow.specs.Kept.{kept_test, kept_select, kept, all_kept, whens_kept}
use Rattle.rx_flow.proofs.KeptLemmas.{kept-simple, kept-if, kept-if_else, kept-group, kept-loop, kept-no_when, kept-select, kept-select_otherwise, all_kept-snoc, whens_kept-snoc}
use Rattle.rx_flow.specs.Laid.{Lays, LaysWhens, Plan, plan, plans, with_op, with_entry, with_set, Laid, LaidWhen, LaidWhens, Opened}
use Rattle.rx_flow.proofs.LayLemmas.{lays_none, lays_more, lays_simple, lays_if, lays_if_else, lays_group, lays_no_when, lays_loop, whens_none, whens_more, lays_select, lays_select_otherwise}

-- The code has these ops and clauses more than the old one.
pub record Grown (old new : Code) (ops : List Op) (entries : List Clause) : Type 0 where
  pub all_ops : new.ops ≡ old.ops ++ ops
  pub all_entries : new.clauses ≡ old.clauses ++ entries

pub grown_none : (old : Code) → Grown old old [] []
grown_none old = record { all_ops = sym (append-nil old.ops); all_entries = sym (append-nil old.clauses) }

pub grown_op : (old code new : Code) (ops : List Op) (entries : List Clause) (o : Op)
    → Grown old code ops entries → new ≡ with_op code o → Grown old new (ops ++ o ∷ []) entries
grown_op old code new ops entries o g e = record {
  all_ops = ap (λ (c : Code). c.ops) e ∙ ap (λ (xs : List Op). xs ++ o ∷ []) g.all_ops ∙ append_assoc old.ops ops (o ∷ []);
  all_entries = ap (λ (c : Code). c.clauses) e ∙ g.all_entries;
}

pub grown_entry : (old code new : Code) (ops : List Op) (entries : List Clause) (entry : Clause)
    → Grown old code ops entries → new ≡ with_entry code entry → Grown old new ops (entries ++ entry ∷ [])
grown_entry old code new ops entries entry g e = record {
  all_ops = ap (λ (c : Code). c.ops) e ∙ g.all_ops;
  all_entries = ap (λ (c : Code). c.clauses) e ∙ ap (λ (xs : List Clause). xs ++ entry ∷ []) g.all_entries ∙ append_assoc old.clauses entries (entry ∷ []);
}

pub grown_laid : (old code new : Code) (ops : List Op) (entries : List Clause) (laying : Plan)
    → Grown old code ops entries → (laid : Laid code new laying) → Grown old new (ops ++ laid.ops) (entries ++ laid.entries)
grown_laid old code new ops entries laying g laid = record {
  all_ops = laid.all_ops ∙ ap (λ (xs : List Op). xs ++ laid.ops) g.all_ops ∙ append_assoc old.ops ops laid.ops;
  all_entries = laid.all_entries ∙ ap (λ (xs : List Clause). xs ++ laid.entries) g.all_entries ∙ append_assoc old.clauses entries laid.entries;
}

pub grown_whens : (exit : ℕ) (old code new : Code) (ops : List Op) (entries : List Clause) (line : ℕ) (whens : List When)
    → Grown old code ops entries → (laid : LaidWhens exit code new line whens) → Grown old new (ops ++ laid.ops) (entries ++ laid.entries)
grown_whens exit old code new ops entries line whens g laid = record {
  all_ops = laid.all_ops ∙ ap (λ (xs : List Op). xs ++ laid.ops) g.all_ops ∙ append_assoc old.ops ops laid.ops;
  all_entries = laid.all_entries ∙ ap (λ (xs : List Clause). xs ++ laid.entries) g.all_entries ∙ append_assoc old.clauses entries laid.entries;
}

-- an op of those added is put into its place, the number `i` among them
pub grown_set : (old code new : Code) (ops : List Op) (entries : List Clause) (place i : ℕ) (o : Op)
    → Grown old code ops entries → new ≡ with_set code place o → place ≡ length old.ops + i → Grown old new (slice_set ops i o) entries
grown_set old code new ops entries place i o g e at =
    let far : length old.ops ≤ place = omega arith in
    let same : place - length old.ops ≡ i = omega arith in
    record {
      all_ops = ap (λ (c : Code). c.ops) e ∙ ap (λ (xs : List Op). slice_set xs place o) g.all_ops
          ∙ set-append_right old.ops ops (length old.ops) place o refl far ∙ ap (λ (n : ℕ). old.ops ++ slice_set ops n o) same;
      all_entries = ap (λ (c : Code). c.clauses) e ∙ g.all_entries;
    }

-- what was laid on grown code, by the numbers of the old one
lays_on : (old code new : Code) (ops : List Op) (entries : List Clause) (laying : Plan) (at number : ℕ)
    → Grown old code ops entries → (laid : Laid code new laying) → at ≡ length old.ops + length ops → number ≡ length old.clauses + length entries
    → Lays at number laid.ops laid.entries laying.laying
lays_on old code new ops entries laying at number g laid a n =
    let p : length code.ops ≡ at = omega (arith, ap length g.all_ops, length-append old.ops ops) in
    let q : length code.clauses ≡ number = omega (arith, ap length g.all_entries, length-append old.clauses entries) in
    subst (λ m. Lays m number laid.ops laid.entries laying.laying) p (subst (λ m. Lays (length code.ops) m laid.ops laid.entries laying.laying) q laid.lays)

-- grown code that is laid
laid_of : (old new : Code) (ops : List Op) (entries : List Clause) (what : Plan)
    → Grown old new ops entries → entries ≡ what.kept → Lays (length old.ops) (length old.clauses) ops entries what.laying → Laid old new what
laid_of old new ops entries what g kept lays =
    record { ops = ops; entries = entries; all_ops = g.all_ops; all_entries = g.all_entries; kept_are = kept; lays = lays }

pub laid_simple : (c0 c1 c2 : Code) (line number : ℕ) (simple : Simple)
    → number ≡ length c0.clauses → c1 ≡ with_entry c0 (made line (kind.Simple simple)) → c2 ≡ with_op c1 (op.Clause number)
    → Laid c0 c2 (plan (made line (kind.Simple simple)))
laid_simple c0 c1 c2 line number simple n h1 h2 =
    let g1 = grown_entry c0 c0 c1 [] [] (made line (kind.Simple simple)) (grown_none c0) h1 in
    let g2 = grown_op c0 c1 c2 [] (made line (kind.Simple simple) ∷ []) (op.Clause number) g1 h2 in
    laid_of c0 c2 (op.Clause number ∷ []) (made line (kind.Simple simple) ∷ []) (plan (made line (kind.Simple simple))) g2 (sym (kept-simple line simple))
    (subst (λ m. Lays (length c0.ops) m (op.Clause number ∷ []) (made line (kind.Simple simple) ∷ []) (spots (made line (kind.Simple simple)))) n
    (lays_simple (length c0.ops) number line simple))

-- the numbers of the clauses of grown code
number_of : (old code new : Code) (ops : List Op) (entries : List Clause) → Grown old new ops entries → length new.clauses ≡ length old.clauses + length entries
number_of old code new ops entries g = ap length g.all_entries ∙ length-append old.clauses entries

place_of : (old new : Code) (ops : List Op) (entries : List Clause) → Grown old new ops entries → length new.ops ≡ length old.ops + length ops
place_of old new ops entries g = ap length g.all_ops ∙ length-append old.ops ops

pub laid_if : (c0 c1 c2 c3 c4 : Code) (line : ℕ) (test : Expr) (number at end : ℕ) (one entry : Clause) (o : Op)
    → entry ≡ kept_test line test → number ≡ length c0.clauses → c1 ≡ with_entry c0 entry → at ≡ length c1.ops → c2 ≡ with_op c1 o
    → Laid c2 c3 (plan one) → end ≡ length c3.ops → c4 ≡ with_set c3 at (op.Test number end)
    → Laid c0 c4 (plan (made line (kind.If test one None)))
laid_if c0 c1 c2 c3 c4 line test number at end one entry o k n h1 a h2 laid e h4 =
    let g1 = grown_entry c0 c0 c1 [] [] entry (grown_none c0) h1 in
    let g2 = grown_op c0 c1 c2 [] (entry ∷ []) o g1 h2 in
    let g3 = grown_laid c0 c2 c3 (o ∷ []) (entry ∷ []) (plan one) g2 laid in
    let start : at ≡ length c0.ops + 0 = a ∙ place_of c0 c1 [] (entry ∷ []) g1 in
    let g4 = grown_set c0 c3 c4 (o ∷ laid.ops) (entry ∷ laid.entries) at 0 (op.Test number end) g3 h4 start in
    let stop : end ≡ length c0.ops + 1 + length laid.ops = omega (arith, e, place_of c0 c3 (o ∷ laid.ops) (entry ∷ laid.entries) g3) in
    let inner = lays_on c0 c2 c3 (o ∷ []) (entry ∷ []) (plan one) (length c0.ops + 1) (number + 1) g2 laid (omega arith) (omega arith) in
    laid_of c0 c4 (op.Test number end ∷ laid.ops) (entry ∷ laid.entries) (plan (made line (kind.If test one None))) g4
    (ap (λ (z : Clause). z ∷ laid.entries) k ∙ ap (λ (xs : List Clause). kept_test line test ∷ xs) laid.kept_are ∙ sym (kept-if line test one))
    (subst (λ z. Lays (length c0.ops) (length c0.clauses) (op.Test number end ∷ laid.ops) (z ∷ laid.entries) (spots (made line (kind.If test one None)))) (sym k)
    (subst (λ m. Lays (length c0.ops) m (op.Test number end ∷ laid.ops) (kept_test line test ∷ laid.entries) (spots (made line (kind.If test one None)))) n
    (lays_if (length c0.ops) number line test end one laid.ops laid.entries stop inner)))

-- an op is put into its place between two others
patched : (xs ys : List Op) (x y : Op) (n : ℕ) → n ≡ length xs → slice_set ((xs ++ x ∷ []) ++ ys) n y ≡ xs ++ y ∷ ys
patched xs ys x y n e = rw (e, append_assoc xs (x ∷ []) ys) (set-append_seam xs x ys y)

pub laid_if_else : (c0 c1 c2 c3 c4 c5 c6 c7 : Code) (line : ℕ) (test : Expr) (number at jump other_at end : ℕ) (one other entry : Clause) (o p : Op)
    → entry ≡ kept_test line test → number ≡ length c0.clauses → c1 ≡ with_entry c0 entry → at ≡ length c1.ops → c2 ≡ with_op c1 o
    → Laid c2 c3 (plan one) → jump ≡ length c3.ops → c4 ≡ with_op c3 p → other_at ≡ length c4.ops → c5 ≡ with_set c4 at (op.Test number other_at)
    → Laid c5 c6 (plan other) → end ≡ length c6.ops → c7 ≡ with_set c6 jump (op.Jump end)
    → Laid c0 c7 (plan (made line (kind.If test one (Some other))))
laid_if_else c0 c1 c2 c3 c4 c5 c6 c7 line test number at jump other_at end one other entry o p k n h1 a h2 first j h4 b h5 second e h7 =
    let test_op = op.Test number other_at in
    let g1 = grown_entry c0 c0 c1 [] [] entry (grown_none c0) h1 in
    let g2 = grown_op c0 c1 c2 [] (entry ∷ []) o g1 h2 in
    let g3 = grown_laid c0 c2 c3 (o ∷ []) (entry ∷ []) (plan one) g2 first in
    let g4 = grown_op c0 c3 c4 (o ∷ first.ops) (entry ∷ first.entries) p g3 h4 in
    let start : at ≡ length c0.ops + 0 = a ∙ place_of c0 c1 [] (entry ∷ []) g1 in
    let g5 = grown_set c0 c4 c5 (o ∷ (first.ops ++ p ∷ [])) (entry ∷ first.entries) at 0 test_op g4 h5 start in
    let g6 = grown_laid c0 c5 c6 (test_op ∷ (first.ops ++ p ∷ [])) (entry ∷ first.entries) (plan other) g5 second in
    let middle : jump ≡ length c0.ops + (1 + length first.ops) = omega (arith, j, place_of c0 c3 (o ∷ first.ops) (entry ∷ first.entries) g3) in
    let g7 = grown_set c0 c6 c7 (test_op ∷ ((first.ops ++ p ∷ []) ++ second.ops)) (entry ∷ (first.entries ++ second.entries)) jump (1 + length first.ops) (op.Jump end) g6 h7 middle in
    let seam : slice_set (test_op ∷ ((first.ops ++ p ∷ []) ++ second.ops)) (1 + length first.ops) (op.Jump end) ≡ test_op ∷ (first.ops ++ op.Jump end ∷ second.ops) =
    ap (λ (m : ℕ). slice_set (test_op ∷ ((first.ops ++ p ∷ []) ++ second.ops)) m (op.Jump end)) (let one_more : 1 + length first.ops ≡ suc (length first.ops) = omega arith in one_more)
    ∙ ap (λ (xs : List Op). test_op ∷ xs) (patched first.ops second.ops p (op.Jump end) (length first.ops) refl) in
    let g8 : Grown c0 c7 (test_op ∷ (first.ops ++ op.Jump end ∷ second.ops)) (entry ∷ (first.entries ++ second.entries)) =
    subst (λ xs. Grown c0 c7 xs (entry ∷ (first.entries ++ second.entries))) seam g7 in
    let behind : other_at ≡ length c0.ops + 1 + length first.ops + 1 = omega (arith, b, place_of c0 c4 (o ∷ (first.ops ++ p ∷ [])) (entry ∷ first.entries) g4, length-append first.ops (p ∷ [])) in
    let stop : end ≡ other_at + length second.ops = omega (arith, e, behind, place_of c0 c6 (test_op ∷ ((first.ops ++ p ∷ []) ++ second.ops)) (entry ∷ (first.entries ++ second.entries)) g6, length-append (first.ops ++ p ∷ []) second.ops, length-append first.ops (p ∷ [])) in
    let here = lays_on c0 c2 c3 (o ∷ []) (entry ∷ []) (plan one) (length c0.ops + 1) (number + 1) g2 first (omega arith) (omega arith) in
    let there = lays_on c0 c5 c6 (test_op ∷ (first.ops ++ p ∷ [])) (entry ∷ first.entries) (plan other) other_at (number + 1 + length first.entries) g5 second
    (omega (arith, behind, length-append first.ops (p ∷ []))) (omega arith) in
    laid_of c0 c7 (test_op ∷ (first.ops ++ op.Jump end ∷ second.ops)) (entry ∷ (first.entries ++ second.entries)) (plan (made line (kind.If test one (Some other)))) g8
    (ap (λ (z : Clause). z ∷ (first.entries ++ second.entries)) k ∙ ap (λ (xs : List Clause). kept_test line test ∷ (xs ++ second.entries)) first.kept_are
    ∙ ap (λ (xs : List Clause). kept_test line test ∷ (kept one ++ xs)) second.kept_are ∙ sym (kept-if_else line test one other))
    (subst (λ z. Lays (length c0.ops) (length c0.clauses) (test_op ∷ (first.ops ++ op.Jump end ∷ second.ops)) (z ∷ (first.entries ++ second.entries)) (spots (made line (kind.If test one (Some other))))) (sym k)
    (subst (λ m. Lays (length c0.ops) m (test_op ∷ (first.ops ++ op.Jump end ∷ second.ops)) (kept_test line test ∷ (first.entries ++ second.entries)) (spots (made line (kind.If test one (Some other))))) n
    (lays_if_else (length c0.ops) number line test other_at end (number + 1 + length first.entries) one other first.ops second.ops first.entries second.entries behind stop refl here there)))

-- a list of clauses, and one clause more
pub laid_none : (code : Code) → Laid code code (plans [])
laid_none code = laid_of code code [] [] (plans []) (grown_none code) refl (lays_none (length code.ops) (length code.clauses))

pub laid_more : (c0 c1 c2 : Code) (clauses : List Clause) (clause : Clause)
    → Laid c0 c1 (plans clauses) → Laid c1 c2 (plan clause) → Laid c0 c2 (plans (clauses ++ clause ∷ []))
laid_more c0 c1 c2 clauses clause first second =
    let g1 = grown_laid c0 c0 c1 [] [] (plans clauses) (grown_none c0) first in
    let g2 = grown_laid c0 c1 c2 first.ops first.entries (plan clause) g1 second in
    let at : ℕ = length c0.ops + length first.ops in
    let number : ℕ = length c0.clauses + length first.entries in
    laid_of c0 c2 (first.ops ++ second.ops) (first.entries ++ second.entries) (plans (clauses ++ clause ∷ [])) g2
    (ap (λ (xs : List Clause). xs ++ second.entries) first.kept_are ∙ ap (λ (xs : List Clause). all_kept clauses ++ xs) second.kept_are ∙ sym (all_kept-snoc clauses clause))
    (lays_more (length c0.ops) (length c0.clauses) at number first.ops second.ops first.entries second.entries clauses clause refl refl first.lays
    (lays_on c0 c1 c2 first.ops first.entries (plan clause) at number g1 second refl refl))

pub laid_begun : (c0 c1 c2 c3 : Code) (number : ℕ) (entry : Clause) (clauses : List Clause) (laying : Plan)
    → entry ∷ all_kept clauses ≡ laying.kept
    → number ≡ length c0.clauses → c1 ≡ with_entry c0 entry → c2 ≡ with_op c1 (op.Clause number) → Laid c2 c3 (plans clauses)
    → ((ops : List Op) (entries : List Clause) → Lays (length c0.ops + 1) (length c0.clauses + 1) ops entries (all_spots clauses)
    → Lays (length c0.ops) (length c0.clauses) (op.Clause (length c0.clauses) ∷ ops) (entry ∷ entries) laying.laying)
    → Laid c0 c3 laying
laid_begun c0 c1 c2 c3 number entry clauses laying kept n h1 h2 laid by =
    let g1 = grown_entry c0 c0 c1 [] [] entry (grown_none c0) h1 in
    let g2 = grown_op c0 c1 c2 [] (entry ∷ []) (op.Clause number) g1 h2 in
    let g3 = grown_laid c0 c2 c3 (op.Clause number ∷ []) (entry ∷ []) (plans clauses) g2 laid in
    laid_of c0 c3 (op.Clause number ∷ laid.ops) (entry ∷ laid.entries) laying g3 (ap (λ (xs : List Clause). entry ∷ xs) laid.kept_are ∙ kept)
    (subst (λ m. Lays (length c0.ops) (length c0.clauses) (op.Clause m ∷ laid.ops) (entry ∷ laid.entries) laying.laying) (sym n)
    (by laid.ops laid.entries
    (lays_on c0 c2 c3 (op.Clause number ∷ []) (entry ∷ []) (plans clauses) (length c0.ops + 1) (length c0.clauses + 1) g2 laid (omega arith) (omega arith))))

pub laid_group : (c0 c1 c2 c3 : Code) (line number : ℕ) (clauses : List Clause)
    → number ≡ length c0.clauses → c1 ≡ with_entry c0 (made line (kind.Group [])) → c2 ≡ with_op c1 (op.Clause number) → Laid c2 c3 (plans clauses)
    → Laid c0 c3 (plan (made line (kind.Group clauses)))
laid_group c0 c1 c2 c3 line number clauses n h1 h2 laid =
    laid_begun c0 c1 c2 c3 number (made line (kind.Group [])) clauses (plan (made line (kind.Group clauses))) (sym (kept-group line clauses)) n h1 h2 laid
    (λ ops entries inner. lays_group (length c0.ops) (length c0.clauses) line clauses ops entries inner)

pub laid_no_when : (c0 c1 c2 c3 : Code) (line number : ℕ) (clauses : List Clause)
    → number ≡ length c0.clauses → c1 ≡ with_entry c0 (kept_select line (Some [])) → c2 ≡ with_op c1 (op.Clause number) → Laid c2 c3 (plans clauses)
    → Laid c0 c3 (plan (made line (kind.Select [] (Some clauses))))
laid_no_when c0 c1 c2 c3 line number clauses n h1 h2 laid =
    laid_begun c0 c1 c2 c3 number (kept_select line (Some [])) clauses (plan (made line (kind.Select [] (Some clauses)))) (sym (kept-no_when line clauses)) n h1 h2 laid
    (λ ops entries inner. lays_no_when (length c0.ops) (length c0.clauses) line clauses ops entries inner)

pub laid_loop : (c0 c1 c2 c3 c4 c5 c6 : Code) (line number turn end : ℕ) (header : Header) (test : Test) (clauses : List Clause) (o : Op)
    → number ≡ length c0.clauses → c1 ≡ with_entry c0 (made line (kind.Loop header test [])) → c2 ≡ with_op c1 (op.Header number)
    → turn ≡ length c2.ops → c3 ≡ with_op c2 o → Laid c3 c4 (plans clauses) → c5 ≡ with_op c4 (op.Jump turn) → end ≡ length c5.ops
    → c6 ≡ with_set c5 turn (op.Turn number end)
    → Laid c0 c6 (plan (made line (kind.Loop header test clauses)))
laid_loop c0 c1 c2 c3 c4 c5 c6 line number turn end header test clauses o n h1 h2 t h3 laid h5 e h6 =
    let entry = made line (kind.Loop header test []) in
    let whole = plan (made line (kind.Loop header test clauses)) in
    let head = op.Header number in
    let g1 = grown_entry c0 c0 c1 [] [] entry (grown_none c0) h1 in
    let g2 = grown_op c0 c1 c2 [] (entry ∷ []) head g1 h2 in
    let g3 = grown_op c0 c2 c3 (head ∷ []) (entry ∷ []) o g2 h3 in
    let g4 = grown_laid c0 c3 c4 (head ∷ o ∷ []) (entry ∷ []) (plans clauses) g3 laid in
    let g5 = grown_op c0 c4 c5 (head ∷ o ∷ laid.ops) (entry ∷ laid.entries) (op.Jump turn) g4 h5 in
    let start : turn ≡ length c0.ops + 1 = t ∙ place_of c0 c2 (head ∷ []) (entry ∷ []) g2 in
    let g6 = grown_set c0 c5 c6 (head ∷ o ∷ (laid.ops ++ op.Jump turn ∷ [])) (entry ∷ laid.entries) turn 1 (op.Turn number end) g5 h6 start in
    let stop : end ≡ length c0.ops + 2 + length laid.ops + 1 = omega (arith, e, place_of c0 c5 (head ∷ o ∷ (laid.ops ++ op.Jump turn ∷ [])) (entry ∷ laid.entries) g5, length-append laid.ops (op.Jump turn ∷ [])) in
    let inner = lays_on c0 c3 c4 (head ∷ o ∷ []) (entry ∷ []) (plans clauses) (length c0.ops + 2) (number + 1) g3 laid (omega arith) (omega arith) in
    laid_of c0 c6 (head ∷ op.Turn number end ∷ (laid.ops ++ op.Jump turn ∷ [])) (entry ∷ laid.entries) whole g6 (ap (λ (xs : List Clause). entry ∷ xs) laid.kept_are ∙ sym (kept-loop line header test clauses))
    (subst (λ m. Lays (length c0.ops) m (head ∷ op.Turn number end ∷ (laid.ops ++ op.Jump turn ∷ [])) (entry ∷ laid.entries) whole.laying) n
    (lays_loop (length c0.ops) number line turn end header test clauses laid.ops laid.entries start stop inner))

-- WHENs, and one WHEN more
pub laid_no_whens : (exit : ℕ) (code : Code) (line : ℕ) → LaidWhens exit code code line []
laid_no_whens exit code line = record {
  ops = [];
  entries = [];
  all_ops = sym (append-nil code.ops);
  all_entries = sym (append-nil code.clauses);
  kept_are = refl;
  lays = λ others. whens_none exit (length code.ops) (length code.clauses) line others;
}

pub laid_when : (exit : ℕ) (c0 c1 c2 c3 c4 c5 : Code) (line number at next : ℕ) (when : When) (entry : Clause) (o : Op)
    → entry ≡ kept_test line when.test → number ≡ length c0.clauses → c1 ≡ with_entry c0 entry → at ≡ length c1.ops → c2 ≡ with_op c1 o
    → Laid c2 c3 (plan when.chosen) → c4 ≡ with_op c3 (op.Jump exit) → next ≡ length c4.ops → c5 ≡ with_set c4 at (op.Test number next)
    → LaidWhen exit c0 c5 line when
laid_when exit c0 c1 c2 c3 c4 c5 line number at next when entry o k n h1 a h2 laid h4 e h5 =
    let g1 = grown_entry c0 c0 c1 [] [] entry (grown_none c0) h1 in
    let g2 = grown_op c0 c1 c2 [] (entry ∷ []) o g1 h2 in
    let g3 = grown_laid c0 c2 c3 (o ∷ []) (entry ∷ []) (plan when.chosen) g2 laid in
    let g4 = grown_op c0 c3 c4 (o ∷ laid.ops) (entry ∷ laid.entries) (op.Jump exit) g3 h4 in
    let start : at ≡ length c0.ops + 0 = a ∙ place_of c0 c1 [] (entry ∷ []) g1 in
    let g5 = grown_set c0 c4 c5 (o ∷ (laid.ops ++ op.Jump exit ∷ [])) (entry ∷ laid.entries) at 0 (op.Test number next) g4 h5 start in
    record {
      ops = laid.ops;
      entries = laid.entries;
      next = next;
      all_ops = g5.all_ops ∙ ap (λ (m : ℕ). c0.ops ++ op.Test m next ∷ (laid.ops ++ op.Jump exit ∷ [])) n;
      all_entries = g5.all_entries ∙ ap (λ (z : Clause). c0.clauses ++ z ∷ laid.entries) k;
      kept_are = laid.kept_are;
      next_is = omega (arith, e, place_of c0 c4 (o ∷ (laid.ops ++ op.Jump exit ∷ [])) (entry ∷ laid.entries) g4, length-append laid.ops (op.Jump exit ∷ []));
      lays = lays_on c0 c2 c3 (o ∷ []) (entry ∷ []) (plan when.chosen) (length c0.ops + 1) (length c0.clauses + 1) g2 laid (omega arith) (omega arith);
    }

pub laid_whens_more : (exit : ℕ) (c0 c1 c2 : Code) (line : ℕ) (whens : List When) (when : When)
    → LaidWhens exit c0 c1 line whens → LaidWhen exit c1 c2 line when → LaidWhens exit c0 c2 line (whens ++ when ∷ [])
laid_whens_more exit c0 c1 c2 line whens when first second =
    let at : ℕ = length c0.ops + length first.ops in
    let number : ℕ = length c0.clauses + length first.entries in
    let places : length c1.ops ≡ at = ap length first.all_ops ∙ length-append c0.ops first.ops in
    let numbers : length c1.clauses ≡ number = ap length first.all_entries ∙ length-append c0.clauses first.entries in
    let more = op.Test number second.next ∷ (second.ops ++ op.Jump exit ∷ []) in
    let entry = kept_test line when.test in
    let next : second.next ≡ at + 1 + length second.ops + 1 = omega (arith, second.next_is) in
    let inner = subst (λ m. Lays (m + 1) (number + 1) second.ops second.entries (spots when.chosen)) places
    (subst (λ m. Lays (length c1.ops + 1) (m + 1) second.ops second.entries (spots when.chosen)) numbers second.lays) in
    record {
      ops = first.ops ++ more;
      entries = first.entries ++ entry ∷ second.entries;
      all_ops = second.all_ops ∙ ap (λ (m : ℕ). c1.ops ++ op.Test m second.next ∷ (second.ops ++ op.Jump exit ∷ [])) numbers
          ∙ ap (λ (xs : List Op). xs ++ more) first.all_ops ∙ append_assoc c0.ops first.ops more;
      all_entries = second.all_entries ∙ ap (λ (xs : List Clause). xs ++ entry ∷ second.entries) first.all_entries ∙ append_assoc c0.clauses first.entries (entry ∷ second.entries);
      kept_are = ap (λ (xs : List Clause). xs ++ entry ∷ second.entries) first.kept_are
          ∙ ap (λ (xs : List Clause). whens_kept line whens ++ entry ∷ xs) second.kept_are ∙ sym (whens_kept-snoc line whens when);
      lays = λ others. whens_more exit (length c0.ops) (length c0.clauses) line at number second.next first.ops second.ops first.entries second.entries whens when others
          refl refl next (first.lays others) inner;
    }

pub opened : (c0 c1 c2 c3 c4 : Code) (entry : Clause) (number at exit first_at : ℕ)
    → number ≡ length c0.clauses → c1 ≡ with_entry c0 entry → at ≡ length c1.ops → c2 ≡ with_op c1 (op.Jump 0)
    → exit ≡ length c2.ops → c3 ≡ with_op c2 (op.Jump 0) → first_at ≡ length c3.ops → c4 ≡ with_set c3 at (op.Jump first_at)
    → Opened c0 c4 entry number exit
opened c0 c1 c2 c3 c4 entry number at exit first_at n h1 a h2 x h3 f h4 =
    let o = op.Jump 0 in
    let g1 = grown_entry c0 c0 c1 [] [] entry (grown_none c0) h1 in
    let g2 = grown_op c0 c1 c2 [] (entry ∷ []) o g1 h2 in
    let g3 = grown_op c0 c2 c3 (o ∷ []) (entry ∷ []) o g2 h3 in
    let start : at ≡ length c0.ops + 0 = a ∙ place_of c0 c1 [] (entry ∷ []) g1 in
    let g4 = grown_set c0 c3 c4 (o ∷ o ∷ []) (entry ∷ []) at 0 (op.Jump first_at) g3 h4 start in
    record {
      number_is = n;
      exit_is = x ∙ place_of c0 c2 (o ∷ []) (entry ∷ []) g2;
      all_ops = g4.all_ops ∙ ap (λ (m : ℕ). c0.ops ++ op.Jump m ∷ o ∷ []) (f ∙ place_of c0 c3 (o ∷ o ∷ []) (entry ∷ []) g3);
      all_entries = g4.all_entries;
    }

-- WHENs laid on opened code, by the numbers of the old one
whens_on : (old code new : Code) (ops : List Op) (entries : List Clause) (exit line at number : ℕ) (whens : List When)
    → Grown old code ops entries → (laid : LaidWhens exit code new line whens) → at ≡ length old.ops + length ops → number ≡ length old.clauses + length entries
    → (others : Option (List Clause)) → LaysWhens exit at number laid.ops laid.entries line whens others
whens_on old code new ops entries exit line at number whens g laid a n others =
    let p : length code.ops ≡ at = omega (arith, ap length g.all_ops, length-append old.ops ops) in
    let q : length code.clauses ≡ number = omega (arith, ap length g.all_entries, length-append old.clauses entries) in
    subst (λ m. LaysWhens exit m number laid.ops laid.entries line whens others) p
    (subst (λ m. LaysWhens exit (length code.ops) m laid.ops laid.entries line whens others) q (laid.lays others))

pub laid_select : (c0 c1 c2 c3 c4 : Code) (line number exit end : ℕ) (whens : List When)
    → Opened c0 c1 (kept_select line None) number exit → LaidWhens exit c1 c2 line whens → c3 ≡ with_op c2 (op.NoWhen number) → end ≡ length c3.ops
    → c4 ≡ with_set c3 exit (op.Jump end)
    → Laid c0 c4 (plan (made line (kind.Select whens None)))
laid_select c0 c1 c2 c3 c4 line number exit end whens begun laid h3 e h4 =
    let entry = kept_select line None in
    let whole = plan (made line (kind.Select whens None)) in
    let first_at : ℕ = length c0.ops + 2 in
    let jump = op.Jump first_at in
    let g1 : Grown c0 c1 (jump ∷ op.Jump 0 ∷ []) (entry ∷ []) = record { all_ops = begun.all_ops; all_entries = begun.all_entries } in
    let g2 = grown_whens exit c0 c1 c2 (jump ∷ op.Jump 0 ∷ []) (entry ∷ []) line whens g1 laid in
    let g3 = grown_op c0 c2 c3 (jump ∷ op.Jump 0 ∷ laid.ops) (entry ∷ laid.entries) (op.NoWhen number) g2 h3 in
    let g4 = grown_set c0 c3 c4 (jump ∷ op.Jump 0 ∷ (laid.ops ++ op.NoWhen number ∷ [])) (entry ∷ laid.entries) exit 1 (op.Jump end) g3 h4 begun.exit_is in
    let stop : end ≡ first_at + length laid.ops + 1 = omega (arith, e, place_of c0 c3 (jump ∷ op.Jump 0 ∷ (laid.ops ++ op.NoWhen number ∷ [])) (entry ∷ laid.entries) g3, length-append laid.ops (op.NoWhen number ∷ [])) in
    let inner = whens_on c0 c1 c2 (jump ∷ op.Jump 0 ∷ []) (entry ∷ []) exit line first_at (number + 1) whens g1 laid refl (omega (arith, begun.number_is)) None in
    laid_of c0 c4 (jump ∷ op.Jump end ∷ (laid.ops ++ op.NoWhen number ∷ [])) (entry ∷ laid.entries) whole g4 (ap (λ (xs : List Clause). entry ∷ xs) laid.kept_are ∙ sym (kept-select line whens))
    (subst (λ m. Lays (length c0.ops) m (jump ∷ op.Jump end ∷ (laid.ops ++ op.NoWhen number ∷ [])) (entry ∷ laid.entries) whole.laying) begun.number_is
    (lays_select (length c0.ops) number line exit first_at end whens laid.ops laid.entries begun.exit_is refl stop inner))

pub laid_select_otherwise : (c0 c1 c2 c3 c4 : Code) (line number exit end : ℕ) (whens : List When) (others : List Clause)
    → 0 < length whens → Opened c0 c1 (kept_select line (Some [])) number exit → LaidWhens exit c1 c2 line whens → Laid c2 c3 (plans others) → end ≡ length c3.ops
    → c4 ≡ with_set c3 exit (op.Jump end)
    → Laid c0 c4 (plan (made line (kind.Select whens (Some others))))
laid_select_otherwise c0 c1 c2 c3 c4 line number exit end [] others some begun laid behind e h4 = absurd (omega arith)
laid_select_otherwise c0 c1 c2 c3 c4 line number exit end (when ∷ whens) others some begun laid behind e h4 =
    let entry = kept_select line (Some []) in
    let whole = plan (made line (kind.Select (when ∷ whens) (Some others))) in
    let first_at : ℕ = length c0.ops + 2 in
    let jump = op.Jump first_at in
    let g1 : Grown c0 c1 (jump ∷ op.Jump 0 ∷ []) (entry ∷ []) = record { all_ops = begun.all_ops; all_entries = begun.all_entries } in
    let g2 = grown_whens exit c0 c1 c2 (jump ∷ op.Jump 0 ∷ []) (entry ∷ []) line (when ∷ whens) g1 laid in
    let g3 = grown_laid c0 c2 c3 (jump ∷ op.Jump 0 ∷ laid.ops) (entry ∷ laid.entries) (plans others) g2 behind in
    let g4 = grown_set c0 c3 c4 (jump ∷ op.Jump 0 ∷ (laid.ops ++ behind.ops)) (entry ∷ (laid.entries ++ behind.entries)) exit 1 (op.Jump end) g3 h4 begun.exit_is in
    let tail_at : ℕ = first_at + length laid.ops in
    let stop : end ≡ tail_at + length behind.ops = omega (arith, e, place_of c0 c3 (jump ∷ op.Jump 0 ∷ (laid.ops ++ behind.ops)) (entry ∷ (laid.entries ++ behind.entries)) g3, length-append laid.ops behind.ops) in
    let inner = whens_on c0 c1 c2 (jump ∷ op.Jump 0 ∷ []) (entry ∷ []) exit line first_at (number + 1) (when ∷ whens) g1 laid refl (omega (arith, begun.number_is)) (Some others) in
    let tail_number : ℕ = number + 1 + length laid.entries in
    let tail = lays_on c0 c2 c3 (jump ∷ op.Jump 0 ∷ laid.ops) (entry ∷ laid.entries) (plans others) tail_at tail_number g2 behind (omega arith) (omega (arith, begun.number_is)) in
    laid_of c0 c4 (jump ∷ op.Jump end ∷ (laid.ops ++ behind.ops)) (entry ∷ (laid.entries ++ behind.entries)) whole g4
    (ap (λ (xs : List Clause). entry ∷ (xs ++ behind.entries)) laid.kept_are ∙ ap (λ (xs : List Clause). entry ∷ (whens_kept line (when ∷ whens) ++ xs)) behind.kept_are
    ∙ sym (kept-select_otherwise line when whens others))
    (subst (λ m. Lays (length c0.ops) m (jump ∷ op.Jump end ∷ (laid.ops ++ behind.ops)) (entry ∷ (laid.entries ++ behind.entries)) whole.laying) begun.number_is
    (lays_select_otherwise (length c0.ops) number line exit first_at end tail_at tail_number when whens others laid.ops behind.ops laid.entries behind.entries
    begun.exit_is refl refl stop refl inner tail))

-- what a clause's own kind is
pub laid_as : (a b : Code) (clause : Clause) (k : ClauseKind) → clause.kind ≡ k → Laid a b (plan (made clause.line k)) → Laid a b (plan clause)
laid_as a b clause k e laid = subst (λ z. Laid a b (plan (made clause.line z))) (sym e) laid

-- one item more of a slice
pub laid_next : (c0 c1 c2 : Code) (clauses : List Clause) (i : ℕ) (clause : Clause)
    → i < length clauses → clause ≡ get_or clauses i clause → Laid c0 c1 (plans (take i clauses)) → Laid c1 c2 (plan clause)
    → Laid c0 c2 (plans (take (i + 1) clauses))
laid_next c0 c1 c2 clauses i clause lt is first second =
    let e : take (i + 1) clauses ≡ take i clauses ++ clause ∷ [] =
    take_more clauses i clause lt ∙ ap (λ (z : Clause). take i clauses ++ z ∷ []) (sym is) in
    subst (λ xs. Laid c0 c2 (plans xs)) (sym e) (laid_more c0 c1 c2 (take i clauses) clause first second)

pub laid_next_when : (exit : ℕ) (c0 c1 c2 : Code) (line : ℕ) (whens : List When) (i : ℕ) (when : When)
    → i < length whens → when ≡ get_or whens i when → LaidWhens exit c0 c1 line (take i whens) → LaidWhen exit c1 c2 line when
    → LaidWhens exit c0 c2 line (take (i + 1) whens)
laid_next_when exit c0 c1 c2 line whens i when lt is first second =
    let e : take (i + 1) whens ≡ take i whens ++ when ∷ [] =
    take_more whens i when lt ∙ ap (λ (z : When). take i whens ++ z ∷ []) (sym is) in
    subst (λ xs. LaidWhens exit c0 c2 line xs) (sym e) (laid_whens_more exit c0 c1 c2 line (take i whens) when first second)

-- The arm of an IF with an ELSE.
pub laid_both : (c0 c2 c3 c5 c6 c7 : Code) (clause : Clause) (test : Expr) (number at jump : ℕ) (one one_now other other_now : Clause) (last : Option Clause)
    → clause.kind ≡ kind.If test one last → last ≡ Some other → one_now ≡ one → other_now ≡ other
    → number ≡ length c0.clauses → at ≡ length c0.ops → c2 ≡ with_op (with_entry c0 (kept_test clause.line test)) (op.Jump 0)
    → Laid c2 c3 (plan one_now) → jump ≡ length c3.ops → c5 ≡ with_set (with_op c3 (op.Jump 0)) at (op.Test number (length c3.ops + 1))
    → Laid c5 c6 (plan other_now) → c7 ≡ with_set c6 jump (op.Jump (length c6.ops)) → Laid c0 c7 (plan clause)
laid_both c0 c2 c3 c5 c6 c7 clause test number at jump one one_now other other_now last k l o p n a h2 first j h5 second h7 =
    let entry = kept_test clause.line test in
    let behind : length c3.ops + 1 ≡ length (c3.ops ++ op.Jump 0 ∷ []) = omega (arith, length-append c3.ops (op.Jump 0 ∷ [])) in
    laid_as c0 c7 clause (kind.If test one (Some other)) (k ∙ ap (λ (z : Option Clause). kind.If test one z) l)
    (laid_if_else c0 (with_entry c0 entry) c2 c3 (with_op c3 (op.Jump 0)) c5 c6 c7 clause.line test number at jump (length c3.ops + 1) (length c6.ops) one other entry (op.Jump 0) (op.Jump 0)
    refl n refl a h2 (subst (λ z. Laid c2 c3 (plan z)) o first) j refl behind h5 (subst (λ z. Laid c5 c6 (plan z)) p second) refl h7)

-- The arms of a SELECT with an OTHERWISE.
pub laid_whole_select : (c0 c1 c2 c3 c4 : Code) (clause : Clause) (number exit : ℕ) (whens whens_now : List When) (others others_now : List Clause) (last : Option (List Clause))
    → clause.kind ≡ kind.Select whens last → last ≡ Some others → whens_now ≡ whens → others_now ≡ others → (length whens ≡ 0 → ⊥)
    → Opened c0 c1 (kept_select clause.line (Some [])) number exit → LaidWhens exit c1 c2 clause.line whens_now → Laid c2 c3 (plans others_now)
    → c4 ≡ with_set c3 exit (op.Jump (length c3.ops)) → Laid c0 c4 (plan clause)
laid_whole_select c0 c1 c2 c3 c4 clause number exit whens whens_now others others_now last k l w o some begun first second h =
    let filled : 0 < length whens = omega arith in
    laid_as c0 c4 clause (kind.Select whens (Some others)) (k ∙ ap (λ (z : Option (List Clause)). kind.Select whens z) l)
    (laid_select_otherwise c0 c1 c2 c3 c4 clause.line number exit (length c3.ops) whens others filled begun
    (subst (λ z. LaidWhens exit c1 c2 clause.line z) w first) (subst (λ z. Laid c2 c3 (plans z)) o second) refl h)
