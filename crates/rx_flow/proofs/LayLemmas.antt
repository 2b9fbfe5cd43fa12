-- How code is laid for each kind of clause.
use Rattle.std.proofs.Common.{◌≡◌, ℕ, suc, ◌+◌, ◌<◌, ◌≤◌, List, [], ◌∷◌, ◌++◌, length, Option, Some, None, refl, ap, sym, ◌∙◌, subst, inl, inr, arith, append_assoc, length-append, add-zero}
use Rattle.std.proofs.lemmas.List.{append-nil}
use Rattle.rx_tree.specs.declared.expr.Expr.{Expr}
use Rattle.rx_clause_tree.specs.declared.simple.Simple.{Simple}
use Rattle.rx_clause_tree.specs.declared.loops.Header.{Header}
use Rattle.rx_clause_tree.specs.declared.loops.Test.{Test}
use Rattle.rx_clause_tree.specs.declared.clause.Clause.{Clause}
use Rattle.rx_clause_tree.specs.declared.clause.When.{When}
use Rattle.rx_clause_tree.specs.declared.clause.ClauseKind.TheVariants as kind
use Rattle.rx_flow.specs.declared.code.Op.{Op}
use Rattle.rx_flow.specs.declared.code.Op.TheVariants as op
use Rattle.rx_flow.specs.Rules.{Begins, Loops, rule, rule_of, made, whens_left}
use Rattle.rx_flow.specs.Todo.{is_label}
use Rattle.rx_flow.specs.Kept.{kept_test, kept_select, kept_of, kept_layer}
use Rattle.rx_flow.specs.Spots.{Spot, Doing, Turning, clauses_at, spots, all_spots, when_spots, tail_spots}
use Rattle.rx_flow.specs.Stands.{View, left, LeadsTo, repeated, AllFit, AllInside}
use Rattle.rx_flow.specs.Laid.{Runs, Held, Lays, LaysWhens}
use Rattle.rx_flow.proofs.SpotLemmas.{spots-simple, spots-if, spots-if_else, spots-group, spots-loop, spots-no_when, spots-select, spots-select_otherwise, spots-first}

runs_front : {A : Type 0} (f : ℕ → A) (at : ℕ) (xs ys : List A) → Runs f at (xs ++ ys) → Runs f at xs
runs_front f at [] ys h = tt
runs_front f at (x ∷ xs) ys h = (h.0, runs_front f (at + 1) xs ys h.1)

runs_back : {A : Type 0} (f : ℕ → A) (at : ℕ) (xs ys : List A) → Runs f at (xs ++ ys) → Runs f (at + length xs) ys
runs_back f at [] ys h = subst (λ n. Runs f n ys) (sym (add-zero at)) h
runs_back f at (x ∷ xs) ys h =
    let e : at + 1 + length xs ≡ at + length (x ∷ xs) = omega arith in
    subst (λ n. Runs f n ys) e (runs_back f (at + 1) xs ys h.1)

-- the same where the number is another spelling of that sum
pub runs_at : {A : Type 0} (f : ℕ → A) (at to : ℕ) (xs ys : List A) → at + length xs ≡ to → Runs f at (xs ++ ys) → Runs f to ys
runs_at f at to xs ys e h = subst (λ n. Runs f n ys) e (runs_back f at xs ys h)

held_front : {A : Type 0} (f : ℕ → Option A) (at : ℕ) (xs ys : List A) → Held f at (xs ++ ys) → Held f at xs
held_front f at [] ys h = tt
held_front f at (x ∷ xs) ys h = (h.0, held_front f (at + 1) xs ys h.1)

held_at : {A : Type 0} (f : ℕ → Option A) (at to : ℕ) (xs ys : List A) → at + length xs ≡ to → Held f at (xs ++ ys) → Held f to ys
held_at f at to [] ys e h = let same : at ≡ to = omega arith in subst (λ n. Held f n ys) same h
held_at f at to (x ∷ xs) ys e h = held_at f (at + 1) to xs ys (omega arith) h.1

fits_append : (v : View) (at to : ℕ) (xs ys : List Op) → at + length xs ≡ to → AllFit v at xs → AllFit v to ys → AllFit v at (xs ++ ys)
fits_append v at to [] ys e h k = let same : to ≡ at = omega arith in subst (λ n. AllFit v n ys) same k
fits_append v at to (x ∷ xs) ys e h k = (h.0, fits_append v (at + 1) to xs ys (omega arith) h.1 k)

-- the first of a clause's spots
first_spot : (v : View) (at : ℕ) (clause : Clause) (after : List Clause) → Runs v.spot at (spots clause after) → v.spot at ≡ Doing (clause ∷ after)
first_spot v at clause after h = (subst (λ xs. Runs v.spot at xs) (spots-first clause after).1 h).0

pub first_left : (v : View) (at : ℕ) (clauses after : List Clause) → Runs v.spot at (all_spots clauses after)
    → left v (at + length (all_spots clauses after)) ≡ after → left v at ≡ clauses ++ after
first_left v at [] after h e = ap (λ (n : ℕ). left v n) (sym (add-zero at)) ∙ e
first_left v at (clause ∷ clauses) after h e =
    ap clauses_at (first_spot v at clause (clauses ++ after) (runs_front v.spot at (spots clause (clauses ++ after)) (all_spots clauses after) h))

all_spots-snoc : (clauses : List Clause) (clause : Clause) (after : List Clause)
    → all_spots (clauses ++ clause ∷ []) after ≡ all_spots clauses (clause ∷ after) ++ spots clause after
all_spots-snoc [] clause after = append-nil (spots clause after)
all_spots-snoc (first ∷ clauses) clause after =
    rw (append_assoc clauses (clause ∷ []) after, all_spots-snoc clauses clause after)
    (sym (append_assoc (spots first (clauses ++ clause ∷ after)) (all_spots clauses (clause ∷ after)) (spots clause after)))

inside_append : (limit : ℕ) (xs ys : List Op) → AllInside limit xs → AllInside limit ys → AllInside limit (xs ++ ys)
inside_append limit [] ys h k = k
inside_append limit (x ∷ xs) ys h k = (h.0, inside_append limit xs ys h.1 k)

pub lays_none : (at number : ℕ) → Lays at number [] [] (all_spots [])
lays_none at number = record { counts = λ after. refl; inside = λ limit room. tt; fits = λ v after runs end ops entries. tt }

pub lays_more : (at number to next : ℕ) (ops more : List Op) (entries others : List Clause) (clauses : List Clause) (clause : Clause)
    → at + length ops ≡ to → number + length entries ≡ next → Lays at number ops entries (all_spots clauses) → Lays to next more others (spots clause)
    → Lays at number (ops ++ more) (entries ++ others) (all_spots (clauses ++ clause ∷ []))
lays_more at number to next ops more entries others clauses clause e n first second = record {
  inside = λ limit room. let sum = length-append ops more in inside_append limit ops more (first.inside limit (omega arith)) (second.inside limit (omega arith));
  counts = λ after.
      let a = first.counts (clause ∷ after) in
      let b = second.counts after in
      rw (all_spots-snoc clauses clause after, length-append (all_spots clauses (clause ∷ after)) (spots clause after), length-append ops more) (omega arith);
  fits = λ v after runs end in_ops in_entries.
      let r = subst (λ xs. Runs v.spot at xs) (all_spots-snoc clauses clause after) runs in
      let a = first.counts (clause ∷ after) in
      let same : at + length (all_spots clauses (clause ∷ after)) ≡ to = omega arith in
      let back = runs_at v.spot at to (all_spots clauses (clause ∷ after)) (spots clause after) same r in
      let there : at + length (ops ++ more) ≡ to + length more = simp length-append (omega arith) in
      fits_append v at to ops more e
      (first.fits v (clause ∷ after) (runs_front v.spot at (all_spots clauses (clause ∷ after)) (spots clause after) r)
      (ap (λ (m : ℕ). left v m) e ∙ ap clauses_at (first_spot v to clause after back))
      (held_front v.op at ops more in_ops) (held_front v.entry number entries others in_entries))
      (second.fits v after back (ap (λ (m : ℕ). left v m) (sym there) ∙ end)
      (held_at v.op at to ops more e in_ops) (held_at v.entry number next entries others n in_entries));
}

-- what is left at another spelling of a place
moved : (v : View) (m n : ℕ) (after : List Clause) → m ≡ n → left v m ≡ after → left v n ≡ after
moved v m n after e h = ap (λ (k : ℕ). left v k) (sym e) ∙ h

pub lays_simple : (at number line : ℕ) (s : Simple)
    → Lays at number (op.Clause number ∷ []) (made line (kind.Simple s) ∷ []) (spots (made line (kind.Simple s)))
lays_simple at number line s = record {
  inside = λ limit room. (tt, tt);
  counts = λ after. ap length (spots-simple line s after);
  fits = λ v after runs end in_ops in_entries.
      let clause = made line (kind.Simple s) in
      let r = subst (λ xs. Runs v.spot at xs) (spots-simple line s after) runs in (
        record {
          clause = clause;
          after = after;
          here = ap clauses_at r.0;
          entry = in_entries.0 ∙ ap (λ k. Some (kept_layer line k)) (sym (kind.outs-Simple s));
          leads = subst (LeadsTo v clause after (at + 1) (at + 1)) (sym (ap (rule_of line) (kind.outs-Simple s))) end;
        },
        tt,
      );
}

pub lays_if : (at number line : ℕ) (test : Expr) (end : ℕ) (one : Clause) (ops : List Op) (entries : List Clause)
    → end ≡ at + 1 + length ops → Lays (at + 1) (number + 1) ops entries (spots one)
    → Lays at number (op.Test number end ∷ ops) (kept_test line test ∷ entries) (spots (made line (kind.If test one None)))
lays_if at number line test end one ops entries e inner = record {
  inside = λ limit room. (omega arith, inner.inside limit (omega arith));
  counts = λ after. ap length (spots-if line test one after) ∙ ap suc (inner.counts after);
  fits = λ v after runs last in_ops in_entries.
      let r = subst (λ xs. Runs v.spot at xs) (spots-if line test one after) runs in
      let out = moved v (at + length (op.Test number end ∷ ops)) end after (omega arith) last in (
        record {
          stands = record {
            clause = made line (kind.If test one None);
            after = after;
            here = ap clauses_at r.0;
            entry = in_entries.0 ∙ ap (λ k. Some (kept_layer line k)) (sym (kind.outs-If test one None));
            leads = subst (LeadsTo v (made line (kind.If test one None)) after (at + 1) end) (sym (ap (rule_of line) (kind.outs-If test one None)))
                (ap clauses_at (first_spot v (at + 1) one after r.1), out);
          };
          step = ap is_label (ap (rule_of line) (kind.outs-If test one None));
        },
        inner.fits v after r.1 (moved v end (at + 1 + length ops) after e out) in_ops.1 in_entries.1,
      );
}

pub lays_if_else : (at number line : ℕ) (test : Expr) (other_at end next : ℕ) (one other : Clause) (ops more : List Op) (entries others : List Clause)
    → other_at ≡ at + 1 + length ops + 1 → end ≡ other_at + length more → next ≡ number + 1 + length entries
    → Lays (at + 1) (number + 1) ops entries (spots one) → Lays other_at next more others (spots other)
    → Lays at number (op.Test number other_at ∷ (ops ++ op.Jump end ∷ more)) (kept_test line test ∷ (entries ++ others)) (spots (made line (kind.If test one (Some other))))
lays_if_else at number line test other_at end next one other ops more entries others e f n first second = record {
  inside = λ limit room. let sum = length-append ops (op.Jump end ∷ more) in (omega arith, inside_append limit ops (op.Jump end ∷ more) (first.inside limit (omega arith)) (omega arith, second.inside limit (omega arith)));
  counts = λ after.
      let a = first.counts after in
      let b = second.counts after in
      ap length (spots-if_else line test one other after)
      ∙ ap suc (length-append (spots one after) (Doing after ∷ spots other after) ∙ (let sum : length (spots one after) + length (Doing after ∷ spots other after) ≡ length ops + length (op.Jump end ∷ more) = omega arith in sum) ∙ sym (length-append ops (op.Jump end ∷ more)));
  fits = λ v after runs last in_ops in_entries.
      let r = subst (λ xs. Runs v.spot at xs) (spots-if_else line test one other after) runs in
      let a = first.counts after in
      let jump : ℕ = at + 1 + length ops in
      let whole : at + length (op.Test number other_at ∷ (ops ++ op.Jump end ∷ more)) ≡ end = omega (arith, length-append ops (op.Jump end ∷ more)) in
      let out = moved v _ end after whole last in
      let same : at + 1 + length (spots one after) ≡ jump = omega arith in
      let back = runs_at v.spot (at + 1) jump (spots one after) (Doing after ∷ spots other after) same r.1 in
      let to : jump + 1 ≡ other_at = omega arith in
      let last_runs = subst (λ m. Runs v.spot m (spots other after)) to back.1 in
      let o = held_at v.op (at + 1) jump ops (op.Jump end ∷ more) refl in_ops.1 in
      let last_ops = subst (λ m. Held v.op m more) to o.1 in
      let forth : jump < end = omega arith in (
        record {
          stands = record {
            clause = made line (kind.If test one (Some other));
            after = after;
            here = ap clauses_at r.0;
            entry = in_entries.0 ∙ ap (λ k. Some (kept_layer line k)) (sym (kind.outs-If test one (Some other)));
            leads = subst (LeadsTo v (made line (kind.If test one (Some other))) after (at + 1) other_at) (sym (ap (rule_of line) (kind.outs-If test one (Some other)))) (
              ap clauses_at (first_spot v (at + 1) one after (runs_front v.spot (at + 1) (spots one after) (Doing after ∷ spots other after) r.1)),
              ap clauses_at (first_spot v other_at other after last_runs),
            );
          };
          step = ap is_label (ap (rule_of line) (kind.outs-If test one (Some other)));
        },
        fits_append v (at + 1) jump ops (op.Jump end ∷ more) refl
            (first.fits v after (runs_front v.spot (at + 1) (spots one after) (Doing after ∷ spots other after) r.1) (ap clauses_at back.0)
            (held_front v.op (at + 1) ops (op.Jump end ∷ more) in_ops.1) (held_front v.entry (number + 1) entries others in_entries.1)) (
              record { here = back.0 ∙ ap Doing (sym out); ends = inl forth },
              subst (λ m. AllFit v m more) (sym to)
                  (second.fits v after last_runs (moved v end (other_at + length more) after f out) last_ops
                  (held_at v.entry (number + 1) next entries others (sym n) in_entries.1)),
            ),
      );
}

-- a clause after which others are begun
begins : (at number : ℕ) (clause kept : Clause) (clauses : List Clause) (ops : List Op) (entries : List Clause)
    → kept ≡ kept_of clause → rule clause ≡ Begins clauses → ((after : List Clause) → spots clause after ≡ Doing (clause ∷ after) ∷ all_spots clauses after)
    → Lays (at + 1) (number + 1) ops entries (all_spots clauses)
    → Lays at number (op.Clause number ∷ ops) (kept ∷ entries) (spots clause)
begins at number clause kept clauses ops entries on rules is inner = record {
  inside = λ limit room. (tt, inner.inside limit (omega arith));
  counts = λ after. ap length (is after) ∙ ap suc (inner.counts after);
  fits = λ v after runs last in_ops in_entries.
      let r = subst (λ xs. Runs v.spot at xs) (is after) runs in
      let c = inner.counts after in
      let e : at + length (op.Clause number ∷ ops) ≡ at + 1 + length ops = omega arith in
      let out = moved v _ (at + 1 + length ops) after e last in
      let same : at + 1 + length ops ≡ at + 1 + length (all_spots clauses after) = omega arith in (
        record {
          clause = clause;
          after = after;
          here = ap clauses_at r.0;
          entry = in_entries.0 ∙ ap (λ (z : Clause). Some z) on;
          leads = subst (LeadsTo v clause after (at + 1) (at + 1)) (sym rules)
              (first_left v (at + 1) clauses after r.1 (moved v (at + 1 + length ops) (at + 1 + length (all_spots clauses after)) after same out));
        },
        inner.fits v after r.1 out in_ops.1 in_entries.1,
      );
}

pub lays_group : (at number line : ℕ) (clauses : List Clause) (ops : List Op) (entries : List Clause)
    → Lays (at + 1) (number + 1) ops entries (all_spots clauses)
    → Lays at number (op.Clause number ∷ ops) (made line (kind.Group []) ∷ entries) (spots (made line (kind.Group clauses)))
lays_group at number line clauses ops entries inner =
    begins at number (made line (kind.Group clauses)) (made line (kind.Group [])) clauses ops entries
    (sym (ap (kept_layer line) (kind.outs-Group clauses))) (ap (rule_of line) (kind.outs-Group clauses)) (spots-group line clauses) inner

pub lays_no_when : (at number line : ℕ) (clauses : List Clause) (ops : List Op) (entries : List Clause)
    → Lays (at + 1) (number + 1) ops entries (all_spots clauses)
    → Lays at number (op.Clause number ∷ ops) (kept_select line (Some []) ∷ entries) (spots (made line (kind.Select [] (Some clauses))))
lays_no_when at number line clauses ops entries inner =
    begins at number (made line (kind.Select [] (Some clauses))) (kept_select line (Some [])) clauses ops entries
    (sym (ap (kept_layer line) (kind.outs-Select [] (Some clauses)))) (ap (rule_of line) (kind.outs-Select [] (Some clauses))) (spots-no_when line clauses) inner

pub lays_loop : (at number line turn end : ℕ) (header : Header) (test : Test) (clauses : List Clause) (ops : List Op) (entries : List Clause)
    → turn ≡ at + 1 → end ≡ at + 2 + length ops + 1 → Lays (at + 2) (number + 1) ops entries (all_spots clauses)
    → Lays at number (op.Header number ∷ (op.Turn number end ∷ (ops ++ op.Jump turn ∷ []))) (made line (kind.Loop header test []) ∷ entries)
    (spots (made line (kind.Loop header test clauses)))
lays_loop at number line turn end header test clauses ops entries t e inner = record {
  inside = λ limit room. let sum = length-append ops (op.Jump turn ∷ []) in (tt, (omega arith, inside_append limit ops (op.Jump turn ∷ []) (inner.inside limit (omega arith)) (omega arith, tt)));
  counts = λ after.
      let a = inner.counts [] in
      ap length (spots-loop line header test clauses after)
      ∙ ap (λ (n : ℕ). suc (suc n)) (length-append (all_spots clauses []) (Doing [] ∷ []) ∙ ap (λ (n : ℕ). n + length (Doing [] ∷ [])) a ∙ sym (length-append ops (op.Jump turn ∷ [])));
  fits = λ v after runs last in_ops in_entries.
      let r = subst (λ xs. Runs v.spot at xs) (spots-loop line header test clauses after) runs in
      let a = inner.counts [] in
      let clause = made line (kind.Loop header test clauses) in
      let jump : ℕ = at + 2 + length ops in
      let whole : at + length (op.Header number ∷ (op.Turn number end ∷ (ops ++ op.Jump turn ∷ []))) ≡ end = omega (arith, length-append ops (op.Jump turn ∷ [])) in
      let out = moved v _ end after whole last in
      let two : at + 1 + 1 ≡ at + 2 = omega arith in
      let body_runs = subst (λ m. Runs v.spot m (all_spots clauses [] ++ Doing [] ∷ [])) two r.1.1 in
      let body_ops = subst (λ m. Held v.op m (ops ++ op.Jump turn ∷ [])) two in_ops.1.1 in
      let same : at + 2 + length (all_spots clauses []) ≡ jump = omega arith in
      let back = runs_at v.spot (at + 2) jump (all_spots clauses []) (Doing [] ∷ []) same body_runs in
      let front = runs_front v.spot (at + 2) (all_spots clauses []) (Doing [] ∷ []) body_runs in
      let rules : rule clause ≡ Loops header test clauses = ap (rule_of line) (kind.outs-Loop header test clauses) in
      let entry : v.entry number ≡ Some (kept_of clause) = in_entries.0 ∙ ap (λ k. Some (kept_layer line k)) (sym (kind.outs-Loop header test clauses)) in
      let at_turn : v.spot turn ≡ Turning clause after = ap v.spot t ∙ r.1.0 in
      let first = first_left v (at + 2) clauses [] front (moved v jump (at + 2 + length (all_spots clauses [])) [] (sym same) (ap clauses_at back.0)) in (
        record {
          stands = record {
            clause = clause;
            after = after;
            here = ap clauses_at r.0;
            entry = entry;
            leads = subst (LeadsTo v clause after (at + 1) (at + 1)) (sym rules) r.1.0;
          };
          step = ap is_label rules;
        },
        (
          record {
            clause = clause;
            after = after;
            here = r.1.0;
            entry = entry;
            again = moved v (at + 2) (at + 1 + 1) (clauses ++ []) (sym two) first ∙ append-nil clauses ∙ sym (ap repeated rules);
            there = out;
          },
          subst (λ m. AllFit v m (ops ++ op.Jump turn ∷ [])) (sym two)
              (fits_append v (at + 2) jump ops (op.Jump turn ∷ []) refl
              (inner.fits v [] front (ap clauses_at back.0) (held_front v.op (at + 2) ops (op.Jump turn ∷ []) body_ops) in_entries.1)
              (record { here = back.0 ∙ ap Doing (sym (ap clauses_at at_turn)); ends = inr (inl (record { clause = clause; after = after; there = at_turn })) }, tt)),
        ),
      );
}

pub whens_none : (exit at number line : ℕ) (others : Option (List Clause)) → LaysWhens exit at number [] [] line [] others
whens_none exit at number line others = record {
  inside = λ limit room out. tt;
  counts = λ rest after. refl;
  fits = λ v rest after end runs last out led room in_ops in_entries. tt;
}

when_spots-snoc : (line : ℕ) (whens : List When) (when : When) (rest : List When) (others : Option (List Clause)) (after : List Clause)
    → when_spots line (whens ++ when ∷ []) rest others after
    ≡ when_spots line whens (when ∷ rest) others after ++ when_spots line (when ∷ []) rest others after
when_spots-snoc line [] when rest others after = refl
when_spots-snoc line (first ∷ whens) when rest others after =
    rw (append_assoc whens (when ∷ []) rest, when_spots-snoc line whens when rest others after)
    (ap (λ (xs : List Spot). Doing (made line (kind.Select (first ∷ (whens ++ when ∷ rest)) others) ∷ after) ∷ xs)
    (sym (append_assoc (spots first.chosen after) (Doing after ∷ when_spots line whens (when ∷ rest) others after) (when_spots line (when ∷ []) rest others after))))

-- one WHEN, behind which these others stand
when_alone : (v : View) (exit at number line next end : ℕ) (when : When) (rest : List When) (others : Option (List Clause)) (ops : List Op) (entries : List Clause) (after : List Clause)
    → next ≡ at + 1 + length ops + 1 → Lays (at + 1) (number + 1) ops entries (spots when.chosen)
    → Runs v.spot at (when_spots line (when ∷ []) rest others after)
    → left v next ≡ whens_left line rest others ++ after → left v exit ≡ after → v.op exit ≡ Some (op.Jump end) → next ≤ end
    → Held v.op at (op.Test number next ∷ (ops ++ op.Jump exit ∷ [])) → Held v.entry number (kept_test line when.test ∷ entries)
    → AllFit v at (op.Test number next ∷ (ops ++ op.Jump exit ∷ []))
when_alone v exit at number line next end when rest others ops entries after e inner runs last out led room in_ops in_entries =
    let a = inner.counts after in
    let jump : ℕ = at + 1 + length ops in
    let same : at + 1 + length (spots when.chosen after) ≡ jump = omega arith in
    let front = runs_front v.spot (at + 1) (spots when.chosen after) (Doing after ∷ []) runs.1 in
    let back = runs_at v.spot (at + 1) jump (spots when.chosen after) (Doing after ∷ []) same runs.1 in
    let forth : jump < end = omega arith in (
      record {
        stands = record {
          clause = made line (kind.Select (when ∷ rest) others);
          after = after;
          here = ap clauses_at runs.0;
          entry = in_entries.0 ∙ ap (λ k. Some (kept_layer line k)) (sym (kind.outs-Select (when ∷ rest) others));
          leads = subst (LeadsTo v (made line (kind.Select (when ∷ rest) others)) after (at + 1) next) (sym (ap (rule_of line) (kind.outs-Select (when ∷ rest) others)))
              (ap clauses_at (first_spot v (at + 1) when.chosen after front), last);
        };
        step = ap is_label (ap (rule_of line) (kind.outs-Select (when ∷ rest) others));
      },
      fits_append v (at + 1) jump ops (op.Jump exit ∷ []) refl
          (inner.fits v after front (ap clauses_at back.0) (held_front v.op (at + 1) ops (op.Jump exit ∷ []) in_ops.1) in_entries.1)
          (record { here = back.0 ∙ ap Doing (sym out); ends = inr (inr (record { next = end; there = led; onward = forth })) }, tt),
    )

pub whens_more : (exit at number line to this next : ℕ) (ops more : List Op) (entries others_entries : List Clause) (whens : List When) (when : When) (others : Option (List Clause))
    → at + length ops ≡ to → number + length entries ≡ this → next ≡ to + 1 + length more + 1
    → LaysWhens exit at number ops entries line whens others → Lays (to + 1) (this + 1) more others_entries (spots when.chosen)
    → LaysWhens exit at number (ops ++ (op.Test this next ∷ (more ++ op.Jump exit ∷ []))) (entries ++ (kept_test line when.test ∷ others_entries)) line (whens ++ when ∷ []) others
whens_more exit at number line to this next ops more entries others_entries whens when others e n f first second = record {
  inside = λ limit room out. let sum = length-append ops (op.Test this next ∷ (more ++ op.Jump exit ∷ [])) in let last = length-append more (op.Jump exit ∷ []) in inside_append limit ops (op.Test this next ∷ (more ++ op.Jump exit ∷ [])) (first.inside limit (omega arith) out) (omega arith, inside_append limit more (op.Jump exit ∷ []) (second.inside limit (omega arith)) (out, tt));
  counts = λ rest after.
      let a = first.counts (when ∷ rest) after in
      let b = second.counts after in
      let one : length (when_spots line (when ∷ []) rest others after) ≡ length (op.Test this next ∷ (more ++ op.Jump exit ∷ [])) =
      omega (arith, length-append (spots when.chosen after) (Doing after ∷ []), length-append more (op.Jump exit ∷ [])) in
      ap length (when_spots-snoc line whens when rest others after)
      ∙ (length-append (when_spots line whens (when ∷ rest) others after) (when_spots line (when ∷ []) rest others after)
      ∙ ((let sum : length (when_spots line whens (when ∷ rest) others after) + length (when_spots line (when ∷ []) rest others after) ≡ length ops + length (op.Test this next ∷ (more ++ op.Jump exit ∷ [])) = omega arith in sum)
      ∙ sym (length-append ops (op.Test this next ∷ (more ++ op.Jump exit ∷ [])))));
  fits = λ v rest after end runs last out led room in_ops in_entries.
      let r = subst (λ xs. Runs v.spot at xs) (when_spots-snoc line whens when rest others after) runs in
      let a = first.counts (when ∷ rest) after in
      let there : at + length (ops ++ (op.Test this next ∷ (more ++ op.Jump exit ∷ []))) ≡ next =
      omega (arith, length-append ops (op.Test this next ∷ (more ++ op.Jump exit ∷ [])), length-append more (op.Jump exit ∷ [])) in
      let same : at + length (when_spots line whens (when ∷ rest) others after) ≡ to = omega arith in
      let back = runs_at v.spot at to (when_spots line whens (when ∷ rest) others after) (when_spots line (when ∷ []) rest others after) same r in
      let near : at + length ops ≤ end = omega arith in
      let far : next ≤ end = omega arith in
      fits_append v at to ops (op.Test this next ∷ (more ++ op.Jump exit ∷ [])) e
      (first.fits v (when ∷ rest) after end (runs_front v.spot at (when_spots line whens (when ∷ rest) others after) (when_spots line (when ∷ []) rest others after) r)
      (ap (λ (m : ℕ). left v m) e ∙ ap clauses_at back.0) out led near
      (held_front v.op at ops (op.Test this next ∷ (more ++ op.Jump exit ∷ [])) in_ops)
      (held_front v.entry number entries (kept_test line when.test ∷ others_entries) in_entries))
      (when_alone v exit to this line next end when rest others more others_entries after f second back
      (moved v _ next (whens_left line rest others ++ after) there last) out led far
      (held_at v.op at to ops (op.Test this next ∷ (more ++ op.Jump exit ∷ [])) e in_ops)
      (held_at v.entry number this entries (kept_test line when.test ∷ others_entries) n in_entries));
}

-- what is left where the WHENs begin
whens_first : (v : View) (at line : ℕ) (whens : List When) (others : Option (List Clause)) (after : List Clause)
    → Runs v.spot at (when_spots line whens [] others after)
    → left v (at + length (when_spots line whens [] others after)) ≡ whens_left line [] others ++ after
    → left v at ≡ whens_left line whens others ++ after
whens_first v at line [] others after runs last = ap (λ (n : ℕ). left v n) (sym (add-zero at)) ∙ last
whens_first v at line (when ∷ whens) others after runs last =
    ap clauses_at runs.0 ∙ ap (λ (ws : List When). made line (kind.Select (when ∷ ws) others) ∷ after) (append-nil whens)

left_whole : (line : ℕ) (whens : List When) → whens_left line whens None ≡ made line (kind.Select whens None) ∷ []
left_whole line [] = refl
left_whole line (when ∷ whens) = refl

-- A SELECT: a jump over the exit, the exit, the WHENs, and what is laid behind them.
select_fits : (v : View) (at number line exit first_at end : ℕ) (clause : Clause) (whens : List When) (others : Option (List Clause))
    (ops tail : List Op) (entries : List Clause) (after : List Clause) (inside : List Spot)
    → exit ≡ at + 1 → first_at ≡ at + 2 → first_at + length ops ≤ end → whens_left line whens others ≡ clause ∷ []
    → LaysWhens exit first_at number ops entries line whens others
    → v.spot at ≡ Doing (clause ∷ after) → v.spot (at + 1) ≡ Doing after
    → Runs v.spot first_at (when_spots line whens [] others after ++ inside)
    → left v (first_at + length ops) ≡ whens_left line [] others ++ after → left v end ≡ after
    → v.op (at + 1) ≡ Some (op.Jump end) → Held v.op first_at (ops ++ tail) → Held v.entry number entries → AllFit v (first_at + length ops) tail
    → AllFit v at (op.Jump first_at ∷ (op.Jump end ∷ (ops ++ tail)))
select_fits v at number line exit first_at end clause whens others ops tail entries after inside x f room is laid here there runs last out led in_ops in_entries rest =
    let a = laid.counts [] after in
    let front = runs_front v.spot first_at (when_spots line whens [] others after) inside runs in
    let same : first_at + length ops ≡ first_at + length (when_spots line whens [] others after) = omega arith in
    let first = whens_first v first_at line whens others after front (moved v _ _ (whens_left line [] others ++ after) same last) in
    let at_exit : left v exit ≡ after = moved v (at + 1) exit after (sym x) (ap clauses_at there) in
    let led_exit : v.op exit ≡ Some (op.Jump end) = ap v.op x ∙ led in
    let two : at + 1 + 1 ≡ first_at = omega arith in
    let on : at < first_at = omega arith in
    let far : at + 1 < end = omega arith in (
      record { here = here ∙ ap Doing (sym (first ∙ ap (λ (xs : List Clause). xs ++ after) is)); ends = inl on },
      (
        record { here = there ∙ ap Doing (sym out); ends = inl far },
        subst (λ m. AllFit v m (ops ++ tail)) (sym two)
            (fits_append v first_at (first_at + length ops) ops tail refl
            (laid.fits v [] after end front last at_exit led_exit room (held_front v.op first_at ops tail in_ops) in_entries) rest),
      ),
    )

pub lays_select : (at number line exit first_at end : ℕ) (whens : List When) (ops : List Op) (entries : List Clause)
    → exit ≡ at + 1 → first_at ≡ at + 2 → end ≡ first_at + length ops + 1
    → LaysWhens exit first_at (number + 1) ops entries line whens None
    → Lays at number (op.Jump first_at ∷ (op.Jump end ∷ (ops ++ op.NoWhen number ∷ []))) (kept_select line None ∷ entries) (spots (made line (kind.Select whens None)))
lays_select at number line exit first_at end whens ops entries x f e laid = record {
  inside = λ limit room. let sum = length-append ops (op.NoWhen number ∷ []) in (omega arith, (omega arith, inside_append limit ops (op.NoWhen number ∷ []) (laid.inside limit (omega arith) (omega arith)) (tt, tt)));
  counts = λ after.
      let a = laid.counts [] after in
      ap length (spots-select line whens after)
      ∙ ap (λ (n : ℕ). suc (suc n)) (length-append (when_spots line whens [] None after) (tail_spots line None after) ∙ ap (λ (n : ℕ). n + 1) a ∙ sym (length-append ops (op.NoWhen number ∷ [])));
  fits = λ v after runs last in_ops in_entries.
      let r = subst (λ xs. Runs v.spot at xs) (spots-select line whens after) runs in
      let a = laid.counts [] after in
      let whole : at + length (op.Jump first_at ∷ (op.Jump end ∷ (ops ++ op.NoWhen number ∷ []))) ≡ end = omega (arith, length-append ops (op.NoWhen number ∷ [])) in
      let out = moved v _ end after whole last in
      let two : at + 1 + 1 ≡ first_at = omega arith in
      let inside = tail_spots line None after in
      let body_runs = subst (λ m. Runs v.spot m (when_spots line whens [] None after ++ inside)) two r.1.1 in
      let body_ops = subst (λ m. Held v.op m (ops ++ op.NoWhen number ∷ [])) two in_ops.1.1 in
      let same : first_at + length (when_spots line whens [] None after) ≡ first_at + length ops = omega arith in
      let back = runs_at v.spot first_at (first_at + length ops) (when_spots line whens [] None after) inside same body_runs in
      let room : first_at + length ops ≤ end = omega arith in
      select_fits v at (number + 1) line exit first_at end (made line (kind.Select whens None)) whens None ops (op.NoWhen number ∷ []) entries after inside
      x f room (left_whole line whens) laid r.0 r.1.0 body_runs (ap clauses_at back.0) out in_ops.1.0 body_ops in_entries.1 (
        record {
          stands = record {
            clause = made line (kind.Select [] None);
            after = after;
            here = ap clauses_at back.0;
            entry = in_entries.0 ∙ ap (λ k. Some (kept_layer line k)) (sym (kind.outs-Select [] None));
            leads = subst (LeadsTo v (made line (kind.Select [] None)) after (first_at + length ops + 1) (first_at + length ops + 1))
                (sym (ap (rule_of line) (kind.outs-Select [] None))) tt;
          };
          step = ap is_label (ap (rule_of line) (kind.outs-Select [] None));
        },
        tt,
      );
}

pub lays_select_otherwise : (at number line exit first_at end tail_at tail_number : ℕ) (when : When) (whens : List When) (others : List Clause) (ops tail : List Op) (entries tail_entries : List Clause)
    → exit ≡ at + 1 → first_at ≡ at + 2 → tail_at ≡ first_at + length ops → end ≡ tail_at + length tail → tail_number ≡ number + 1 + length entries
    → LaysWhens exit first_at (number + 1) ops entries line (when ∷ whens) (Some others) → Lays tail_at tail_number tail tail_entries (all_spots others)
    → Lays at number (op.Jump first_at ∷ (op.Jump end ∷ (ops ++ tail))) (kept_select line (Some []) ∷ (entries ++ tail_entries)) (spots (made line (kind.Select (when ∷ whens) (Some others))))
lays_select_otherwise at number line exit first_at end tail_at tail_number when whens others ops tail entries tail_entries x f t e n laid behind = record {
  inside = λ limit room. let sum = length-append ops tail in (omega arith, (omega arith, inside_append limit ops tail (laid.inside limit (omega arith) (omega arith)) (behind.inside limit (omega arith))));
  counts = λ after.
      let a = laid.counts [] after in
      let b = behind.counts after in
      ap length (spots-select_otherwise line when whens others after)
      ∙ ap (λ (m : ℕ). suc (suc m)) (length-append (when_spots line (when ∷ whens) [] (Some others) after) (all_spots others after)
      ∙ ((let sum : length (when_spots line (when ∷ whens) [] (Some others) after) + length (all_spots others after) ≡ length ops + length tail = omega arith in sum) ∙ sym (length-append ops tail)));
  fits = λ v after runs last in_ops in_entries.
      let r = subst (λ xs. Runs v.spot at xs) (spots-select_otherwise line when whens others after) runs in
      let a = laid.counts [] after in
      let b = behind.counts after in
      let whole : at + length (op.Jump first_at ∷ (op.Jump end ∷ (ops ++ tail))) ≡ end = omega (arith, length-append ops tail) in
      let out = moved v _ end after whole last in
      let two : at + 1 + 1 ≡ first_at = omega arith in
      let inside = all_spots others after in
      let body_runs = subst (λ m. Runs v.spot m (when_spots line (when ∷ whens) [] (Some others) after ++ inside)) two r.1.1 in
      let body_ops = subst (λ m. Held v.op m (ops ++ tail)) two in_ops.1.1 in
      let same : first_at + length (when_spots line (when ∷ whens) [] (Some others) after) ≡ tail_at = omega arith in
      let back = runs_at v.spot first_at tail_at (when_spots line (when ∷ whens) [] (Some others) after) inside same body_runs in
      let last_at : end ≡ tail_at + length inside = omega arith in
      let first = first_left v tail_at others after back (moved v end (tail_at + length inside) after last_at out) in
      let room : first_at + length ops ≤ end = omega arith in
      let more = behind.fits v after back (moved v end (tail_at + length tail) after e out) (held_at v.op first_at tail_at ops tail (sym t) body_ops)
      (held_at v.entry (number + 1) tail_number entries tail_entries (sym n) in_entries.1) in
      select_fits v at (number + 1) line exit first_at end (made line (kind.Select (when ∷ whens) (Some others))) (when ∷ whens) (Some others) ops tail entries after inside
      x f room refl laid r.0 r.1.0 body_runs (moved v tail_at (first_at + length ops) (others ++ after) t first) out in_ops.1.0 body_ops
      (held_front v.entry (number + 1) entries tail_entries in_entries.1)
      (subst (λ m. AllFit v m tail) t more);
}
