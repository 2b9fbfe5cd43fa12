-- The code of a whole body.
use Rattle.std.proofs.Common.{◌≡◌, ℕ, zero, suc, ◌+◌, ◌≤◌, List, [], ◌∷◌, ◌++◌, length, slice_get, get_or, Some, refl, ap, sym, ◌∙◌, subst, arith, append_assoc, length-append}
use Rattle.std.proofs.Math.Seq.{get_or-append_seam}
use Rattle.std.proofs.lemmas.List.{append-nil, get_or_past}
use Rattle.rx_clause_tree.specs.declared.clause.Clause.{Clause}
use Rattle.rx_flow.specs.declared.code.Op.{Op}
use Rattle.rx_flow.specs.declared.code.Code.{Code}
use Rattle.rx_flow.specs.Spots.{Doing, clauses_at, all_spots, spot_at}
use Rattle.rx_flow.specs.Stands.{View, view, Fits, AllFit, Stands}
use Rattle.rx_flow.specs.Kept.{all_kept}
use Rattle.rx_flow.specs.Laid.{Runs, Held, Lays, plans, Laid}
use Rattle.rx_flow.proofs.LayLemmas.{first_left}

pub runs_behind : {A : Type 0} (d : A) (xs ys : List A) → Runs (λ n. get_or (xs ++ ys) n d) (length xs) ys
runs_behind d xs [] = tt
runs_behind d xs (y ∷ ys) =
    let more : length (xs ++ y ∷ []) ≡ length xs + 1 = length-append xs (y ∷ []) in (
      get_or-append_seam xs y ys d,
      subst (λ m. Runs (λ n. get_or (xs ++ y ∷ ys) n d) m ys) more
          (subst (λ zs. Runs (λ n. get_or zs n d) (length (xs ++ y ∷ [])) ys) (append_assoc xs (y ∷ []) ys) (runs_behind d (xs ++ y ∷ []) ys)),
    )

slice_get_seam : {A : Type 0} (xs : List A) (y : A) (ys : List A) → slice_get (xs ++ y ∷ ys) (length xs) ≡ Some y
slice_get_seam [] y ys = refl
slice_get_seam (x ∷ xs) y ys = slice_get_seam xs y ys

held_behind : {A : Type 0} (xs ys : List A) → Held (λ n. slice_get (xs ++ ys) n) (length xs) ys
held_behind xs [] = tt
held_behind xs (y ∷ ys) =
    let more : length (xs ++ y ∷ []) ≡ length xs + 1 = length-append xs (y ∷ []) in (
      slice_get_seam xs y ys,
      subst (λ m. Held (λ n. slice_get (xs ++ y ∷ ys) n) m ys) more
          (subst (λ zs. Held (λ n. slice_get zs n) (length (xs ++ y ∷ [])) ys) (append_assoc xs (y ∷ []) ys) (held_behind (xs ++ y ∷ []) ys)),
    )

pub stands_of : (code : Code) (body : List Clause) → Lays 0 0 code.ops code.clauses (all_spots body) → code.clauses ≡ all_kept body → Stands code body
stands_of code body lays kept =
    let v = view code body in
    let runs : Runs v.spot 0 (all_spots body []) = runs_behind (Doing []) [] (all_spots body []) in
    let past : (place : ℕ) → length code.ops ≤ place → spot_at body place ≡ Doing [] =
    λ place far. get_or_past (all_spots body []) place (Doing []) (omega (arith, lays.counts [], far)) in
    record {
      fits = lays.fits v [] runs (ap clauses_at (past (0 + length code.ops) (omega arith))) (held_behind [] code.ops) (held_behind [] code.clauses);
      inside = lays.inside (length code.ops) (omega arith);
      first = first_left v 0 body [] runs (ap clauses_at (past (0 + length (all_spots body [])) (omega (arith, lays.counts [])))) ∙ append-nil body;
      last = past;
      kept = kept;
    }

pub stands_laid : (ops : List Op) (clauses : List Clause) (code : Code) (body : List Clause) → ops ≡ [] → clauses ≡ []
    → Laid (record { ops = ops; clauses = clauses }) code (plans body) → Stands code body
stands_laid ops clauses code body o k laid =
    let same_ops : code.ops ≡ laid.ops = laid.all_ops ∙ ap (λ (xs : List Op). xs ++ laid.ops) o in
    let same_clauses : code.clauses ≡ laid.entries = laid.all_entries ∙ ap (λ (xs : List Clause). xs ++ laid.entries) k in
    stands_of code body
    (subst (λ xs. Lays 0 0 xs code.clauses (all_spots body)) (sym same_ops)
    (subst (λ xs. Lays 0 0 laid.ops xs (all_spots body)) (sym same_clauses)
    (subst (λ n. Lays 0 n laid.ops laid.entries (all_spots body)) (ap length k)
    (subst (λ n. Lays n (length clauses) laid.ops laid.entries (all_spots body)) (ap length o) laid.lays)))) (same_clauses ∙ laid.kept_are)

fits_in : (v : View) (at i : ℕ) (ops : List Op) (o : Op) → slice_get ops i ≡ Some o → AllFit v at ops → Fits v (at + i) o
fits_in v at i [] o e h = cc
fits_in v at zero (x ∷ ops) o e h =
    let same : x ≡ o = cc in
    let here : at ≡ at + 0 = omega arith in
    subst (λ n. Fits v n o) here (subst (λ z. Fits v at z) same h.0)
fits_in v at (suc i) (x ∷ ops) o e h =
    let there : at + 1 + i ≡ at + suc i = omega arith in
    subst (λ n. Fits v n o) there (fits_in v (at + 1) i ops o e h.1)

-- What stands at a place of a body's code.
pub fits_at : (code : Code) (body : List Clause) (place : ℕ) (o : Op) → Stands code body → slice_get code.ops place ≡ Some o → Fits (view code body) place o
fits_at code body place o stands e =
    let same : 0 + place ≡ place = omega arith in
    subst (λ n. Fits (view code body) n o) same (fits_in (view code body) 0 place code.ops o e stands.fits)
