-- A write to a stem's row.
use Rattle.std.proofs.Common.{◌≡◌, ℕ, Bool, Vec, List, Some, None, Result, Ok, Err, OnErr, OnOk, sym, ap, ◌∙◌}
use Rattle.std.specs.declared.alloc.Global.{Global}
use Rattle.std.specs.Str.{bytes_eq}
use Rattle.std.specs.Map.{lookup, set_value}
use Rattle.rx_vars.specs.declared.names.StemRow.{StemRow}
use Rattle.rx_vars.specs.Tables.{table_of}
use Rattle.rx_vars.specs.Names.{Names, stem_in, stem_or_none, no_stem, with_stem}
use Rattle.rx_vars.proofs.TableLemmas.{look_up-entries, set_value-entries, with_entry-same}

abbrev pub names_of : {A : Type 0} → List (List ℕ × A) → List (Vec ℕ Global × StemRow A) → Names A
names_of simple entries = record { simple = simple; stems = table_of entries }

abbrev pub is_stem : List ℕ → Vec ℕ Global → Bool
is_stem stem key = bytes_eq stem key.items

-- a stem that is found
pub stem_in-found : {A : Type 0} (simple : List (List ℕ × A)) (entries : List (Vec ℕ Global × StemRow A)) (names : Names A) (stem : List ℕ) (row : StemRow A)
    → names_of simple entries ≡ names → Some row ≡ lookup (is_stem stem) entries → row ≡ stem_in names stem
stem_in-found simple entries names stem row is found =
    ap stem_or_none (found ∙ look_up-entries entries stem) ∙ ap (λ ns. stem_in ns stem) is

-- and one that isn't
pub stem_in-absent : {A : Type 0} (simple : List (List ℕ × A)) (entries : List (Vec ℕ Global × StemRow A)) (names : Names A) (stem : List ℕ)
    → names_of simple entries ≡ names → None ≡ lookup (is_stem stem) entries → no_stem ≡ stem_in names stem
stem_in-absent simple entries names stem is found =
    ap stem_or_none (found ∙ look_up-entries entries stem) ∙ ap (λ ns. stem_in ns stem) is

-- once its row is this
pub with_stem-written : {A : Type 0} (simple : List (List ℕ × A)) (entries new : List (Vec ℕ Global × StemRow A)) (names : Names A) (stem : List ℕ) (row old : StemRow A)
    → names_of simple entries ≡ names → Some old ≡ lookup (is_stem stem) entries → new ≡ set_value (is_stem stem) entries row
    → names_of simple new ≡ with_stem names stem row
with_stem-written simple entries new names stem row old is found written =
    ap (λ stems. record { simple = simple; stems = stems }) (ap table_of written ∙ set_value-entries entries stem row old (sym found))
    ∙ ap (λ ns. with_stem ns stem row) is

-- once its row is what it was
pub with_stem-same : {A : Type 0} (simple : List (List ℕ × A)) (entries : List (Vec ℕ Global × StemRow A)) (names : Names A) (stem : List ℕ) (row : StemRow A)
    → names_of simple entries ≡ names → Some row ≡ lookup (is_stem stem) entries → with_stem names stem row ≡ names
with_stem-same simple entries names stem row is found =
    ap (λ ns. with_stem ns stem row) (sym is)
    ∙ ap (λ stems. record { simple = simple; stems = stems }) (with_entry-same (table_of entries) stem row (sym (found ∙ look_up-entries entries stem)))
    ∙ is

pub OnErr-map : {T E : Type 0} (r : Result T E) (P Q : Type 0) → (P → Q) → OnErr r P → OnErr r Q
OnErr-map (Ok x) P Q f h = tt
OnErr-map (Err e) P Q f h = f h

-- the row of a stem that was absent, where both sides are known otherwise
pub stem_inserted : {T E A : Type 0} (result : Result T E) (new self names : Names A) (stem : List ℕ) (row other : StemRow A)
    → self ≡ names → row ≡ other → OnOk result (new ≡ with_stem self stem row) → OnOk result (new ≡ with_stem names stem other)
stem_inserted (Ok x) new self names stem row other is same added = added ∙ ap (λ ns. with_stem ns stem row) is ∙ ap (λ r. with_stem names stem r) same
stem_inserted (Err e) new self names stem row other is same added = tt

-- a stem that is found, whose row a call changes
pub found_changed : {T E A : Type 0} (result : Result T E) (simple : List (List ℕ × A)) (entries written : List (Vec ℕ Global × StemRow A)) (names : Names A) (stem : List ℕ) (row new : StemRow A)
    → (change : StemRow A → StemRow A) → names_of simple entries ≡ names → Some row ≡ lookup (is_stem stem) entries → written ≡ set_value (is_stem stem) entries new
    → OnOk result (new ≡ change row) → OnOk result (names_of simple written ≡ with_stem names stem (change (stem_in names stem)))
found_changed (Ok x) simple entries written names stem row new change is found set changed =
    with_stem-written simple entries written names stem new row is found set
    ∙ ap (λ r. with_stem names stem r) (changed ∙ ap change (stem_in-found simple entries names stem row is found))
found_changed (Err e) simple entries written names stem row new change is found set changed = tt

-- and one that it leaves as it was
pub found_same : {T E A : Type 0} (result : Result T E) (simple : List (List ℕ × A)) (entries written : List (Vec ℕ Global × StemRow A)) (names : Names A) (stem : List ℕ) (row new : StemRow A)
    → names_of simple entries ≡ names → Some row ≡ lookup (is_stem stem) entries → written ≡ set_value (is_stem stem) entries new
    → OnErr result (new ≡ row) → OnErr result (names_of simple written ≡ names)
found_same (Ok x) simple entries written names stem row new is found set same = tt
found_same (Err e) simple entries written names stem row new is found set same =
    with_stem-written simple entries written names stem new row is found set
    ∙ ap (λ r. with_stem names stem r) same ∙ with_stem-same simple entries names stem row is found

-- a stem that isn't found, whose new row a call changes
pub absent_changed : {T E A : Type 0} (result : Result T E) (new : Names A) (simple : List (List ℕ × A)) (entries kept : List (Vec ℕ Global × StemRow A)) (names : Names A) (stem : List ℕ) (row fresh : StemRow A)
    → (change : StemRow A → StemRow A) → names_of simple entries ≡ names → None ≡ lookup (is_stem stem) entries → kept ≡ entries → fresh ≡ no_stem → row ≡ change fresh
    → OnOk result (new ≡ with_stem (names_of simple kept) stem row) → OnOk result (new ≡ with_stem names stem (change (stem_in names stem)))
absent_changed result new simple entries kept names stem row fresh change is absent same empty changed added =
    stem_inserted result new (names_of simple kept) names stem row (change (stem_in names stem)) (ap (names_of simple) same ∙ is)
    (changed ∙ ap change (empty ∙ stem_in-absent simple entries names stem is absent)) added
