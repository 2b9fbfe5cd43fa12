-- What stands under the names of variables: under simple ones, and under stems with their compounds.
use Rattle.std.specs.Prelude.{ℕ, List, [], Option, None, Some}
use Rattle.rx_tree.specs.declared.name.Derived.{Derived}
use Rattle.rx_tree.specs.declared.name.Derived.TheVariants.{Simple, Stem, Compound}
use Rattle.rx_vars.specs.declared.names.StemRow.{StemRow}
use Rattle.rx_vars.specs.Tables.{look_up, with_change, with_entry, with_new}

pub record Names (A : Type 0) : Type 0 where
  pub simple : List (List ℕ × A)
  pub stems : List (List ℕ × StemRow A)

abbrev pub no_names : {A : Type 0} → Names A
no_names = record { simple = []; stems = [] }

-- a stem of which nothing is known
abbrev pub no_stem : {A : Type 0} → StemRow A
no_stem = record { own = None; tails = [] }

abbrev pub stem_or_none : {A : Type 0} → Option (StemRow A) → StemRow A
stem_or_none None = no_stem
stem_or_none (Some stem) = stem

abbrev pub stem_in : {A : Type 0} → Names A → List ℕ → StemRow A
stem_in names stem = stem_or_none (look_up names.stems stem)

abbrev pub with_stem : {A : Type 0} → Names A → List ℕ → StemRow A → Names A
with_stem names stem row = record names { stems = with_entry names.stems stem row }

abbrev pub first_of : {A : Type 0} → Option A → Option A → Option A
first_of None second = second
first_of (Some first) second = Some first

-- what a stem gives one of its compounds: what stands under the compound itself, or else under the stem
abbrev pub found_at : {A : Type 0} → StemRow A → List ℕ → Option A
found_at stem tail = first_of (look_up stem.tails tail) stem.own

-- what stands under a name; for a compound, under itself or else under its stem
abbrev pub found : {A : Type 0} → Names A → Derived → Option A
found names (Simple name) = look_up names.simple name
found names (Stem stem) = (stem_in names stem).own
found names (Compound stem tail) = found_at (stem_in names stem) tail

-- the stem once this stands under one of its compounds itself, or nothing
abbrev pub with_tail : {A : Type 0} → StemRow A → List ℕ → Option A → StemRow A
with_tail row tail value = record row { tails = with_change row.tails tail value }

-- The names once this stands under one, or nothing. All compounds of a stem have what the stem has then.
abbrev pub changed : {A : Type 0} → Names A → Derived → Option A → Names A
changed names (Simple name) value = record names { simple = with_change names.simple name value }
changed names (Stem stem) value = with_stem names stem (record { own = value; tails = [] })
changed names (Compound stem tail) value = with_stem names stem (with_tail (stem_in names stem) tail value)

abbrev pub with_own : {A : Type 0} → StemRow A → A → StemRow A
with_own row value = record row { own = first_of row.own (Some value) }

abbrev pub with_new_tail : {A : Type 0} → StemRow A → List ℕ → A → StemRow A
with_new_tail row tail value = record row { tails = with_new row.tails tail value }

-- The names once something stands under one itself. What stands there already stays, and so do a stem's compounds.
abbrev pub with_name : {A : Type 0} → Names A → Derived → A → Names A
with_name names (Simple name) value = record names { simple = with_new names.simple name value }
with_name names (Stem stem) value = with_stem names stem (with_own (stem_in names stem) value)
with_name names (Compound stem tail) value = with_stem names stem (with_new_tail (stem_in names stem) tail value)
