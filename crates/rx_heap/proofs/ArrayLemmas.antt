-- An Array's places, by the items that are kept for them.
use Rattle.std.proofs.Common.{◌≡◌, ◌<◌, ◌≤◌, ℕ, zero, suc, ◌+◌, ◌-◌, Bool, true, false, cond, nat_eq, max, Option, Some, None, List, ◌⊎◌, ◌≢◌, length, set, get_or, replicate, is_some, inl, inr, refl, sym, ap, ◌∙◌, arith, ne_eqb}
use Rattle.std.proofs.lemmas.Bool.{cases_lt}
use Rattle.std.proofs.lemmas.Bool.Decides.{eqb_tells}
use Rattle.std.proofs.lemmas.List.{get_or_append_left, get_or-append_right, get_or_past, get_or-replicate, get_or-set_other, get_or-set_same, length-append, length-replicate, length-set, same_lists, set_past}
use Rattle.std.proofs.lemmas.List.FromFn.{get_or-map-range_with_len, length-map-range_with_len}
use Rattle.std.proofs.lemmas.List.Sums.{count_by-le-length, sum_by-append, sum_by-set}
use Rattle.rx_tree.specs.declared.value.Value.{Value}
use Rattle.rx_heap.specs.Arrays.{item_count, item_in, with_item, with_size, without_item}
use Rattle.rx_heap.specs.Places.{AreWithin, IsCounted, item_of, places_of}

pub places-length : (items : List (ℕ × Value)) (size : ℕ) → length (places_of items size) ≡ size
places-length items size = length-map-range_with_len (item_of items) 0 size

places-get : (items : List (ℕ × Value)) (size place : ℕ) (d : Option Value) → place < size → get_or (places_of items size) place d ≡ item_of items place
places-get items size place d within = get_or-map-range_with_len (item_of items) 0 size place place d within (omega arith)

-- the item in a place, where none is kept behind the places
pub item_in-places : (items : List (ℕ × Value)) (size place : ℕ) → AreWithin items size → item_in (places_of items size) place ≡ item_of items place
item_in-places items size place within = by (cases_lt place size)
  where
    by : (place < size) ⊎ (size ≤ place) → item_in (places_of items size) place ≡ item_of items place
    by (inl inside) = places-get items size place None inside
    by (inr behind) = get_or_past (places_of items size) place None (omega (arith, places-length items size)) ∙ sym (within place behind)

-- There are no more items than places.
pub kept-few : (items : List (ℕ × Value)) (size : ℕ) → IsCounted items size → length items ≤ size
kept-few items size counted =
    let are : length items ≡ item_count (places_of items size) = counted in
    omega (arith, are, count_by-le-length is_some (places_of items size), places-length items size)

-- ---- more places

abbrev empty_places : ℕ → List (Option Value)
empty_places count = replicate count None

empty-length : (count : ℕ) → length (empty_places count) ≡ count
empty-length count = length-replicate count None

empty-get : (count place : ℕ) (d : Option Value) → place < count → get_or (empty_places count) place d ≡ None
empty-get count place d within = get_or-replicate count place None d within

empty-count : (count : ℕ) → item_count (empty_places count) ≡ 0
empty-count zero = refl
empty-count (suc count) = empty-count count

resized-length : (places : List (Option Value)) (more : ℕ) → length (with_size places more) ≡ max (length places) more
resized-length places more = omega (arith, length-append places (empty_places (more - length places)), empty-length (more - length places))

pub places-resized : (items : List (ℕ × Value)) (size more : ℕ) → AreWithin items size → places_of items (max size more) ≡ with_size (places_of items size) more
places-resized items size more within =
    same_lists (places_of items (max size more)) (with_size (places_of items size) more)
    (omega (arith, places-length items size, places-length items (max size more), resized-length (places_of items size) more))
    each
  where
    by : (k : ℕ) (d : Option Value) → k < max size more → (k < size) ⊎ (size ≤ k) → get_or (places_of items (max size more)) k d ≡ get_or (with_size (places_of items size) more) k d
    by k d short (inl first) =
        places-get items (max size more) k d short
        ∙ sym (places-get items size k d first)
        ∙ sym (get_or_append_left (places_of items size) (empty_places (more - length (places_of items size))) d k (omega (arith, places-length items size)))
    by k d short (inr behind) =
        places-get items (max size more) k d short
        ∙ within k behind
        ∙ sym (empty-get (more - length (places_of items size)) (k - size) d (omega (arith, places-length items size)))
        ∙ sym (get_or-append_right (places_of items size) (empty_places (more - length (places_of items size))) size k d (places-length items size) behind)

    each : (k : ℕ) (d : Option Value) → k < length (places_of items (max size more)) → get_or (places_of items (max size more)) k d ≡ get_or (with_size (places_of items size) more) k d
    each k d inside = by k d (omega (arith, places-length items (max size more))) (cases_lt k size)

item_count-resized : (places : List (Option Value)) (more : ℕ) → item_count (with_size places more) ≡ item_count places
item_count-resized places more =
    let both : item_count (with_size places more) ≡ item_count places + item_count (empty_places (more - length places)) = sum_by-append (λ (x : Option Value). cond (is_some x) 1 0) places (empty_places (more - length places)) in
    omega (arith, both, empty-count (more - length places))

pub within-resized : (items : List (ℕ × Value)) (size more : ℕ) → AreWithin items size → AreWithin items (max size more)
within-resized items size more within place behind = within place (omega arith)

pub counted-resized : (items : List (ℕ × Value)) (size more : ℕ) → AreWithin items size → IsCounted items size → IsCounted items (max size more)
counted-resized items size more within counted =
    counted ∙ sym (item_count-resized (places_of items size) more) ∙ ap item_count (sym (places-resized items size more within))

-- ---- one place changed

-- The items that are kept differ in this place alone.
abbrev pub Differ : List (ℕ × Value) → List (ℕ × Value) → ℕ → Option Value → Type 0
Differ old new place item = (k : ℕ) → item_of new k ≡ cond (nat_eq place k) item (item_of old k)

pub places-changed : (old new : List (ℕ × Value)) (size place : ℕ) (item : Option Value) → Differ old new place item → places_of new size ≡ set (places_of old size) place item
places-changed old new size place item differ =
    same_lists (places_of new size) (set (places_of old size) place item)
    (places-length new size ∙ sym (places-length old size) ∙ sym (length-set (places_of old size) place item))
    each
  where
    by : (k : ℕ) (d : Option Value) → k < size → ((nat_eq place k ≡ true) × (place ≡ k)) ⊎ ((nat_eq place k ≡ false) × (place ≢ k)) → get_or (places_of new size) k d ≡ get_or (set (places_of old size) place item) k d
    by k d short (inl here) =
        places-get new size k d short
        ∙ differ k
        ∙ ap (λ (b : Bool). cond b item (item_of old k)) here.0
        ∙ sym (get_or-set_same (places_of old size) k item d (omega (arith, places-length old size)))
        ∙ ap (λ (n : ℕ). get_or (set (places_of old size) n item) k d) (sym here.1)
    by k d short (inr other) =
        places-get new size k d short
        ∙ differ k
        ∙ ap (λ (b : Bool). cond b item (item_of old k)) other.0
        ∙ sym (places-get old size k d short)
        ∙ sym (get_or-set_other (places_of old size) place k item d (λ e. other.1 (sym e)))

    each : (k : ℕ) (d : Option Value) → k < length (places_of new size) → get_or (places_of new size) k d ≡ get_or (set (places_of old size) place item) k d
    each k d inside = by k d (omega (arith, places-length new size)) (eqb_tells place k)

item_count-changed : (places : List (Option Value)) (place : ℕ) (item : Option Value) → place < length places
    → item_count (set places place item) + cond (is_some (item_in places place)) 1 0 ≡ item_count places + cond (is_some item) 1 0
item_count-changed places place item within = sum_by-set (λ (x : Option Value). cond (is_some x) 1 0) places place item None within

within-changed : (old new : List (ℕ × Value)) (size place : ℕ) (item : Option Value) → AreWithin old size → place < size → Differ old new place item → AreWithin new size
within-changed old new size place item within inside differ k behind =
    differ k
    ∙ ap (λ (b : Bool). cond b item (item_of old k)) (ne_eqb place k (λ e. omega arith))
    ∙ within k behind

-- ---- an item that is put

pub places-put : (old new : List (ℕ × Value)) (size place : ℕ) (item : Value) → AreWithin old size → Differ old new place (Some item)
    → places_of new (max size (place + 1)) ≡ with_item (places_of old size) place item
places-put old new size place item within differ =
    places-changed old new (max size (place + 1)) place (Some item) differ
    ∙ ap (λ places. set places place (Some item)) (places-resized old size (place + 1) within)

pub within-put : (old new : List (ℕ × Value)) (size place : ℕ) (item : Value) → AreWithin old size → Differ old new place (Some item) → AreWithin new (max size (place + 1))
within-put old new size place item within differ =
    within-changed old new (max size (place + 1)) place (Some item) (within-resized old size (place + 1) within) (omega arith) differ

abbrev one_if : Bool → ℕ
one_if there = cond there 1 0

found_one : (found : Bool) → found ≡ true → one_if found ≡ 1
found_one found is = ap one_if is

found_none : (found : Bool) → found ≡ false → one_if found ≡ 0
found_none found is = ap one_if is

-- how many items there are, by whether one was there
one_more : (there found : Bool) (new old before after changed : ℕ) → new ≡ old + cond there 0 1 → changed + one_if found ≡ before + 1 → found ≡ there → old ≡ before → after ≡ changed → new ≡ after
one_more true found new old before after changed kept changes is was now =
    let k : new ≡ old + 0 = kept in
    omega (arith, k, found_one found is, changes, was, now)
one_more false found new old before after changed kept changes is was now =
    let k : new ≡ old + 1 = kept in
    omega (arith, k, found_none found is, changes, was, now)

pub counted-put : (old new : List (ℕ × Value)) (size place : ℕ) (item : Value) → AreWithin old size → IsCounted old size → Differ old new place (Some item)
    → length new ≡ length old + cond (is_some (item_of old place)) 0 1 → IsCounted new (max size (place + 1))
counted-put old new size place item within counted differ kept =
    let most = max size (place + 1) in
    one_more (is_some (item_of old place)) (is_some (item_in (places_of old most) place)) (length new) (length old) (item_count (places_of old most)) (item_count (places_of new most)) (item_count (set (places_of old most) place (Some item)))
    kept
    (item_count-changed (places_of old most) place (Some item) (omega (arith, places-length old (max size (place + 1)))))
    (ap is_some (item_in-places old most place (within-resized old size (place + 1) within)))
    (counted-resized old size (place + 1) within counted)
    (ap item_count (places-changed old new most place (Some item) differ))

-- ---- an item that is taken away

pub places-removed : (old new : List (ℕ × Value)) (size place : ℕ) → Differ old new place None → places_of new size ≡ without_item (places_of old size) place
places-removed old new size place differ = places-changed old new size place None differ

pub within-removed : (old new : List (ℕ × Value)) (size place : ℕ) → AreWithin old size → Differ old new place None → AreWithin new size
within-removed old new size place within differ k behind = differ k ∙ by (nat_eq place k)
  where
    by : (here : Bool) → cond here None (item_of old k) ≡ None
    by true = refl
    by false = within k behind

pub counted-removed : (old new : List (ℕ × Value)) (size place : ℕ) → AreWithin old size → IsCounted old size → Differ old new place None
    → length new + cond (is_some (item_of old place)) 1 0 ≡ length old → IsCounted new size
counted-removed old new size place within counted differ kept = by (cases_lt place size)
  where
    now : item_count (places_of new size) ≡ item_count (set (places_of old size) place None)
    now = ap item_count (places-removed old new size place differ)

    was : length old ≡ item_count (places_of old size)
    was = counted

    by : (place < size) ⊎ (size ≤ place) → length new ≡ item_count (places_of new size)
    by (inl inside) =
        let found : one_if (is_some (item_in (places_of old size) place)) ≡ one_if (is_some (item_of old place)) = ap (λ (o : Option Value). one_if (is_some o)) (item_in-places old size place within) in
        let changes : item_count (set (places_of old size) place None) + one_if (is_some (item_in (places_of old size) place)) ≡ item_count (places_of old size) + 0 = item_count-changed (places_of old size) place None (omega (arith, places-length old size)) in
        let fewer : length new + one_if (is_some (item_of old place)) ≡ length old = kept in
        omega (arith, fewer, found, changes, now, was)
    by (inr behind) =
        let none : one_if (is_some (item_of old place)) ≡ 0 = ap (λ (o : Option Value). one_if (is_some o)) (within place behind) in
        let same : item_count (set (places_of old size) place None) ≡ item_count (places_of old size) = ap item_count (set_past (places_of old size) place None (omega (arith, places-length old size))) in
        let fewer : length new + one_if (is_some (item_of old place)) ≡ length old = kept in
        omega (arith, fewer, none, same, now, was)
