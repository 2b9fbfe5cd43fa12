-- A map by bytes is the table of its entries.
use Prim.Native.Nat.compare
use lib.Dec.{is_le}
use Rattle.std.proofs.Common.{◌≡◌, ℕ, suc, ◌-◌, Bool, true, false, cond, nat_lt, Vec, List, [], ◌∷◌, length, get_or, set, take, Option, Some, None, refl, sym, ap, ◌∙◌, arith, lt-ltb}
use Rattle.std.proofs.lemmas.List.{get_or_default, get_or-map, length-map, take-map}
use Rattle.std.specs.Prelude.{position, swap_remove}
use Rattle.std.specs.List.{position_or_len}
use Rattle.std.specs.Option.{option_map, option_map_or}
use Rattle.std.specs.declared.alloc.Global.{Global}
use Rattle.std.specs.Str.{bytes_eq}
use Rattle.std.specs.Map.{lookup, keys_of, set_value}
use Rattle.std.proofs.lemmas.Slice.Eq.{bytes_eq-Decides}
use Rattle.indexmap.specs.IndexMap.{insert_entry, swap_remove_entry}
use Rattle.rx_vars.specs.Tables.{look_up, with_entry, last_in_front, without_entry, named, table_of}

-- a look-up by a name's bytes
pub look_up-entries : {A : Type 0} (entries : List (Vec ℕ Global × A)) (name : List ℕ)
    → lookup (λ (k : Vec ℕ Global). bytes_eq name k.items) entries ≡ look_up (table_of entries) name
look_up-entries [] name = refl
look_up-entries (entry ∷ entries) name = ap (λ o. cond (bytes_eq name entry.0.items) (Some entry.1) o) (look_up-entries entries name)

inserted : {A : Type 0} (entry : Vec ℕ Global × A) (entries others : List (Vec ℕ Global × A)) (table : List (List ℕ × A)) (value : A) (same : Bool)
    → table_of others ≡ table
    → table_of (cond same ((entry.0, value) ∷ entries) (entry ∷ others)) ≡ cond same ((entry.0.items, value) ∷ table_of entries) (named entry ∷ table)
inserted entry entries others table value true is = refl
inserted entry entries others table value false is = ap (λ xs. named entry ∷ xs) is

-- an insertion under a name's bytes
pub with_entry-entries : {A : Type 0} (entries : List (Vec ℕ Global × A)) (key : Vec ℕ Global) (value : A)
    → table_of (insert_entry (λ (a b : Vec ℕ Global). bytes_eq a.items b.items) entries key value) ≡ with_entry (table_of entries) key.items value
with_entry-entries [] key value = refl
with_entry-entries (entry ∷ entries) key value =
    inserted entry entries _ _ value (bytes_eq key.items entry.0.items) (with_entry-entries entries key value)

-- ---- a removal

-- the entries without the first whose key passes a test
abbrev removed : {A : Type 0} → (Vec ℕ Global → Bool) → List (Vec ℕ Global × A) → List (Vec ℕ Global × A)
removed test [] = []
removed test (entry ∷ entries) = cond (test entry.0) (last_in_front entries) (entry ∷ removed test entries)

position-here : {A : Type 0} (test : Vec ℕ Global → Bool) (entry : Vec ℕ Global × A) (entries : List (Vec ℕ Global × A)) → test entry.0 ≡ true
    → position test (keys_of (entry ∷ entries)) ≡ Some 0
position-here test entry entries is =
    let count = length (keys_of (entry ∷ entries)) in
    let place : position_or_len test (keys_of (entry ∷ entries)) ≡ 0 = rw is refl in
    ap (λ (n : ℕ). cond (nat_lt n count) (Some n) None) place ∙ ap (λ (b : Bool). cond b (Some 0) None) (lt-ltb 0 count (omega arith))

mapped : (found : Bool) (place : ℕ) → cond found (Some (suc place)) None ≡ option_map (λ (n : ℕ). suc n) (cond found (Some place) None)
mapped true place = refl
mapped false place = refl

position-further : {A : Type 0} (test : Vec ℕ Global → Bool) (entry : Vec ℕ Global × A) (entries : List (Vec ℕ Global × A)) → test entry.0 ≡ false
    → position test (keys_of (entry ∷ entries)) ≡ option_map (λ (n : ℕ). suc n) (position test (keys_of entries))
position-further test entry entries is =
    let before = position_or_len test (keys_of entries) in
    let count = length (keys_of entries) in
    let place : position_or_len test (keys_of (entry ∷ entries)) ≡ suc before = rw is (omega arith) in
    let same : nat_lt (suc before) (suc count) ≡ nat_lt before count = ap is_le (compare.suc-suc (suc before) count) in
    ap (λ (n : ℕ). cond (nat_lt n (suc count)) (Some n) None) place
    ∙ ap (λ (b : Bool). cond b (Some (suc before)) None) same
    ∙ mapped (nat_lt before count) before

-- the last one in a place
swapped : {X : Type 0} (x : X) (xs : List X) (i : ℕ) (d : X) → swap_remove (x ∷ xs) i d ≡ take (length xs) (set (x ∷ xs) i (get_or (x ∷ xs) (length xs) d))
swapped x xs i d =
    let same : suc (length xs) - 1 ≡ length xs = omega arith in
    ap (λ (n : ℕ). take n (set (x ∷ xs) i (get_or (x ∷ xs) n d))) same

swapped-here : {X : Type 0} (x : X) (xs : List X) → swap_remove (x ∷ xs) 0 x ≡ last_in_front xs
swapped-here x [] = swapped x [] 0 x
swapped-here x (y ∷ xs) =
    swapped x (y ∷ xs) 0 x
    ∙ ap (λ last. last ∷ take (length xs) (y ∷ xs)) (get_or_default (y ∷ xs) (length xs) x y (omega arith))

swapped-further : {X : Type 0} (x y : X) (xs : List X) (i : ℕ) → swap_remove (x ∷ (y ∷ xs)) (suc i) x ≡ x ∷ swap_remove (y ∷ xs) i y
swapped-further x y xs i =
    swapped x (y ∷ xs) (suc i) x
    ∙ ap (λ last. x ∷ take (length xs) (set (y ∷ xs) i last)) (get_or_default (y ∷ xs) (length xs) x y (omega arith))
    ∙ ap (λ ys. x ∷ ys) (sym (swapped y xs i y))

swapped-at : {A : Type 0} (x y : Vec ℕ Global × A) (xs : List (Vec ℕ Global × A)) (place : Option ℕ)
    → option_map_or (λ (i : ℕ). swap_remove (x ∷ (y ∷ xs)) i x) (option_map (λ (n : ℕ). suc n) place) (x ∷ (y ∷ xs))
    ≡ x ∷ option_map_or (λ (i : ℕ). swap_remove (y ∷ xs) i y) place (y ∷ xs)
swapped-at x y xs None = refl
swapped-at x y xs (Some i) = swapped-further x y xs i

-- by whether the first entry is the one, where the others are removed from as told
removed_by : {A : Type 0} (test : Vec ℕ Global → Bool) (x : Vec ℕ Global × A) (xs : List (Vec ℕ Global × A)) (here : Bool) → test x.0 ≡ here
    → swap_remove_entry test xs ≡ removed test xs → swap_remove_entry test (x ∷ xs) ≡ removed test (x ∷ xs)
removed_by test x xs true is further =
    ap (λ (place : Option ℕ). option_map_or (λ (i : ℕ). swap_remove (x ∷ xs) i x) place (x ∷ xs)) (position-here test x xs is)
    ∙ swapped-here x xs
    ∙ ap (λ (b : Bool). cond b (last_in_front xs) (x ∷ removed test xs)) (sym is)
removed_by test x [] false is further =
    ap (λ (place : Option ℕ). option_map_or (λ (i : ℕ). swap_remove (x ∷ []) i x) place (x ∷ [])) (position-further test x [] is)
    ∙ ap (λ (b : Bool). cond b [] (x ∷ [])) (sym is)
removed_by test x (y ∷ xs) false is further =
    ap (λ (place : Option ℕ). option_map_or (λ (i : ℕ). swap_remove (x ∷ (y ∷ xs)) i x) place (x ∷ (y ∷ xs))) (position-further test x (y ∷ xs) is)
    ∙ swapped-at x y xs (position test (keys_of (y ∷ xs)))
    ∙ ap (λ ys. x ∷ ys) further
    ∙ ap (λ (b : Bool). cond b (last_in_front (y ∷ xs)) (x ∷ removed test (y ∷ xs))) (sym is)

removed-entries : {A : Type 0} (test : Vec ℕ Global → Bool) (entries : List (Vec ℕ Global × A)) → swap_remove_entry test entries ≡ removed test entries
removed-entries test [] = refl
removed-entries test (entry ∷ entries) = removed_by test entry entries (test entry.0) refl (removed-entries test entries)

last_in_front-table : {A : Type 0} (entries : List (Vec ℕ Global × A)) → table_of (last_in_front entries) ≡ last_in_front (table_of entries)
last_in_front-table [] = refl
last_in_front-table (entry ∷ entries) =
    ap (λ last. last ∷ table_of (take (length entries) (entry ∷ entries))) (sym (get_or-map named (entry ∷ entries) (length entries) entry (named entry) (omega arith)))
    ∙ ap (λ xs. get_or (table_of (entry ∷ entries)) (length entries) (named entry) ∷ xs) (sym (take-map named (length entries) (entry ∷ entries)))
    ∙ ap (λ (n : ℕ). get_or (table_of (entry ∷ entries)) n (named entry) ∷ take n (table_of (entry ∷ entries))) (sym (length-map entries named))

removed-named : {A : Type 0} (entry : Vec ℕ Global × A) (entries others : List (Vec ℕ Global × A)) (table : List (List ℕ × A)) (here : Bool)
    → table_of others ≡ table
    → table_of (cond here (last_in_front entries) (entry ∷ others)) ≡ cond here (last_in_front (table_of entries)) (named entry ∷ table)
removed-named entry entries others table true is = last_in_front-table entries
removed-named entry entries others table false is = ap (λ xs. named entry ∷ xs) is

removed-table : {A : Type 0} (entries : List (Vec ℕ Global × A)) (name : List ℕ)
    → table_of (removed (λ (k : Vec ℕ Global). bytes_eq name k.items) entries) ≡ without_entry (table_of entries) name
removed-table [] name = refl
removed-table (entry ∷ entries) name = removed-named entry entries _ _ (bytes_eq name entry.0.items) (removed-table entries name)

-- a removal by a name's bytes
pub without_entry-entries : {A : Type 0} (entries : List (Vec ℕ Global × A)) (name : List ℕ)
    → table_of (swap_remove_entry (λ (k : Vec ℕ Global). bytes_eq name k.items) entries) ≡ without_entry (table_of entries) name
without_entry-entries entries name =
    ap table_of (removed-entries (λ (k : Vec ℕ Global). bytes_eq name k.items) entries) ∙ removed-table entries name

-- ---- a write to what stands under a name

written : {A : Type 0} (entry : Vec ℕ Global × A) (entries : List (Vec ℕ Global × A)) (name : List ℕ) (value old : A) (here : Bool)
    → bytes_eq name entry.0.items ≡ here
    → (lookup (λ (k : Vec ℕ Global). bytes_eq name k.items) entries ≡ Some old
    → table_of (set_value (λ (k : Vec ℕ Global). bytes_eq name k.items) entries value) ≡ with_entry (table_of entries) name value)
    → lookup (λ (k : Vec ℕ Global). bytes_eq name k.items) (entry ∷ entries) ≡ Some old
    → table_of (set_value (λ (k : Vec ℕ Global). bytes_eq name k.items) (entry ∷ entries) value) ≡ with_entry (table_of (entry ∷ entries)) name value
written entry entries name value old true is further found = rw is refl
written entry entries name value old false is further found =
    let later : lookup (λ (k : Vec ℕ Global). bytes_eq name k.items) entries ≡ Some old = rw is at found in
    rw is (ap (λ xs. named entry ∷ xs) (further later))

-- a write under a name's bytes
pub set_value-entries : {A : Type 0} (entries : List (Vec ℕ Global × A)) (name : List ℕ) (value old : A)
    → lookup (λ (k : Vec ℕ Global). bytes_eq name k.items) entries ≡ Some old
    → table_of (set_value (λ (k : Vec ℕ Global). bytes_eq name k.items) entries value) ≡ with_entry (table_of entries) name value
set_value-entries [] name value old found = cc
set_value-entries (entry ∷ entries) name value old found =
    written entry entries name value old (bytes_eq name entry.0.items) refl (set_value-entries entries name value old) found

same_by : {A : Type 0} (entry : List ℕ × A) (table : List (List ℕ × A)) (name : List ℕ) (value : A) (here : Bool) → bytes_eq name entry.0 ≡ here
    → (look_up table name ≡ Some value → with_entry table name value ≡ table)
    → look_up (entry ∷ table) name ≡ Some value → with_entry (entry ∷ table) name value ≡ entry ∷ table
same_by entry table name value true is further found =
    let there : Some entry.1 ≡ Some value = rw is at found in
    let same : value ≡ entry.1 = cc in
    rw is (ap (λ v. (entry.0, v) ∷ table) same)
same_by entry table name value false is further found =
    let later : look_up table name ≡ Some value = rw is at found in
    rw is (ap (λ xs. entry ∷ xs) (further later))

-- what stands there already changes nothing
pub with_entry-same : {A : Type 0} (table : List (List ℕ × A)) (name : List ℕ) (value : A) → look_up table name ≡ Some value → with_entry table name value ≡ table
with_entry-same [] name value found = cc
with_entry-same (entry ∷ table) name value found =
    same_by entry table name value (bytes_eq name entry.0) refl (with_entry-same table name value) found

found_by : {A : Type 0} (entry : List ℕ × A) (table : List (List ℕ × A)) (name : List ℕ) (value : A) (here : Bool) → bytes_eq name entry.0 ≡ here
    → look_up (with_entry table name value) name ≡ Some value → look_up (with_entry (entry ∷ table) name value) name ≡ Some value
found_by entry table name value true is further = rw is (rw is refl)
found_by entry table name value false is further = rw is (rw is further)

-- what was put under a name stands there
pub look_up-with_entry : {A : Type 0} (table : List (List ℕ × A)) (name : List ℕ) (value : A) → look_up (with_entry table name value) name ≡ Some value
look_up-with_entry [] name value = ap (λ (b : Bool). cond b (Some value) None) ((bytes_eq-Decides name name).1 refl)
look_up-with_entry (entry ∷ table) name value =
    found_by entry table name value (bytes_eq name entry.0) refl (look_up-with_entry table name value)
