-- A map of pools is the list of them.
use Rattle.std.proofs.Common.{◌≡◌, ◌<◌, ℕ, zero, suc, ◌+◌, Bool, true, false, cond, ◌&&◌, nat_eq, nat_lt, Option, Some, None, List, [], ◌∷◌, ◌++◌, length, inl, inr, refl, sym, ap, ◌∙◌, arith, lt-ltb, eq-eqb}
use Rattle.std.specs.Prelude.{not, position, slice_get, is_some}
use Rattle.std.specs.Bool.{beq}
use Rattle.std.specs.List.{position_or_len}
use Rattle.std.specs.Map.{keys_of, lookup, values_of}
use Rattle.std.proofs.lemmas.Bool.{cases_Bool, ltb-false}
use Rattle.std.proofs.lemmas.List.{length-append, length-map, map-append}
use Rattle.std.proofs.lemmas.List.Folds.{position_or_len_push}
use Rattle.std.proofs.lemmas.List.Sums.{prefix_len-le-length}
use Rattle.indexmap.proofs.MapLemmas.{some_index}
use Rattle.indexmap.specs.IndexMap.{set_value_at}
use Rattle.rx_tree.specs.declared.class.Scope.{Scope}
use Rattle.rx_vars.specs.Tables.{look_up, with_entry}
use Rattle.rx_vars.specs.Names.{no_names}
use Rattle.rx_vars.proofs.TableLemmas.{look_up-with_entry}
use Rattle.rx_pools.specs.declared.pools.Pool.{Pool as Kept}
use Rattle.rx_pools.specs.Pools.{Pool, Pools, cell_in, cells_of, is_pool_of, pool_number, same_side, with_change_at, with_change_of, with_numbered_cell, with_pool, with_pool_at}
use Rattle.rx_pools.specs.Entries.{pool_of, pools_of}

abbrev pub Key : Type 0
Key = ℕ × ℕ × Bool

-- whether a key is this object and scope
abbrev pub is_key : ℕ → Scope → Key → Bool
is_key object scope key = (nat_eq object key.0 && nat_eq scope.class key.1) && beq scope.class_side key.2

same : (a b : Bool) → beq a b ≡ same_side a b
same true true = refl
same true false = refl
same false true = refl
same false false = refl

grouped : (a b c : Bool) → (a && b) && c ≡ a && (b && c)
grouped true b c = refl
grouped false b c = refl

is_pool_of-key : (object : ℕ) (scope : Scope) (entry : Key × Kept) → is_key object scope entry.0 ≡ is_pool_of object scope (pool_of entry)
is_pool_of-key object scope entry =
    grouped (nat_eq object entry.0.0) (nat_eq scope.class entry.0.1) (beq scope.class_side entry.0.2)
    ∙ ap (λ b. nat_eq object entry.0.0 && (nat_eq scope.class entry.0.1 && b)) (same scope.class_side entry.0.2)

place-pools : (object : ℕ) (scope : Scope) (entries : List (Key × Kept))
    → position_or_len (is_key object scope) (keys_of entries) ≡ position_or_len (is_pool_of object scope) (pools_of entries)
place-pools object scope [] = refl
place-pools object scope (entry ∷ entries) =
    ap (λ n. cond (not (is_key object scope entry.0)) (1 + n) 0) (place-pools object scope entries)
    ∙ ap (λ b. cond (not b) (1 + position_or_len (is_pool_of object scope) (pools_of entries)) 0) (is_pool_of-key object scope entry)

-- the place of an object and a scope
pub number-entries : (object : ℕ) (scope : Scope) (entries : List (Key × Kept))
    → position (is_key object scope) (keys_of entries) ≡ position (is_pool_of object scope) (pools_of entries)
number-entries object scope entries =
    ap (λ n. cond (nat_lt n (length (keys_of entries))) (Some n) None) (place-pools object scope entries)
    ∙ ap (λ n. cond (nat_lt (position_or_len (is_pool_of object scope) (pools_of entries)) n) (Some (position_or_len (is_pool_of object scope) (pools_of entries))) None)
    (length-map entries (λ (e : Key × Kept). e.0) ∙ sym (length-map entries pool_of))

-- ---- a pool that is made

abbrev pub new_pool : ℕ → Scope → Pool
new_pool object scope = record { object = object; scope = scope; rows = no_names; cells = [] }

pools_of-made : (entries : List (Key × Kept)) (object : ℕ) (scope : Scope) (kept : Kept) → kept ≡ record { rows = no_names; cells = [] }
    → pools_of (entries ++ ((object, scope.class, scope.class_side), kept) ∷ []) ≡ pools_of entries ++ new_pool object scope ∷ []
pools_of-made entries object scope kept is =
    map-append pool_of entries (((object, scope.class, scope.class_side), kept) ∷ [])
    ∙ ap (λ (k : Kept). pools_of entries ++ record { object = object; scope = scope; rows = k.rows; cells = k.cells } ∷ []) is

-- a new one goes last
pub with_pool-made : (entries new : List (Key × Kept)) (counts : List ℕ) (all : Pools) (object : ℕ) (scope : Scope) (kept : Kept)
    → record { pools = pools_of entries; counts = counts } ≡ all → None ≡ pool_number all object scope
    → new ≡ entries ++ ((object, scope.class, scope.class_side), kept) ∷ [] → kept ≡ record { rows = no_names; cells = [] }
    → record { pools = pools_of new; counts = counts } ≡ with_pool all object scope
with_pool-made entries new counts all object scope kept is absent made empty =
    ap (λ pools. record { pools = pools; counts = counts }) (ap pools_of made ∙ pools_of-made entries object scope kept empty)
    ∙ ap (λ (a : Pools). with_pool_at a object scope None) is
    ∙ ap (λ (number : Option ℕ). with_pool_at all object scope number) absent

no_place : (test : Pool → Bool) (pools : List Pool) → position test pools ≡ None → position_or_len test pools ≡ length pools
no_place test pools none = elim (cases_Bool (nat_lt (position_or_len test pools) (length pools))) [
  | inl below ↦
      let some : Some (position_or_len test pools) ≡ None = sym (ap (λ (b : Bool). cond b (Some (position_or_len test pools)) None) below) ∙ none in
      cc
  | inr beyond ↦
      let far = ltb-false (position_or_len test pools) (length pools) beyond in
      let bound = prefix_len-le-length (λ pool. not (test pool)) pools in
      omega arith
]

last_found : (test : Pool → Bool) (pools : List Pool) (pool : Pool) → position test pools ≡ None → test pool ≡ true
    → position test (pools ++ pool ∷ []) ≡ Some (length pools)
last_found test pools pool none is =
    let before = no_place test pools none in
    let all = pools ++ pool ∷ [] in
    let place : position_or_len test all ≡ length pools =
    position_or_len_push test pools pool
    ∙ ap (λ (n : ℕ). cond (nat_eq n (length pools)) (length pools + cond (test pool) 0 1) n) before
    ∙ ap (λ (b : Bool). cond b (length pools + cond (test pool) 0 1) (length pools)) (eq-eqb (length pools) (length pools) refl)
    ∙ ap (λ (b : Bool). length pools + cond b 0 1) is ∙ omega arith in
    let within : length pools < length all = omega (arith, length-append pools (pool ∷ [])) in
    ap (λ (n : ℕ). cond (nat_lt n (length all)) (Some n) None) place
    ∙ ap (λ (b : Bool). cond b (Some (length pools)) None) (lt-ltb (length pools) (length all) within)

own_side : (side : Bool) → same_side side side ≡ true
own_side true = refl
own_side false = refl

is_pool_of-new : (object : ℕ) (scope : Scope) → is_pool_of object scope (new_pool object scope) ≡ true
is_pool_of-new object scope =
    ap (λ b. b && (nat_eq scope.class scope.class && same_side scope.class_side scope.class_side)) (eq-eqb object object refl)
    ∙ ap (λ b. b && same_side scope.class_side scope.class_side) (eq-eqb scope.class scope.class refl)
    ∙ own_side scope.class_side

-- and that is its number
pub number-made : (entries new : List (Key × Kept)) (counts : List ℕ) (all : Pools) (object : ℕ) (scope : Scope) (kept : Kept)
    → record { pools = pools_of entries; counts = counts } ≡ all → None ≡ pool_number all object scope
    → new ≡ entries ++ ((object, scope.class, scope.class_side), kept) ∷ [] → kept ≡ record { rows = no_names; cells = [] }
    → Some (length entries) ≡ pool_number (record { pools = pools_of new; counts = counts }) object scope
number-made entries new counts all object scope kept is absent made empty =
    let none : position (is_pool_of object scope) (pools_of entries) ≡ None = ap (λ (a : Pools). pool_number a object scope) is ∙ sym absent in
    ap (λ (n : ℕ). Some n) (sym (length-map entries pool_of))
    ∙ sym (last_found (is_pool_of object scope) (pools_of entries) (new_pool object scope) none (is_pool_of-new object scope))
    ∙ ap (position (is_pool_of object scope)) (sym (ap pools_of made ∙ pools_of-made entries object scope kept empty))

none_found : {X : Type 0} (found : Option X) → is_some found ≡ false → found ≡ None
none_found None is = refl
none_found (Some x) is = cc

-- no key is there
pub key-absent : (entries : List (Key × Kept)) (counts : List ℕ) (all : Pools) (object : ℕ) (scope : Scope)
    → record { pools = pools_of entries; counts = counts } ≡ all → None ≡ pool_number all object scope → lookup (is_key object scope) entries ≡ None
key-absent entries counts all object scope is absent =
    let none : position (is_key object scope) (keys_of entries) ≡ None =
    number-entries object scope entries ∙ ap (λ (a : Pools). pool_number a object scope) is ∙ sym absent in
    none_found _ (sym (some_index (is_key object scope) entries) ∙ ap is_some none)

-- ---- a change of one pool

further : (pool : Pool) (pools : List Pool) (number : ℕ) (change : Pool → Pool) (found : Option Pool)
    → with_change_of (pool ∷ pools) (suc number) change found ≡ pool ∷ with_change_of pools number change found
further pool pools number change None = refl
further pool pools number change (Some there) = refl

-- a pool of which the rows and cells are others
pub pools_of-written : (entries : List (Key × Kept)) (number : ℕ) (kept new : Kept) (change : Pool → Pool) → slice_get (values_of entries) number ≡ Some kept
    → ((key : Key) → pool_of (key, new) ≡ change (pool_of (key, kept)))
    → pools_of (set_value_at entries number new) ≡ with_change_at (pools_of entries) number change
pools_of-written [] number kept new change found so = cc
pools_of-written (entry ∷ entries) zero kept new change found so =
    let there : kept ≡ entry.1 = cc in
    ap (λ pool. pool ∷ pools_of entries) (so entry.0 ∙ ap (λ (k : Kept). change (pool_of (entry.0, k))) there)
pools_of-written (entry ∷ entries) (suc number) kept new change found so =
    ap (λ others. pool_of entry ∷ others) (pools_of-written entries number kept new change found so)
    ∙ sym (further (pool_of entry) (pools_of entries) number change (slice_get (pools_of entries) number))

-- one of which they are the same
pub pools_of-same : (entries : List (Key × Kept)) (number : ℕ) (kept : Kept) → slice_get (values_of entries) number ≡ Some kept
    → pools_of (set_value_at entries number kept) ≡ pools_of entries
pools_of-same [] number kept found = refl
pools_of-same (entry ∷ entries) zero kept found =
    let there : kept ≡ entry.1 = cc in
    ap (λ (k : Kept). pool_of (entry.0, k) ∷ pools_of entries) there
pools_of-same (entry ∷ entries) (suc number) kept found = ap (λ others. pool_of entry ∷ others) (pools_of-same entries number kept found)

-- ---- the cell that was given out

changed-there : (pools : List Pool) (number : ℕ) (change : Pool → Pool) → number < length pools
    → (pool : Pool) × (slice_get (with_change_at pools number change) number ≡ Some (change pool))
changed-there [] number change below = absurd (omega arith)
changed-there (pool ∷ pools) zero change below = (pool, refl)
changed-there (pool ∷ pools) (suc number) change below =
    let there = changed-there pools number change (omega arith) in
    (there.0, ap (λ ps. slice_get ps (suc number)) (further pool pools number change (slice_get pools number)) ∙ there.1)

pub cell_in-numbered : (all : Pools) (number : ℕ) (name : List ℕ) (cell : ℕ) → number < length all.pools
    → cell_in (with_numbered_cell all number name cell) number name ≡ Some cell
cell_in-numbered all number name cell below =
    let there = changed-there all.pools number (λ pool. record pool { cells = with_entry pool.cells name cell }) below in
    ap (λ pool. look_up (cells_of pool) name) there.1 ∙ look_up-with_entry there.0.cells name cell
