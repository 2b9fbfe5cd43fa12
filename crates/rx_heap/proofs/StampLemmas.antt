-- A Directory's entries by their stamps are those by their names.
use Rattle.std.proofs.Common.{◌≡◌, ◌<◌, ◌≤◌, ℕ, zero, suc, ◌+◌, Bool, true, false, cond, Vec, Global, Option, Some, None, List, [], ◌∷◌, ◌++◌, length, slice_get, refl, sym, ap, subst, ◌∙◌, arith, true≢false, length-append}
use Rattle.std.specs.Option.{option_map}
use Rattle.std.specs.declared.cmp.Ordering.{Ordering}
use Rattle.std.specs.Ordering.{is_eq, match_ordering, nat_cmp}
use Rattle.std.specs.Str.{bytes_eq}
use Rattle.std.specs.Map.{lookup, remove_entry, set_value, values_of, KeepsOthers}
use Rattle.std.specs.BTreeMap.{insert_entry}
use Rattle.std.proofs.lemmas.Slice.Eq.{bytes_eq-Decides}
use Rattle.std.proofs.lemmas.Cmp.{ranked, by_ranked}
use Rattle.rx_tree.specs.declared.value.Value.{Value}
use Rattle.rx_vars.specs.Tables.{look_up, with_entry, table_of}
use Rattle.rx_vars.proofs.TableLemmas.{look_up-entries}
use Rattle.rx_heap.specs.Directories.{without_name}
use Rattle.rx_heap.specs.Stamps.{AreStamped, Entry, Stay}

-- Each of the entries passes the test of stamps exactly where it has the name.
abbrev pub Agree : (ℕ → Bool) → List ℕ → List Entry → Type 0
Agree test name entries = (place : ℕ) (entry : Entry) → slice_get entries place ≡ Some entry → bytes_eq name entry.1.0 ≡ test entry.0

-- ---- a look-up

chosen : (here : Bool) (value : List ℕ × Value) (rest : Option Value) (others : Option (List ℕ × Value)) → rest ≡ option_map (λ v. v.1) others
    → cond here (Some value.1) rest ≡ option_map (λ v. v.1) (cond here (Some value) others)
chosen true value rest others is = refl
chosen false value rest others is = is

pub look_up-values : (test : ℕ → Bool) (name : List ℕ) (entries : List Entry) → Agree test name entries → look_up (values_of entries) name ≡ option_map (λ v. v.1) (lookup test entries)
look_up-values test name [] agree = refl
look_up-values test name (entry ∷ entries) agree =
    ap (λ (b : Bool). cond b (Some entry.1.1) (look_up (values_of entries) name)) (agree 0 entry refl)
    ∙ chosen (test entry.0) entry.1 _ _ (look_up-values test name entries (λ place e at. agree (suc place) e at))

-- ---- a removal

closed_up : (here : Bool) (entry : Entry) (entries others : List Entry) (table : List (List ℕ × Value)) → table ≡ values_of others
    → cond here (values_of entries) (entry.1 ∷ table) ≡ values_of (cond here entries (entry ∷ others))
closed_up true entry entries others table is = refl
closed_up false entry entries others table is = ap (λ xs. entry.1 ∷ xs) is

pub without_name-values : (test : ℕ → Bool) (name : List ℕ) (entries : List Entry) → Agree test name entries → without_name (values_of entries) name ≡ values_of (remove_entry test entries)
without_name-values test name [] agree = refl
without_name-values test name (entry ∷ entries) agree =
    ap (λ (b : Bool). cond b (values_of entries) (entry.1 ∷ without_name (values_of entries) name)) (agree 0 entry refl)
    ∙ closed_up (test entry.0) entry entries _ _ (without_name-values test name entries (λ place e at. agree (suc place) e at))

-- ---- a value that is put under a name that is there

put_by : (test : ℕ → Bool) (name : List ℕ) (entry : Entry) (entries : List Entry) (old : List ℕ × Value) (value : Value) (here : Bool)
    → test entry.0 ≡ here → bytes_eq name entry.1.0 ≡ here
    → (lookup test entries ≡ Some old → with_entry (values_of entries) name value ≡ values_of (set_value test entries (old.0, value)))
    → lookup test (entry ∷ entries) ≡ Some old → with_entry (values_of (entry ∷ entries)) name value ≡ values_of (set_value test (entry ∷ entries) (old.0, value))
put_by test name entry entries old value true is same further found =
    let there : Some entry.1 ≡ Some old = rw is at found in
    let e : entry.1 ≡ old = cc in
    rw is (rw same (ap (λ (o : List ℕ × Value). (o.0, value) ∷ values_of entries) e))
put_by test name entry entries old value false is same further found =
    let later : lookup test entries ≡ Some old = rw is at found in
    rw is (rw same (ap (λ xs. entry.1 ∷ xs) (further later)))

pub with_entry-values : (test : ℕ → Bool) (name : List ℕ) (entries : List Entry) (old : List ℕ × Value) (value : Value) → Agree test name entries → lookup test entries ≡ Some old
    → with_entry (values_of entries) name value ≡ values_of (set_value test entries (old.0, value))
with_entry-values test name [] old value agree found = cc
with_entry-values test name (entry ∷ entries) old value agree found =
    put_by test name entry entries old value (test entry.0) refl (agree 0 entry refl)
    (with_entry-values test name entries old value (λ place e at. agree (suc place) e at)) found

-- ---- a new name

-- None of the entries has the name.
abbrev pub Lack : List ℕ → List Entry → Type 0
Lack name entries = (place : ℕ) (entry : Entry) → slice_get entries place ≡ Some entry → bytes_eq name entry.1.0 ≡ false

-- All stamps are below this one.
abbrev pub StandBelow : List Entry → ℕ → Type 0
StandBelow entries next = (place : ℕ) (entry : Entry) → slice_get entries place ≡ Some entry → entry.0 < next

pub with_entry-new : (name : List ℕ) (entries : List Entry) (value : Value) → Lack name entries → with_entry (values_of entries) name value ≡ values_of entries ++ (name, value) ∷ []
with_entry-new name [] value lack = refl
with_entry-new name (entry ∷ entries) value lack =
    ap (λ (b : Bool). cond b ((entry.1.0, value) ∷ values_of entries) (entry.1 ∷ with_entry (values_of entries) name value)) (lack 0 entry refl)
    ∙ ap (λ xs. entry.1 ∷ xs) (with_entry-new name entries value (λ place e at. lack (suc place) e at))

-- a number is compared to a smaller one
compared : (a b : ℕ) (X : Type 0) (less equal greater : X) → b < a → match_ordering (nat_cmp a b) less equal greater ≡ greater
compared a b X less equal greater below =
    by_ranked (a < b) (a ≡ b) (b < a) (nat_cmp a b) (ranked a b _ refl)
    (λ e l. absurd (omega arith)) (λ e s. absurd (omega arith)) (λ e l. ap (λ (o : Ordering). match_ordering o less equal greater) e)

-- the greatest stamp goes last
pub insert_entry-last : (entries : List Entry) (next : ℕ) (entry : List ℕ × Value) → StandBelow entries next → insert_entry nat_cmp entries next entry ≡ entries ++ (next, entry) ∷ []
insert_entry-last [] next entry below = refl
insert_entry-last (first ∷ entries) next entry below =
    compared next first.0 (List Entry) _ _ _ (below 0 first refl)
    ∙ ap (λ xs. first ∷ xs) (insert_entry-last entries next entry (λ place e at. below (suc place) e at))

-- ---- stamps and names

-- whether a stamp is this one
abbrev pub is_stamp : ℕ → ℕ → Bool
is_stamp stamp other = is_eq (nat_cmp stamp other)

stamp-same : (stamp other : ℕ) → stamp ≡ other → is_stamp stamp other ≡ true
stamp-same stamp other same =
    by_ranked (stamp < other) (stamp ≡ other) (other < stamp) (nat_cmp stamp other) (ranked stamp other _ refl)
    (λ e l. absurd (omega arith)) (λ e s. ap is_eq e) (λ e l. absurd (omega arith))

stamp-other : (stamp other : ℕ) → (stamp ≡ other → ⊥) → is_stamp stamp other ≡ false
stamp-other stamp other apart =
    by_ranked (stamp < other) (stamp ≡ other) (other < stamp) (nat_cmp stamp other) (ranked stamp other _ refl)
    (λ e l. ap is_eq e) (λ e s. absurd (apart s)) (λ e l. ap is_eq e)

same-stamp : (stamp other : ℕ) → is_stamp stamp other ≡ true → stamp ≡ other
same-stamp stamp other is =
    by_ranked (stamp < other) (stamp ≡ other) (other < stamp) (nat_cmp stamp other) (ranked stamp other _ refl)
    (λ e l. absurd (true≢false (sym is ∙ ap is_eq e))) (λ e s. s) (λ e l. absurd (true≢false (sym is ∙ ap is_eq e)))

same-some : {A : Type 0} {x y : A} → Some x ≡ Some y → x ≡ y
same-some is = cc

-- Each entry has the name exactly where it stands at the name's stamp.
pub agree : (stamps : List (List ℕ × ℕ)) (entries : List Entry) (next stamp : ℕ) (name : List ℕ) → AreStamped stamps entries next
    → look_up stamps name ≡ Some stamp → Agree (is_stamp stamp) name entries
agree stamps entries next stamp name are found place entry at = go (bytes_eq name entry.1.0) refl
  where
    go : (here : Bool) → bytes_eq name entry.1.0 ≡ here → here ≡ is_stamp stamp entry.0
    go true same =
        let e : name ≡ entry.1.0 = (bytes_eq-Decides name entry.1.0).0 same in
        let there : look_up stamps name ≡ Some entry.0 = ap (look_up stamps) e ∙ are.named place entry at in
        sym (stamp-same stamp entry.0 (same-some (sym found ∙ there)))
    go false same =
        sym (stamp-other stamp entry.0 (λ e. true≢false (sym ((bytes_eq-Decides name entry.1.0).1
        (are.apart name entry.1.0 entry.0 (found ∙ ap (λ n. Some n) e) (are.named place entry at))) ∙ same)))

-- A name without a stamp is none of an entry.
pub lacks : (stamps : List (List ℕ × ℕ)) (entries : List Entry) (next : ℕ) (name : List ℕ) → AreStamped stamps entries next
    → look_up stamps name ≡ None → Lack name entries
lacks stamps entries next name are none place entry at = go (bytes_eq name entry.1.0) refl
  where
    go : (here : Bool) → bytes_eq name entry.1.0 ≡ here → here ≡ false
    go false same = refl
    go true same =
        let e : name ≡ entry.1.0 = (bytes_eq-Decides name entry.1.0).0 same in
        let there : look_up stamps name ≡ Some entry.0 = ap (look_up stamps) e ∙ are.named place entry at in
        let both : None ≡ Some entry.0 = sym none ∙ there in
        absurd cc

pub look_up-lack : (name : List ℕ) (entries : List Entry) → Lack name entries → look_up (values_of entries) name ≡ None
look_up-lack name [] lack = refl
look_up-lack name (entry ∷ entries) lack =
    ap (λ (b : Bool). cond b (Some entry.1.1) (look_up (values_of entries) name)) (lack 0 entry refl)
    ∙ look_up-lack name entries (λ place e at. lack (suc place) e at)

lack-first : (name : List ℕ) (entry : Entry) (rest : Option Value) (here : Bool) → bytes_eq name entry.1.0 ≡ here
    → cond here (Some entry.1.1) rest ≡ None → (here ≡ false) × (rest ≡ None)
lack-first name entry rest true is none = absurd cc
lack-first name entry rest false is none = (refl, none)

-- A name that no entry has.
pub lack-of : (name : List ℕ) (entries : List Entry) → look_up (values_of entries) name ≡ None → Lack name entries
lack-of name [] none place entry at = absurd cc
lack-of name (first ∷ entries) none zero entry at =
    let both = lack-first name first (look_up (values_of entries) name) (bytes_eq name first.1.0) refl none in
    let same : first ≡ entry = same-some at in
    ap (λ (e : Entry). bytes_eq name e.1.0) (sym same) ∙ both.0
lack-of name (first ∷ entries) none (suc place) entry at =
    let both = lack-first name first (look_up (values_of entries) name) (bytes_eq name first.1.0) refl none in
    lack-of name entries both.1 place entry at

pub stand_below : (stamps : List (List ℕ × ℕ)) (entries : List Entry) (next : ℕ) → AreStamped stamps entries next → StandBelow entries next
stand_below stamps entries next are place entry at = are.below entry.1.0 entry.0 (are.named place entry at)

-- ---- changes of stamps

apart-keys : (name other key : List ℕ) → bytes_eq name other ≡ false → bytes_eq name key ≡ true → (here : Bool) → bytes_eq other key ≡ here → here ≡ false
apart-keys name other key not_same same false is = refl
apart-keys name other key not_same same true is =
    let e : name ≡ key = (bytes_eq-Decides name key).0 same in
    let f : other ≡ key = (bytes_eq-Decides other key).0 is in
    absurd (true≢false (sym ((bytes_eq-Decides name other).1 (e ∙ sym f)) ∙ not_same))

pub stay : (name : List ℕ) (old new : List (Vec ℕ Global × ℕ))
    → KeepsOthers (λ (a b : Vec ℕ Global). bytes_eq a.items b.items) (λ (k : Vec ℕ Global). bytes_eq name k.items) old new
    → Stay name (table_of old) (table_of new)
unfolding KeepsOthers
stay name old new keeps other not_same =
    sym (look_up-entries new other)
    ∙ keeps (λ (k : Vec ℕ Global). bytes_eq other k.items)
    (λ x y e. ap (λ (l : List ℕ). bytes_eq l y.items) ((bytes_eq-Decides other x.items).0 e))
    (λ k e. apart-keys name other k.items not_same e (bytes_eq other k.items) refl)
    ∙ look_up-entries old other

-- a name that isn't this one, or is
split : (name other : List ℕ) (P : Type 0) → (name ≡ other → P) → (bytes_eq name other ≡ false → P) → P
split name other P same apart = go (bytes_eq name other) refl
  where
    go : (here : Bool) → bytes_eq name other ≡ here → P
    go true is = same ((bytes_eq-Decides name other).0 is)
    go false is = apart is

-- The next stamp may be greater.
pub stamped-later : (stamps : List (List ℕ × ℕ)) (entries : List Entry) (next : ℕ) → AreStamped stamps entries next → AreStamped stamps entries (next + 1)
stamped-later stamps entries next are = record {
  named = are.named;
  apart = are.apart;
  below = λ name stamp is. let h = are.below name stamp is in omega arith;
  few = are.few;
}

-- A name without an entry has the next stamp.
pub stamped-new : (old new : List (List ℕ × ℕ)) (entries : List Entry) (next : ℕ) (name : List ℕ) → AreStamped old entries next
    → Lack name entries → look_up new name ≡ Some next → Stay name old new → AreStamped new entries (next + 1)
stamped-new old new entries next name are lack is stays = record {
  named = λ place entry at. stays entry.1.0 (lack place entry at) ∙ are.named place entry at;
  apart = λ first second stamp p q.
      split name first (first ≡ second)
      (λ e. let s : stamp ≡ next = same-some (sym p ∙ ap (look_up new) (sym e) ∙ is) in
      split name second (first ≡ second) (λ f. sym e ∙ f)
      (λ f. let h : stamp < next = are.below second stamp (sym (stays second f) ∙ q) in absurd (omega arith)))
      (λ e. split name second (first ≡ second)
      (λ f. let s : stamp ≡ next = same-some (sym q ∙ ap (look_up new) (sym f) ∙ is) in
      let h : stamp < next = are.below first stamp (sym (stays first e) ∙ p) in absurd (omega arith))
      (λ f. are.apart first second stamp (sym (stays first e) ∙ p) (sym (stays second f) ∙ q)));
  below = λ other stamp p.
      split name other (stamp < next + 1)
      (λ e. let s : stamp ≡ next = same-some (sym p ∙ ap (look_up new) (sym e) ∙ is) in omega arith)
      (λ e. let h : stamp < next = are.below other stamp (sym (stays other e) ∙ p) in omega arith);
  few = are.few;
}

-- what stands at a place of a list with one element more
at-last : (entries : List Entry) (last : Entry) (place : ℕ) (entry : Entry) (P : Entry → Type 0)
    → ((place : ℕ) (entry : Entry) → slice_get entries place ≡ Some entry → P entry) → P last
    → slice_get (entries ++ last ∷ []) place ≡ Some entry → P entry
at-last [] last zero entry P each here at = subst P (same-some at) here
at-last [] last (suc place) entry P each here at = absurd cc
at-last (first ∷ entries) last zero entry P each here at = each 0 entry at
at-last (first ∷ entries) last (suc place) entry P each here at =
    at-last entries last place entry P (λ i e is. each (suc i) e is) here at

-- The entry of a new name stands last.
pub stamped-entry : (stamps : List (List ℕ × ℕ)) (entries : List Entry) (next : ℕ) (name : List ℕ) (value : Value)
    → AreStamped stamps entries (next + 1) → StandBelow entries next → look_up stamps name ≡ Some next → length entries < 4294967295
    → AreStamped stamps (insert_entry nat_cmp entries next (name, value)) (next + 1)
stamped-entry stamps entries next name value are below is few =
    let last = insert_entry-last entries next (name, value) below in
    let count : length (entries ++ (next, (name, value)) ∷ []) ≡ length entries + 1 = length-append entries ((next, (name, value)) ∷ []) in
    subst (λ (es : List Entry). AreStamped stamps es (next + 1)) (sym last) (record {
      named = λ place entry at.
          at-last entries (next, (name, value)) place entry (λ (e : Entry). look_up stamps e.1.0 ≡ Some e.0) are.named is at;
      apart = are.apart;
      below = are.below;
      few = omega arith;
    })

-- ---- a value that changes, and an entry that is taken away

-- each element of a list with a value changed has the stamp and the name of one that was there
changed-at : (test : ℕ → Bool) (entries : List Entry) (old : List ℕ × Value) (value : Value) (P : ℕ → List ℕ → Type 0)
    → ((place : ℕ) (entry : Entry) → slice_get entries place ≡ Some entry → P entry.0 entry.1.0) → lookup test entries ≡ Some old
    → (place : ℕ) (entry : Entry) → slice_get (set_value test entries (old.0, value)) place ≡ Some entry → P entry.0 entry.1.0
changed-at test [] old value P each found place entry at = absurd cc
changed-at test (first ∷ entries) old value P each found place entry at =
    go (test first.0) (λ is i q. changed-at test entries old value P (λ j x r. each (suc j) x r) is i entry q) found place at
  where
    go : (here : Bool)
        → (lookup test entries ≡ Some old → (i : ℕ) → slice_get (set_value test entries (old.0, value)) i ≡ Some entry → P entry.0 entry.1.0)
        → cond here (Some first.1) (lookup test entries) ≡ Some old → (place : ℕ)
        → slice_get (cond here ((first.0, (old.0, value)) ∷ entries) (first ∷ set_value test entries (old.0, value))) place ≡ Some entry
        → P entry.0 entry.1.0
    go true later is zero at =
        let same : first.1 ≡ old = same-some is in
        subst (λ (e : Entry). P e.0 e.1.0) (same-some at) (subst (λ (o : List ℕ × Value). P first.0 o.0) same (each 0 first refl))
    go true later is (suc place) at = each (suc place) entry at
    go false later is zero at = each 0 entry at
    go false later is (suc place) at = later is place at

changed-count : (test : ℕ → Bool) (entries : List Entry) (value : List ℕ × Value) → length (set_value test entries value) ≡ length entries
changed-count test [] value = refl
changed-count test (first ∷ entries) value = go (test first.0) (changed-count test entries value)
  where
    go : (here : Bool) → length (set_value test entries value) ≡ length entries
        → length (cond here ((first.0, value) ∷ entries) (first ∷ set_value test entries value)) ≡ length (first ∷ entries)
    go true h = omega arith
    go false h = omega arith

pub stamped-value : (stamps : List (List ℕ × ℕ)) (entries : List Entry) (next stamp : ℕ) (old : List ℕ × Value) (value : Value)
    → AreStamped stamps entries next → lookup (is_stamp stamp) entries ≡ Some old
    → AreStamped stamps (set_value (is_stamp stamp) entries (old.0, value)) next
stamped-value stamps entries next stamp old value are found =
    let count = changed-count (is_stamp stamp) entries (old.0, value) in
    let few = are.few in
    record {
      named = changed-at (is_stamp stamp) entries old value (λ n name. look_up stamps name ≡ Some n) are.named found;
      apart = are.apart;
      below = are.below;
      few = omega arith;
    }

-- each element of a list without the first that passes was there
removed-at : (test : ℕ → Bool) (entries : List Entry) (P : Entry → Type 0)
    → ((place : ℕ) (entry : Entry) → slice_get entries place ≡ Some entry → P entry)
    → (place : ℕ) (entry : Entry) → slice_get (remove_entry test entries) place ≡ Some entry → P entry
removed-at test [] P each place entry at = each place entry at
removed-at test (first ∷ entries) P each place entry at =
    go (test first.0) (λ i q. removed-at test entries P (λ j x r. each (suc j) x r) i entry q) place at
  where
    go : (here : Bool) → ((i : ℕ) → slice_get (remove_entry test entries) i ≡ Some entry → P entry) → (place : ℕ)
        → slice_get (cond here entries (first ∷ remove_entry test entries)) place ≡ Some entry → P entry
    go true later place at = each (suc place) entry at
    go false later zero at = each 0 entry at
    go false later (suc place) at = later place at

removed-count : (test : ℕ → Bool) (entries : List Entry) → length (remove_entry test entries) ≤ length entries
removed-count test [] = omega arith
removed-count test (first ∷ entries) = go (test first.0) (removed-count test entries)
  where
    go : (here : Bool) → length (remove_entry test entries) ≤ length entries
        → length (cond here entries (first ∷ remove_entry test entries)) ≤ length (first ∷ entries)
    go true h = omega arith
    go false h = omega arith

none-passes : (test : ℕ → Bool) (entries : List Entry) → lookup test entries ≡ None
    → (place : ℕ) (entry : Entry) → slice_get entries place ≡ Some entry → test entry.0 ≡ false
none-passes test [] none place entry at = absurd cc
none-passes test (first ∷ entries) none place entry at =
    go (test first.0) refl (λ found i q. none-passes test entries found i entry q) none place at
  where
    go : (here : Bool) → test first.0 ≡ here
        → (lookup test entries ≡ None → (i : ℕ) → slice_get entries i ≡ Some entry → test entry.0 ≡ false)
        → cond here (Some first.1) (lookup test entries) ≡ None → (place : ℕ)
        → slice_get (first ∷ entries) place ≡ Some entry → test entry.0 ≡ false
    go true is later found place at = absurd cc
    go false is later found zero at = ap (λ (e : Entry). test e.0) (sym (same-some at)) ∙ is
    go false is later found (suc place) at = later found place at

-- Without a name and its entry, the other names keep theirs.
pub stamped-less : (old new : List (List ℕ × ℕ)) (entries others : List Entry) (next stamp : ℕ) (name : List ℕ) → AreStamped old entries next
    → look_up old name ≡ Some stamp → look_up new name ≡ None → Stay name old new
    → others ≡ remove_entry (is_stamp stamp) entries → lookup (is_stamp stamp) others ≡ None → AreStamped new others next
stamped-less old new entries others next stamp name are found gone stays is none =
    let agreed = agree old entries next stamp name are found in
    let count = removed-count (is_stamp stamp) entries in
    let same = ap (λ (es : List Entry). length es) is in
    let few = are.few in
    record {
      named = λ place entry at.
          let passed = none-passes (is_stamp stamp) others none place entry at in
          let here = removed-at (is_stamp stamp) entries (λ (e : Entry). (bytes_eq name e.1.0 ≡ is_stamp stamp e.0) × (look_up old e.1.0 ≡ Some e.0))
          (λ i e q. (agreed i e q, are.named i e q)) place entry (ap (λ (es : List Entry). slice_get es place) (sym is) ∙ at) in
          stays entry.1.0 (here.0 ∙ passed) ∙ here.1;
      apart = λ first second n p q.
          split name first (first ≡ second)
          (λ e. let both : None ≡ Some n = sym gone ∙ ap (look_up new) e ∙ p in absurd cc)
          (λ e. split name second (first ≡ second)
          (λ f. let both : None ≡ Some n = sym gone ∙ ap (look_up new) f ∙ q in absurd cc)
          (λ f. are.apart first second n (sym (stays first e) ∙ p) (sym (stays second f) ∙ q)));
      below = λ other n p.
          split name other (n < next)
          (λ e. let both : None ≡ Some n = sym gone ∙ ap (look_up new) e ∙ p in absurd cc)
          (λ e. are.below other n (sym (stays other e) ∙ p));
      few = omega arith;
    }

-- A name without an entry loses its stamp.
pub stamped-gone : (old new : List (List ℕ × ℕ)) (entries : List Entry) (next : ℕ) (name : List ℕ) → AreStamped old entries next
    → Lack name entries → look_up new name ≡ None → Stay name old new → AreStamped new entries next
stamped-gone old new entries next name are lack gone stays = record {
  named = λ place entry at. stays entry.1.0 (lack place entry at) ∙ are.named place entry at;
  apart = λ first second n p q.
      split name first (first ≡ second)
      (λ e. let both : None ≡ Some n = sym gone ∙ ap (look_up new) e ∙ p in absurd cc)
      (λ e. split name second (first ≡ second)
      (λ f. let both : None ≡ Some n = sym gone ∙ ap (look_up new) f ∙ q in absurd cc)
      (λ f. are.apart first second n (sym (stays first e) ∙ p) (sym (stays second f) ∙ q)));
  below = λ other n p.
      split name other (n < next)
      (λ e. let both : None ≡ Some n = sym gone ∙ ap (look_up new) e ∙ p in absurd cc)
      (λ e. are.below other n (sym (stays other e) ∙ p));
  few = are.few;
}

-- ---- what calls answer, of a Directory that is seen as its entries' values

pub absent : (stamps : List (List ℕ × ℕ)) (entries : List Entry) (next : ℕ) (name : List ℕ) (now : List (List ℕ × Value))
    → AreStamped stamps entries next → None ≡ look_up stamps name → values_of entries ≡ now → None ≡ look_up now name
absent stamps entries next name now are none view =
    sym (look_up-lack name entries (lacks stamps entries next name are (sym none))) ∙ ap (λ (table : List (List ℕ × Value)). look_up table name) view

pub found_at : (stamps : List (List ℕ × ℕ)) (entries : List Entry) (next stamp : ℕ) (name : List ℕ) (now : List (List ℕ × Value))
    (found : Option (List ℕ × Value)) → AreStamped stamps entries next → Some stamp ≡ look_up stamps name
    → found ≡ lookup (is_stamp stamp) entries → values_of entries ≡ now → option_map (λ (v : List ℕ × Value). v.1) found ≡ look_up now name
found_at stamps entries next stamp name now found are is here view =
    ap (λ (o : Option (List ℕ × Value)). option_map (λ (v : List ℕ × Value). v.1) o) here
    ∙ sym (look_up-values (is_stamp stamp) name entries (agree stamps entries next stamp name are (sym is)))
    ∙ ap (λ (table : List (List ℕ × Value)). look_up table name) view

without_name-lack : (name : List ℕ) (entries : List Entry) → Lack name entries → without_name (values_of entries) name ≡ values_of entries
without_name-lack name [] lack = refl
without_name-lack name (entry ∷ entries) lack =
    ap (λ (b : Bool). cond b (values_of entries) (entry.1 ∷ without_name (values_of entries) name)) (lack 0 entry refl)
    ∙ ap (λ xs. entry.1 ∷ xs) (without_name-lack name entries (λ place e at. lack (suc place) e at))

pub absent_stays : (stamps : List (List ℕ × ℕ)) (entries : List Entry) (next : ℕ) (name : List ℕ) (now : List (List ℕ × Value))
    → AreStamped stamps entries next → None ≡ look_up stamps name → values_of entries ≡ now → values_of entries ≡ without_name now name
absent_stays stamps entries next name now are none view =
    sym (without_name-lack name entries (lacks stamps entries next name are (sym none)))
    ∙ ap (λ (table : List (List ℕ × Value)). without_name table name) view

pub taken_away : (stamps : List (List ℕ × ℕ)) (entries others : List Entry) (next stamp : ℕ) (name : List ℕ) (now : List (List ℕ × Value))
    → AreStamped stamps entries next → Some stamp ≡ look_up stamps name → others ≡ remove_entry (is_stamp stamp) entries
    → values_of entries ≡ now → values_of others ≡ without_name now name
taken_away stamps entries others next stamp name now are is gone view =
    ap (λ (es : List Entry). values_of es) gone
    ∙ sym (without_name-values (is_stamp stamp) name entries (agree stamps entries next stamp name are (sym is)))
    ∙ ap (λ (table : List (List ℕ × Value)). without_name table name) view

-- ---- a new name

-- A name that isn't there has the next stamp.
pub begun : (old new : List (List ℕ × ℕ)) (entries : List Entry) (next : ℕ) (name : List ℕ) (now : List (List ℕ × Value))
    → AreStamped old entries next → values_of entries ≡ now → look_up now name ≡ None → look_up new name ≡ Some next → Stay name old new
    → AreStamped new entries (next + 1)
begun old new entries next name now are view none is stays =
    stamped-new old new entries next name are
    (lack-of name entries (ap (λ (table : List (List ℕ × Value)). look_up table name) view ∙ none)) is stays

-- The same, once its entry is there.
pub begun_with : (old new : List (List ℕ × ℕ)) (entries others : List Entry) (next : ℕ) (name : List ℕ) (value : Value) (now : List (List ℕ × Value))
    → AreStamped old entries next → values_of entries ≡ now → look_up now name ≡ None → look_up new name ≡ Some next → Stay name old new
    → length entries < 4294967295 → others ≡ insert_entry nat_cmp entries next (name, value) → AreStamped new others (next + 1)
begun_with old new entries others next name value now are view none is stays few there =
    subst (λ (es : List Entry). AreStamped new es (next + 1)) (sym there)
    (stamped-entry new entries next name value (begun old new entries next name now are view none is stays)
    (stand_below old entries next are) is few)

values-append : (entries : List Entry) (last : Entry) → values_of (entries ++ last ∷ []) ≡ values_of entries ++ last.1 ∷ []
values-append [] last = refl
values-append (entry ∷ entries) last = ap (λ xs. entry.1 ∷ xs) (values-append entries last)

pub appended : (stamps : List (List ℕ × ℕ)) (entries others : List Entry) (next : ℕ) (name : List ℕ) (value : Value) (now : List (List ℕ × Value))
    → AreStamped stamps entries next → values_of entries ≡ now → others ≡ insert_entry nat_cmp entries next (name, value)
    → values_of others ≡ now ++ (name, value) ∷ []
appended stamps entries others next name value now are view there =
    ap (λ (es : List Entry). values_of es) (there ∙ insert_entry-last entries next (name, value) (stand_below stamps entries next are))
    ∙ values-append entries (next, (name, value)) ∙ ap (λ (table : List (List ℕ × Value)). table ++ (name, value) ∷ []) view

-- A name that isn't there is put last.
pub put_new : (name : List ℕ) (value : Value) (table : List (List ℕ × Value)) → look_up table name ≡ None
    → with_entry table name value ≡ table ++ (name, value) ∷ []
put_new name value [] none = refl
put_new name value (entry ∷ table) none = go (bytes_eq name entry.0) (put_new name value table) none
  where
    go : (here : Bool) → (look_up table name ≡ None → with_entry table name value ≡ table ++ (name, value) ∷ [])
        → cond here (Some entry.1) (look_up table name) ≡ None
        → cond here ((entry.0, value) ∷ table) (entry ∷ with_entry table name value) ≡ entry ∷ (table ++ (name, value) ∷ [])
    go true later is = absurd cc
    go false later is = ap (λ xs. entry ∷ xs) (later is)
