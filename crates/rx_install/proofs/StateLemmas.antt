-- The steps of an installation keep what is known of it.
use Rattle.std.proofs.Common.{◌≡◌, ◌≢◌, ◌⊎◌, ℕ, suc, zero, ◌+◌, ◌<◌, ◌≤◌, Bool, true, false, cond, nat_eq, nat_lt, List, [], ◌∷◌, ◌++◌, length, set, map, slice_get, Option, Some, refl, sym, ap, subst, ◌∙◌, inl, inr, arith}
use Rattle.std.specs.Prelude.{Contains, IsTrue, is_some, slice_index_or}
use Rattle.std.specs.Ordering.{nat_cmp}
use Rattle.std.specs.List.{list_any}
use Rattle.std.specs.Str.{bytes_eq}
use Rattle.std.specs.BTreeMap.{is_at}
use Rattle.std.specs.BTreeSet.{BTreeSet, Updates, contains}
use Rattle.std.proofs.lemmas.List.{get_or_default, length-map}
use Rattle.std.proofs.lemmas.List.Elements.{Contains-append_left, Contains-push, Contains-push_cases}
use Rattle.std.proofs.lemmas.Option.{same_Some, slice_get_within}
use Rattle.rx_tree.specs.declared.class.ClassDef.{ClassDef}
use Rattle.rx_classes.specs.Installing.{missing_name}
use Rattle.rx_install.specs.declared.waiting.Waiter.{Waiter}
use Rattle.rx_install.specs.declared.installation.Installation.{Installation}
use Rattle.rx_install.specs.Waiting.{Changes, IsWaiting, first_missing, waiters}
use Rattle.rx_install.specs.States.{IsFoundReady, IsFoundWaiting, IsLeft, IsListed, IsLookedAt, IsPending, IsReady, IsSettled, IsSound, SameClasses, WaitsFor, from_place, never_looked_at}
use Rattle.rx_install.proofs.NameLemmas.{bytes_eq-same, same_bytes, waiting-missing}
use Rattle.rx_install.proofs.OrderLemmas.{Lacks}

abbrev Table : Type 0
Table = List (List ℕ × List Waiter)

-- ---- cases

bool-case : (b : Bool) (P : Type 0) → (b ≡ true → P) → (b ≡ false → P) → P
bool-case true P f g = f refl
bool-case false P f g = g refl

either : {A B : Type 0} (P : Type 0) → (A → P) → (B → P) → A ⊎ B → P
either P f g (inl a) = f a
either P f g (inr b) = g b

pub cover : {A B C : Type 0} (P : Type 0) → (A → P) → (B → P) → (C → P) → A ⊎ (B ⊎ C) → P
cover P f g h (inl a) = f a
cover P f g h (inr rest) = either P g h rest

eq-true : (x y : ℕ) → nat_eq x y ≡ true → x ≡ y
eq-true x y is = grind arith

eq-false : (x y : ℕ) → nat_eq x y ≡ false → x ≢ y
eq-false x y is = grind arith

eq-differ : (x y : ℕ) → x ≢ y → nat_eq x y ≡ false
eq-differ x y is = grind arith

eq-same : (x : ℕ) → nat_eq x x ≡ true
eq-same x = grind arith

pub place-case : (x y : ℕ) (P : Type 0) → (x ≡ y → P) → (x ≢ y → P) → P
place-case x y P f g = bool-case (nat_eq x y) P (λ is. f (eq-true x y is)) (λ is. g (eq-false x y is))

not-both : (x y : ℕ) (P : Type 0) → nat_lt x y ≡ true → nat_eq x y ≡ true → P
not-both x y P is is' = absurd (grind arith)

-- ---- the set of the places that are ready

at-by : (x y : ℕ) (less same : Bool) → nat_lt x y ≡ less → nat_eq x y ≡ same → is_at (nat_cmp x) y ≡ same
at-by x y true true is is' = not-both x y (is_at (nat_cmp x) y ≡ true) is is'
at-by x y true false is is' = rw is refl
at-by x y false true is is' = rw is (rw is' refl)
at-by x y false false is is' = rw is (rw is' refl)

at-eq : (x y : ℕ) → is_at (nat_cmp x) y ≡ nat_eq x y
at-eq x y = at-by x y (nat_lt x y) (nat_eq x y) refl refl

module _ (old new : BTreeSet ℕ) (place : ℕ) (there : Bool) (updates : Updates nat_cmp old new place there) where
  pub contains-other : (q : ℕ) → place ≢ q → contains nat_cmp new q ≡ contains nat_cmp old q
  contains-other q other =
      updates.0 q ∙ ap (λ (b : Bool). cond b there (contains nat_cmp old q)) (at-eq place q ∙ eq-differ place q other)

  pub contains-here : contains nat_cmp new place ≡ there
  contains-here = updates.0 place ∙ ap (λ (b : Bool). cond b there (contains nat_cmp old place)) (at-eq place place ∙ eq-same place)

-- ---- the table of those that wait

module _ (old new : Table) (name : List ℕ) (list : List Waiter) (changes : Changes old new name list) where
  pub changes-case : (other : List ℕ) (P : Type 0) → (other ≡ name → waiters new other ≡ list → P)
      → (bytes_eq other name ≡ false → waiters new other ≡ waiters old other → P) → P
  changes-case other P f g =
      bool-case (bytes_eq other name) P
      (λ is. f (same_bytes other name is) (changes other ∙ ap (λ (b : Bool). cond b list (waiters old other)) is))
      (λ is. g is (changes other ∙ ap (λ (b : Bool). cond b list (waiters old other)) is))

  changes-here : waiters new name ≡ list
  changes-here = changes name ∙ ap (λ (b : Bool). cond b list (waiters old name)) (bytes_eq-same name name refl)

-- ---- places

pub set-other : {A : Type 0} (xs : List A) (place k : ℕ) (y : A) → place ≢ k → slice_get (set xs place y) k ≡ slice_get xs k
set-other [] place k y other = refl
set-other (x ∷ xs) zero zero y other = absurd (other refl)
set-other (x ∷ xs) zero (suc k) y other = refl
set-other (x ∷ xs) (suc place) zero y other = refl
set-other (x ∷ xs) (suc place) (suc k) y other = set-other xs place k y (λ is. other (ap (λ n. suc n) is))

pub set-here : {A : Type 0} (xs : List A) (place : ℕ) (y x : A) → slice_get (set xs place y) place ≡ Some x → x ≡ y
set-here [] place y x is = absurd cc
set-here (z ∷ xs) zero y x is = sym (same_Some y x is)
set-here (z ∷ xs) (suc place) y x is = set-here xs place y x is

pub same-left : (state : Installation) (place place' : ℕ) (class class' : ClassDef) → place ≡ place' → IsLeft state place class
    → IsLeft state place' class' → class ≡ class'
same-left state place place' class class' same left left' =
    same_Some class class'
    (same_Some (Some class) (Some class') (sym left ∙ ap (λ (p : ℕ). slice_get state.left.items p) same ∙ left'))

pub some-missing : (before : List ClassDef) (class : ClassDef) (place : ℕ) (name : List ℕ) → IsWaiting before class place name → Lacks before class
some-missing before class place name waits = ap (λ (o : Option (List ℕ)). is_some o) (waiting-missing before class place name waits)

-- a class that waits lacks a name
pub listed-lacks : (state : Installation) (pending : Waiter → Type 0) → IsSound state pending → (place : ℕ) (class : ClassDef) → IsLeft state place class
    → IsListed state place → Lacks state.installed class
listed-lacks state pending sound place class left listed =
    let waits = sound.waiting listed.0 listed.1 listed.2 in
    let same = same-left state listed.1.place place waits.0 class listed.3 waits.1 left in
    subst (Lacks state.installed) same (some-missing state.installed waits.0 listed.1.there listed.0 waits.2)

-- ---- a class was looked at

module _ (old new : Installation) (same : SameClasses old new) where
  left-before : (place : ℕ) (class : ClassDef) → IsLeft new place class → IsLeft old place class
  left-before place class left = ap (λ (places : List (Option ClassDef)). slice_get places place) (sym same.left) ∙ left

  left-after : (place : ℕ) (class : ClassDef) → IsLeft old place class → IsLeft new place class
  left-after place class left = ap (λ (places : List (Option ClassDef)). slice_get places place) same.left ∙ left

  ready-after : (place : ℕ) → IsReady old place → IsReady new place
  ready-after place is =
      (is.0, left-after place is.0 is.1, ap (λ (classes : List ClassDef). missing_name classes is.0) same.installed ∙ is.2)

  pending-after : (waiter : Waiter) → IsPending old waiter → IsPending new waiter
  pending-after waiter is = (
    is.0,
    left-after waiter.place is.0 is.1,
    ap (λ (classes : List ClassDef). first_missing classes is.0 waiter.there) same.installed ∙ is.2,
  )

  waits-after : (waiter : Waiter) (name : List ℕ) → WaitsFor old waiter name → WaitsFor new waiter name
  waits-after waiter name is = (
    is.0,
    left-after waiter.place is.0 is.1,
    subst (λ (classes : List ClassDef). IsWaiting classes is.0 waiter.there name) (sym same.installed) is.2,
  )

module _ (old new : Installation) (waiter : Waiter) (pending later : Waiter → Type 0) (sound : IsSound old pending) (same : SameClasses old new)
    (within : (w : Waiter) → later w → pending w) (split : (w : Waiter) → pending w → (w ≡ waiter) ⊎ later w) where
  abbrev Covered : ℕ → Type 0
  Covered place = IsTrue (contains nat_cmp new.ready place) ⊎ (IsListed new place ⊎ ((w : Waiter) × later w × (w.place ≡ place)))

  look-ready : IsFoundReady old new waiter → IsSound new later
  look-ready found = record {
    ready = λ place is.
        place-case waiter.place place (IsReady new place)
        (λ e. subst (IsReady new) e (ready-after old new same waiter.place (found.class, found.here, found.complete)))
        (λ other. ready-after old new same place (sound.ready place (sym (contains-other old.ready new.ready waiter.place true found.added place other) ∙ is)));
    waiting = λ name w has.
        waits-after old new same w name (sound.waiting name w (subst (λ (table : Table). Contains (waiters table name) w) found.others has));
    looked_for = λ w is. pending-after old new same w (sound.looked_for w (within w is));
    covered = λ place class left.
        place-case waiter.place place (Covered place)
        (λ e. inl (subst (λ (p : ℕ). IsTrue (contains nat_cmp new.ready p)) e (contains-here old.ready new.ready waiter.place true found.added)))
        (λ other.
        cover (Covered place)
        (λ is. inl (contains-other old.ready new.ready waiter.place true found.added place other ∙ is))
        (λ listed.
        inr (inl (listed.0, listed.1, subst (λ (table : Table). Contains (waiters table listed.0) listed.1) (sym found.others) listed.2, listed.3)))
        (λ w.
        either (Covered place) (λ e. absurd (other (sym (ap (λ (v : Waiter). v.place) e) ∙ w.2))) (λ is. inr (inr (w.0, is, w.2))) (split w.0 w.1))
        (sound.covered place class (left-before old new same place class left)));
  }

  look-waiting : IsFoundWaiting old new waiter → IsSound new later
  look-waiting found =
      let entry : Waiter = record { place = waiter.place; there = found.place } in
      let list = waiters old.waiting found.name ++ entry ∷ [] in
      record {
        ready = λ place is.
            ready-after old new same place (sound.ready place (subst (λ (set : BTreeSet ℕ). IsTrue (contains nat_cmp set place)) found.others is));
        waiting = λ name w has.
            changes-case old.waiting new.waiting found.name list found.added name (WaitsFor new w name)
            (λ e listed.
            let there = subst (λ (ws : List Waiter). Contains ws w) listed has in
            subst (WaitsFor new w) (sym e)
            (either (WaitsFor new w found.name)
            (λ was. waits-after old new same w found.name (sound.waiting found.name w was))
            (λ is. subst (λ (v : Waiter). WaitsFor new v found.name) is (waits-after old new same entry found.name (found.class, found.here, found.waits)))
            (Contains-push_cases (waiters old.waiting found.name) entry w there)))
            (λ other listed. waits-after old new same w name (sound.waiting name w (subst (λ (ws : List Waiter). Contains ws w) listed has)));
        looked_for = λ w is. pending-after old new same w (sound.looked_for w (within w is));
        covered = λ place class left.
            cover (Covered place)
            (λ is. inl (subst (λ (set : BTreeSet ℕ). IsTrue (contains nat_cmp set place)) (sym found.others) is))
            (λ listed.
            inr (inl (
              listed.0,
              listed.1,
              changes-case old.waiting new.waiting found.name list found.added listed.0 (Contains (waiters new.waiting listed.0) listed.1)
                  (λ e is.
                  subst (λ (ws : List Waiter). Contains ws listed.1) (sym is)
                  (Contains-append_left (waiters old.waiting found.name) (entry ∷ []) listed.1
                  (subst (λ (name : List ℕ). Contains (waiters old.waiting name) listed.1) e listed.2)))
                  (λ other is. subst (λ (ws : List Waiter). Contains ws listed.1) (sym is) listed.2),
              listed.3,
            )))
            (λ w.
            either (Covered place)
            (λ e.
            inr (inl (
              found.name,
              entry,
              subst (λ (ws : List Waiter). Contains ws entry) (sym (changes-here old.waiting new.waiting found.name list found.added))
                  (Contains-push (waiters old.waiting found.name) entry),
              sym (ap (λ (v : Waiter). v.place) e) ∙ w.2,
            )))
            (λ is. inr (inr (w.0, is, w.2))) (split w.0 w.1))
            (sound.covered place class (left-before old new same place class left));
      }

  -- one class less is to be looked at
  pub looked : IsFoundReady old new waiter ⊎ IsFoundWaiting old new waiter → IsSound new later
  looked found = either (IsSound new later) look-ready look-waiting found

-- ---- the beginning

get-within : {A : Type 0} (xs : List A) (k : ℕ) → k < length xs → (x : A) × (slice_get xs k ≡ Some x)
get-within [] k less = absurd (omega (arith, less))
get-within (x ∷ xs) zero less = (x, refl)
get-within (x ∷ xs) (suc k) less = get-within xs k (omega (arith, less))

get-left : (classes : List ClassDef) (k : ℕ) (class : ClassDef) → slice_get classes k ≡ Some class → slice_get (map Some classes) k ≡ Some (Some class)
get-left [] k class is = absurd cc
get-left (first ∷ classes) zero class is = ap (λ (o : Option ClassDef). Some o) is
get-left (first ∷ classes) (suc k) class is = get-left classes k class is

-- all classes are to be looked at
pub begins-sound : (state : Installation) (classes : List ClassDef) (count : ℕ) → state.left.items ≡ map Some classes → count ≡ length state.left.items
    → state.ready.keys ≡ [] → state.waiting ≡ [] → IsSound state (never_looked_at 0 count)
begins-sound state classes count left all none empty =
    let long : count ≡ length classes = all ∙ ap (λ (places : List (Option ClassDef)). length places) left ∙ length-map classes Some in
    record {
      ready = λ place is.
          let never : contains nat_cmp state.ready place ≡ false = ap (λ (keys : List ℕ). list_any (is_at (nat_cmp place)) keys) none in
          absurd cc;
      waiting = λ name w has.
          let never = subst (λ (table : Table). Contains (waiters table name) w) empty has in
          absurd (omega (arith, never.1));
      looked_for = λ w is.
          let found = get-within classes w.place (omega (arith, is.1, long)) in (
            found.0,
            ap (λ (places : List (Option ClassDef)). slice_get places w.place) left ∙ get-left classes w.place found.0 found.1,
            ap (first_missing state.installed found.0) is.2,
          );
      covered = λ place class is.
          let within = slice_get_within state.left.items place (Some class) is in
          inr (inr (record { place = place; there = 0 }, (omega arith, omega (arith, within, all), refl), refl));
    }

same-waiter : (w : Waiter) (place there : ℕ) → w.place ≡ place → w.there ≡ there → w ≡ record { place = place; there = there }
same-waiter w place there is is' =
    let first : w ≡ record { place = place; there = w.there } = ap (λ (p : ℕ). record { place = p; there = w.there }) is in
    first ∙ ap (λ (t : ℕ). record { place = place; there = t }) is'

-- one more is looked at
pub begins-more : (old new : Installation) (place count : ℕ) → IsSound old (never_looked_at place count)
    → IsLookedAt old new (record { place = place; there = 0 }) → IsSound new (never_looked_at (place + 1) count)
begins-more old new place count sound is =
    looked old new (record { place = place; there = 0 }) (never_looked_at place count) (never_looked_at (place + 1) count) sound is.0
    (λ w later. (omega (arith, later.0), later.1, later.2))
    (λ w now.
    place-case w.place place ((w ≡ record { place = place; there = 0 }) ⊎ never_looked_at (place + 1) count w)
    (λ e. inl (same-waiter w place 0 e now.2)) (λ other. inr (omega (arith, now.0, other), now.1, now.2)))
    is.1

pub begins-all : (state : Installation) (place count : ℕ) → count ≤ place → IsSound state (never_looked_at place count) → IsSettled state
begins-all state place count all sound = record {
  ready = sound.ready;
  waiting = sound.waiting;
  looked_for = λ w never. absurd never;
  covered = λ q class is.
      cover (IsTrue (contains nat_cmp state.ready q) ⊎ (IsListed state q ⊎ ((w : Waiter) × ⊥ × (w.place ≡ q))))
      (λ there. inl there) (λ listed. inr (inl listed)) (λ w. absurd (omega (arith, all, w.1.0, w.1.1))) (sound.covered q class is);
}

-- ---- those that are looked at again

pub look-more : (old new : Installation) (list : List Waiter) (k : ℕ) (waiter : Waiter) → k < length list → slice_index_or list k waiter ≡ waiter
    → IsSound old (from_place k list) → IsLookedAt old new waiter → IsSound new (from_place (k + 1) list)
look-more old new list k waiter less here sound is =
    looked old new waiter (from_place k list) (from_place (k + 1) list) sound is.0
    (λ w later. (later.0, omega (arith, later.1), later.2, later.3))
    (λ w now.
    place-case now.0 k ((w ≡ waiter) ⊎ from_place (k + 1) list w)
    (λ e.
    inl (sym now.3 ∙ ap (λ (p : ℕ). slice_index_or list p w) e ∙ get_or_default list k w waiter less ∙ here))
    (λ other. inr (now.0, omega (arith, now.1, other), now.2, now.3)))
    is.1

pub look-all : (state : Installation) (list : List Waiter) (k : ℕ) → length list ≤ k → IsSound state (from_place k list) → IsSettled state
look-all state list k all sound = record {
  ready = sound.ready;
  waiting = sound.waiting;
  looked_for = λ w never. absurd never;
  covered = λ q class is.
      cover (IsTrue (contains nat_cmp state.ready q) ⊎ (IsListed state q ⊎ ((w : Waiter) × ⊥ × (w.place ≡ q))))
      (λ there. inl there) (λ listed. inr (inl listed)) (λ w. absurd (omega (arith, all, w.1.1, w.1.2))) (sound.covered q class is);
}

pub same-after : (old mid new : Installation) → SameClasses old mid → SameClasses mid new → SameClasses old new
same-after old mid new first second = record {
  installed = second.installed ∙ first.installed;
  left = second.left ∙ first.left;
}
