-- The next class is installed, until none is ready.
use Rattle.std.proofs.Common.{◌≡◌, ◌≢◌, ◌⊎◌, ℕ, ◌<◌, Bool, true, false, nat_eq, nat_lt, List, [], ◌∷◌, ◌++◌, length, take, set, slice_get, Option, Some, None, Result, Ok, Err, refl, sym, ap, subst, ◌∙◌, inl, inr, arith}
use Rattle.std.specs.Prelude.{All, Contains, IfErr, IfOk, IsSome, IsTrue, find, is_some, slice_index_or}
use Rattle.std.specs.Ordering.{is_gt, nat_cmp}
use Rattle.std.specs.List.{list_any}
use Rattle.std.specs.BTreeMap.{is_at}
use Rattle.std.specs.BTreeSet.{IsLowerBound, Updates, contains}
use Rattle.std.proofs.lemmas.Option.{same_Some, slice_get-get_or, slice_get_within}
use Rattle.rx_tree.specs.declared.class.ClassDef.{ClassDef}
use Rattle.rx_classes.specs.Installing.{missing_name}
use Rattle.rx_install.specs.declared.refused.InstallRefused.{InstallRefused}
use Rattle.rx_install.specs.declared.refused.InstallRefused.TheVariants.{NoOrder, OutOfMemory}
use Rattle.rx_install.specs.declared.waiting.Waiter.{Waiter}
use Rattle.rx_install.specs.declared.installation.Installation.{Installation}
use Rattle.rx_install.specs.Installation.{Installs, IsCaused, IsInstallationOrder, IsNext, IsStuck}
use Rattle.rx_install.specs.Waiting.{Changes, IsWaiting, names_of, waiters}
use Rattle.rx_install.specs.States.{Goes, IsLeft, IsListed, IsNextInstalled, IsOutcome, IsReady, IsSettled, IsSound, WaitsFor, from_place, left_of}
use Rattle.rx_install.proofs.NameLemmas.{is_missing, none-more, waits-still}
use Rattle.rx_install.proofs.OrderLemmas.{Lacks, all-lack, installs-one_more, never-both, next-at, stuck-no_order}
use Rattle.rx_install.proofs.StateLemmas.{changes-case, contains-here, contains-other, cover, listed-lacks, place-case, same-left, set-here, set-other, some-missing}

-- ---- the next class is installed

greater-by : (x y : ℕ) (less same : Bool) → nat_lt x y ≡ less → nat_eq x y ≡ same → y < x → is_gt (nat_cmp x y) ≡ true
greater-by x y true same is is' below = absurd (grind arith)
greater-by x y false true is is' below = absurd (grind arith)
greater-by x y false false is is' below = rw is (rw is' refl)

greater : (x y : ℕ) → y < x → is_gt (nat_cmp x y) ≡ true
greater x y below = greater-by x y (nat_lt x y) (nat_eq x y) refl refl below

module _ (old mid : Installation) (place : ℕ) (class : ClassDef) (settled : IsSettled old) (here : IsLeft old place class)
    (there : IsTrue (contains nat_cmp old.ready place)) (installed : mid.installed ≡ old.installed ++ class ∷ [])
    (left : mid.left.items ≡ set old.left.items place None) (ready : Updates nat_cmp old.ready mid.ready place false)
    (changes : Changes old.waiting mid.waiting class.name []) where
  complete : missing_name old.installed class ≡ None
  complete =
      let is = settled.ready place there in
      subst (λ (c : ClassDef). missing_name old.installed c ≡ None) (same-left old place place is.0 class refl is.1 here) is.2

  apart : (waiter : Waiter) (name : List ℕ) → WaitsFor old waiter name → place ≢ waiter.place
  apart waiter name waits same =
      let is = same-left old place waiter.place class waits.0 same here waits.1 in
      never-both (missing_name old.installed class) ⊥
      (subst (Lacks old.installed) (sym is) (some-missing old.installed waits.0 waiter.there name waits.2)) complete

  still-left : (q : ℕ) (c : ClassDef) → place ≢ q → IsLeft old q c → IsLeft mid q c
  still-left q c other is =
      ap (λ (places : List (Option ClassDef)). slice_get places q) left ∙ set-other old.left.items place q None other ∙ is

  was-left : (q : ℕ) (c : ClassDef) → IsLeft mid q c → (place ≢ q) × IsLeft old q c
  was-left q c is =
      let at : slice_get (set old.left.items place None) q ≡ Some (Some c) =
      ap (λ (places : List (Option ClassDef)). slice_get places q) (sym left) ∙ is in
      let other : place ≢ q =
      λ e.
      let none : Some c ≡ None =
      set-here old.left.items place None (Some c)
      (subst (λ (p : ℕ). slice_get (set old.left.items place None) p ≡ Some (Some c)) (sym e) at) in
      cc in
      (other, sym (set-other old.left.items place q None other) ∙ at)

  still-none : (c : ClassDef) (names : List (List ℕ)) → find (is_missing old.installed) names ≡ None → find (is_missing mid.installed) names ≡ None
  still-none c names none =
      subst (λ (classes : List ClassDef). find (is_missing classes) names ≡ None) (sym installed) (none-more old.installed class names none)

  abbrev IsCovered : ℕ → Type 0
  IsCovered q =
      IsTrue (contains nat_cmp mid.ready q)
      ⊎ (IsListed mid q ⊎ ((w : Waiter) × from_place 0 (waiters old.waiting class.name) w × (w.place ≡ q)))

  -- those that waited for its name are to be looked at
  pub installs-sound : IsSound mid (from_place 0 (waiters old.waiting class.name))
  installs-sound = record {
    ready = λ q is.
        place-case place q (IsReady mid q)
        (λ e.
        let gone : contains nat_cmp mid.ready q ≡ false =
        subst (λ (p : ℕ). contains nat_cmp mid.ready p ≡ false) e (contains-here old.ready mid.ready place false ready) in
        absurd cc)
        (λ other.
        let was = settled.ready q (sym (contains-other old.ready mid.ready place false ready q other) ∙ is) in
        (was.0, still-left q was.0 other was.1, still-none was.0 (names_of was.0) was.2));
    waiting = λ name w has.
        changes-case old.waiting mid.waiting class.name [] changes name (WaitsFor mid w name)
        (λ e listed.
        let none = subst (λ (ws : List Waiter). Contains ws w) listed has in
        absurd (omega (arith, none.1)))
        (λ other listed.
        let was = settled.waiting name w (subst (λ (ws : List Waiter). Contains ws w) listed has) in (
          was.0,
          still-left w.place was.0 (apart w name was) was.1,
          subst (λ (classes : List ClassDef). IsWaiting classes was.0 w.there name) (sym installed)
              (waits-still old.installed class was.0 w.there name other was.2),
        ));
    looked_for = λ w from.
        let was = settled.waiting class.name w (from.0, from.2, from.3) in
        (was.0, still-left w.place was.0 (apart w class.name was) was.1, still-none was.0 (take w.there (names_of was.0)) was.2.earlier);
    covered = λ q c is.
        let was = was-left q c is in
        cover (IsCovered q)
        (λ there. inl (contains-other old.ready mid.ready place false ready q was.0 ∙ there))
        (λ listed.
        changes-case old.waiting mid.waiting class.name [] changes listed.0 (IsCovered q)
        (λ e none.
        let has = subst (λ (name : List ℕ). Contains (waiters old.waiting name) listed.1) e listed.2 in
        inr (inr (listed.1, (has.0, omega arith, has.1, has.2), listed.3)))
        (λ other same. inr (inl (listed.0, listed.1, subst (λ (ws : List Waiter). Contains ws listed.1) (sym same) listed.2, listed.3))))
        (λ none. absurd none.1)
        (settled.covered q c was.1);
  }

  -- it was the next one
  pub installs-next : IsLowerBound nat_cmp old.ready place → IsNext old.installed (left_of old.left.items) class (left_of mid.left.items)
  installs-next least =
      subst (λ (places : List (Option ClassDef)). IsNext old.installed (left_of old.left.items) class (left_of places)) (sym left)
      (next-at old.installed old.left.items place class here complete
      (λ k other below is.
      cover (Lacks old.installed other)
      (λ there.
      let above : is_gt (nat_cmp place k) ≡ true = greater place k below in
      let least' : is_gt (nat_cmp place k) ≡ false = least k there in
      absurd cc)
      (λ listed. listed-lacks old (λ (w : Waiter). ⊥) settled k other is listed)
      (λ none. absurd none.1)
      (settled.covered k other is)))

-- where none is ready, each that is left lacks a name
pub end-lacks : (state : Installation) → IsSettled state → state.ready.keys ≡ [] → All (Lacks state.installed) (left_of state.left.items)
end-lacks state settled none =
    all-lack state.installed state.left.items
    (λ k other is.
    cover (Lacks state.installed other)
    (λ there.
    let empty : contains nat_cmp state.ready k ≡ false = ap (λ (keys : List ℕ). list_any (is_at (nat_cmp k)) keys) none in
    absurd cc)
    (λ listed. listed-lacks state (λ (w : Waiter). ⊥) settled k other is listed)
    (λ never. absurd never.1)
    (settled.covered k other is))

-- ---- what the calls gave

-- no key is there
pub no-keys : (keys : List ℕ) (first : Option ℕ) → first ≡ None → (0 < length keys → IsSome first) → keys ≡ []
no-keys [] first none is = refl
no-keys (key ∷ keys) first none is = never-both first (key ∷ keys ≡ []) (is (omega arith)) none

-- the class that was taken from a place
pub taken-here : (places : List (Option ClassDef)) (place : ℕ) (found taken : Option ClassDef) (class : ClassDef) → place < length places
    → found ≡ slice_index_or places place found → taken ≡ found → taken ≡ Some class → slice_get places place ≡ Some (Some class)
taken-here places place found taken class less read same is =
    slice_get-get_or places place found less
    ∙ ap (λ (o : Option ClassDef). Some o) (sym read ∙ sym same ∙ is)

pub some-taken : (places : List (Option ClassDef)) (place : ℕ) (found taken : Option ClassDef) (class : ClassDef)
    → slice_get places place ≡ Some (Some class) → found ≡ slice_index_or places place found → taken ≡ found → IsSome taken
some-taken places place found taken class here read same =
    let less = slice_get_within places place (Some class) here in
    let is : found ≡ Some class =
    read ∙ same_Some (slice_index_or places place found) (Some class) (sym (slice_get-get_or places place found less) ∙ here) in
    ap (λ (o : Option ClassDef). is_some o) (same ∙ is)

-- ---- the next class, from its place to the order

-- The class of a place was taken out and installed. Those of the list waited for its name.
pub record IsTakenOut (old mid : Installation) (place : ℕ) (class : ClassDef) (list : List Waiter) : Type 0 where
  pub here : IsLeft old place class
  pub there : IsTrue (contains nat_cmp old.ready place)
  pub least : IsLowerBound nat_cmp old.ready place
  pub installed : mid.installed ≡ old.installed ++ class ∷ []
  pub left : mid.left.items ≡ set old.left.items place None
  pub ready : Updates nat_cmp old.ready mid.ready place false
  pub waiting : Changes old.waiting mid.waiting class.name []
  pub woken : list ≡ waiters old.waiting class.name

-- It was the next one, and those are to be looked at.
pub taken-next : (old mid : Installation) (place : ℕ) (class : ClassDef) (list : List Waiter) → IsSettled old
    → IsTakenOut old mid place class list → IsNextInstalled old mid (from_place 0 list)
taken-next old mid place class list settled out = record {
  class = class;
  next = installs-next old mid place class settled out.here out.there out.installed out.left out.ready out.waiting out.least;
  installed = out.installed;
  sound =
      subst (λ (ws : List Waiter). IsSound mid (from_place 0 ws)) (sym out.woken)
      (installs-sound old mid place class settled out.here out.there out.installed out.left out.ready out.waiting);
}

-- ---- the whole

refused-by : (classes : List ClassDef) (state : Installation) (line : ℕ) → Installs [] classes state.installed (left_of state.left.items)
    → All (Lacks state.installed) (left_of state.left.items) → IsOutcome state (Err (NoOrder line)) → IsStuck classes line
refused-by classes state line way end is = record {
  order = state.installed;
  first = is.0;
  others = is.1;
  installed = subst (Installs [] classes state.installed) is.2 way;
  waiting = subst (All (Lacks state.installed)) is.2 end;
  is_line = is.3;
}

-- a refusal at the end has its cause
pub refused-caused : (classes : List ClassDef) (state : Installation) (result : Result (List ClassDef) InstallRefused)
    → Installs [] classes state.installed (left_of state.left.items) → All (Lacks state.installed) (left_of state.left.items)
    → IsOutcome state result → IfErr result (IsCaused classes)
refused-caused classes state (Ok order) way end is = tt
refused-caused classes state (Err OutOfMemory) way end is = tt
refused-caused classes state (Err (NoOrder line)) way end is =
    let stuck = refused-by classes state line way end is in
    (stuck, stuck-no_order classes line stuck)

-- an order is that of all
pub outcome-ordered : (classes : List ClassDef) (state : Installation) (result : Result (List ClassDef) InstallRefused)
    → Installs [] classes state.installed (left_of state.left.items) → IsOutcome state result → IfOk result (IsInstallationOrder classes)
outcome-ordered classes state (Err refusal) way is = tt
outcome-ordered classes state (Ok order) way is =
    subst (IsInstallationOrder classes) (sym is.0) (subst (Installs [] classes state.installed) is.1 way)

-- one class more on the way
pub goes-on : (classes : List ClassDef) (old new : Installation) (went : Bool) → went ≡ true → Goes old new went
    → Installs [] classes old.installed (left_of old.left.items) → IsSettled new × Installs [] classes new.installed (left_of new.left.items)
goes-on classes old new false is goes way = absurd cc
goes-on classes old new true is goes way = (
  goes.sound,
  subst (λ (order : List ClassDef). Installs [] classes order (left_of new.left.items)) (sym goes.installed)
      (installs-one_more [] classes old.installed (left_of old.left.items) goes.class (left_of new.left.items) way goes.next),
)

-- the end of the way
pub goes-no_further : (classes : List ClassDef) (old new : Installation) (went : Bool) → went ≡ false → Goes old new went
    → Installs [] classes old.installed (left_of old.left.items)
    → Installs [] classes new.installed (left_of new.left.items) × All (Lacks new.installed) (left_of new.left.items)
goes-no_further classes old new true is goes way = absurd cc
goes-no_further classes old new false is goes way =
    let same = goes.same in
    let left : left_of new.left.items ≡ left_of old.left.items = ap left_of same.left in (
      subst (λ (order : List ClassDef). Installs [] classes order (left_of new.left.items)) (sym same.installed)
          (subst (Installs [] classes old.installed) (sym left) way),
      subst (λ (order : List ClassDef). All (Lacks order) (left_of new.left.items)) (sym same.installed)
          (subst (All (Lacks old.installed)) (sym left) goes.waiting),
    )
