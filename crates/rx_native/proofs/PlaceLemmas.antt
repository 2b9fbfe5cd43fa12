-- The places of a new Array, as its items are put.
use Rattle.std.proofs.Common.{◌≡◌, ℕ, zero, suc, ◌+◌, ◌-◌, ◌<◌, List, [], ◌∷◌, ◌++◌, length, take, get_or, Option, Some, None, refl, sym, ap, ◌∙◌, subst, arith, append_assoc, length-append}
use Rattle.std.specs.Prelude.{map, replicate, slice_get, slice_set}
use Rattle.std.specs.Option.{option_to_list}
use Rattle.std.proofs.Math.Seq.{take-suc}
use Rattle.std.proofs.lemmas.List.Elements.{filter_map-append}
use Rattle.std.proofs.lemmas.List.{length-take, map-append, take_all}
use Rattle.rx_tree.specs.Object.{Object, Places}
use Rattle.rx_heap.specs.declared.kind.Kind.TheVariants as kind
use Rattle.rx_heap.specs.Objects.{IsOfKind, kind_by, places_at, places_in, with_contents}
use Rattle.rx_native.specs.Arguments.{Arguments}
use Rattle.rx_native.specs.Outcomes.{with_object}
use Rattle.rx_tree.specs.declared.value.Value.{Value}
use Rattle.rx_heap.specs.Arrays.{item_in, with_item, with_size}
use Rattle.rx_native.specs.ArrayMethods.{items_of}
use Rattle.rx_native.proofs.HeapLemmas.{made-contents, made-there, made-with, slice_set-last}

-- ---- items without gaps

pub length-map-Some : (items : List Value) → length (map Some items) ≡ length items
length-map-Some [] = refl
length-map-Some (item ∷ items) = ap suc (length-map-Some items)

-- an item is put behind the others
pub put-behind : (places : List (Option Value)) (item : Value) → with_item places (length places) item ≡ places ++ Some item ∷ []
put-behind places item =
    let one : length places + 1 - length places ≡ 1 = omega arith in
    ap (λ (n : ℕ). slice_set (places ++ replicate n None) (length places) (Some item)) one
    ∙ slice_set-last places None (Some item)

pub put-item : (items : List Value) (item : Value) (place : ℕ) → place ≡ length items → with_item (map Some items) place item ≡ map Some items ++ Some item ∷ []
put-item items item place is =
    ap (λ (n : ℕ). with_item (map Some items) n item) (is ∙ sym (length-map-Some items)) ∙ put-behind (map Some items) item

-- ---- arguments, of which some are left out

pub append-nil : (places : List (Option Value)) → places ++ [] ≡ places
append-nil [] = refl
append-nil (place ∷ places) = ap (λ (ps : List (Option Value)). place ∷ ps) (append-nil places)

pub set-between : (before after : List (Option Value)) (old new : Option Value) → slice_set (before ++ old ∷ after) (length before) new ≡ before ++ new ∷ after
set-between [] after old new = refl
set-between (place ∷ before) after old new = ap (λ (ps : List (Option Value)). place ∷ ps) (set-between before after old new)

-- an item is put at a place that is there
pub put-between : (before after : List (Option Value)) (old : Option Value) (item : Value) → with_item (before ++ old ∷ after) (length before) item ≡ before ++ Some item ∷ after
put-between before after old item =
    let none : length before + 1 - length (before ++ old ∷ after) ≡ 0 = omega (arith, length-append before (old ∷ after)) in
    ap (λ (n : ℕ). slice_set ((before ++ old ∷ after) ++ replicate n None) (length before) (Some item)) none
    ∙ (ap (λ (ps : List (Option Value)). slice_set ps (length before) (Some item)) (append-nil (before ++ old ∷ after))
    ∙ set-between before after old (Some item))

-- ---- an Array that was just made, as its places change

-- it is an Array
pub made-array : (objects heap : List Object) (class array : ℕ) (places : List (Option Value)) → heap ≡ with_object objects class (Places places)
    → array ≡ length objects + 1 → IsOfKind heap array kind.Array
made-array objects heap class array places is at =
    subst (λ (h : List Object). IsOfKind h array kind.Array) (sym is)
    (subst (λ (a : ℕ). IsOfKind (with_object objects class (Places places)) a kind.Array) (sym at)
    (made-there objects class (Places places), ap kind_by (made-contents objects class (Places places))))

-- its places
pub made-places : (objects heap : List Object) (class array : ℕ) (places : List (Option Value)) → heap ≡ with_object objects class (Places places)
    → array ≡ length objects + 1 → places_at heap array ≡ places
made-places objects heap class array places is at =
    ap (λ (h : List Object). places_at h array) is
    ∙ (ap (λ (a : ℕ). places_at (with_object objects class (Places places)) a) at
    ∙ ap places_in (made-contents objects class (Places places)))

-- once it has others
pub made-again : (objects heap : List Object) (class array : ℕ) (places more : List (Option Value)) → heap ≡ with_object objects class (Places places)
    → array ≡ length objects + 1 → with_contents heap array (Places more) ≡ with_object objects class (Places more)
made-again objects heap class array places more is at =
    ap (λ (h : List Object). with_contents h array (Places more)) is
    ∙ (ap (λ (a : ℕ). with_contents (with_object objects class (Places places)) a (Places more)) at
    ∙ made-with objects class (Places places) (Places more))

-- once an item is put
pub made-put : (objects heap : List Object) (class array : ℕ) (places more : List (Option Value)) (place : ℕ) (item : Value)
    → heap ≡ with_object objects class (Places places) → array ≡ length objects + 1 → with_item places place item ≡ more
    → with_contents heap array (Places (with_item (places_at heap array) place item)) ≡ with_object objects class (Places more)
made-put objects heap class array places more place item is at put =
    made-again objects heap class array places (with_item (places_at heap array) place item) is at
    ∙ ap (λ (ps : List (Option Value)). with_object objects class (Places ps))
    (ap (λ (ps : List (Option Value)). with_item ps place item) (made-places objects heap class array places is at) ∙ put)

-- once its size is made larger
pub made-size : (objects heap : List Object) (class array size : ℕ) → heap ≡ with_object objects class (Places []) → array ≡ length objects + 1
    → with_contents heap array (Places (with_size (places_at heap array) size)) ≡ with_object objects class (Places (replicate (size - 0) None))
made-size objects heap class array size is at =
    made-again objects heap class array [] (with_size (places_at heap array) size) is at
    ∙ ap (λ (ps : List (Option Value)). with_object objects class (Places (with_size ps size))) (made-places objects heap class array [] is at)

-- ---- turns of the loops

-- the next item is put behind those before it
pub next-item : (items : List Value) (place : ℕ) (d : Value) → place < length items
    → with_item (map Some (take place items)) place (get_or items place d) ≡ map Some (take (suc place) items)
next-item items place d within =
    put-item (take place items) (get_or items place d) place (omega (arith, within, length-take place items))
    ∙ (sym (map-append Some (take place items) (get_or items place d ∷ []))
    ∙ ap (map Some) (sym (take-suc items place d within)))

none-next : (n place : ℕ) → place < n → replicate {A = Option Value} (n - place) None ≡ None ∷ replicate (n - suc place) None
none-next n place within =
    let more : n - place ≡ suc (n - suc place) = omega (arith, within) in ap (λ (m : ℕ). replicate {A = Option Value} m None) more

taken-next : (args : Arguments) (place : ℕ) (d : Option Value) → place < length args
    → take (suc place) args ++ replicate (length args - suc place) None ≡ take place args ++ get_or args place d ∷ replicate (length args - suc place) None
taken-next args place d within =
    ap (λ (ps : List (Option Value)). ps ++ replicate (length args - suc place) None) (take-suc args place d within)
    ∙ append_assoc (take place args) (get_or args place d ∷ []) (replicate (length args - suc place) None)

-- an argument that is left out
pub next-none : (args : Arguments) (place : ℕ) (d : Option Value) → place < length args → get_or args place d ≡ None
    → take place args ++ replicate (length args - place) None ≡ take (suc place) args ++ replicate (length args - suc place) None
next-none args place d within is =
    ap (λ (ps : List (Option Value)). take place args ++ ps) (none-next (length args) place within)
    ∙ (ap (λ (a : Option Value). take place args ++ a ∷ replicate (length args - suc place) None) (sym is)
    ∙ sym (taken-next args place d within))

-- an argument that is given is put at its place
pub next-given : (args : Arguments) (place : ℕ) (d : Option Value) (item : Value) → place < length args → get_or args place d ≡ Some item
    → with_item (take place args ++ replicate (length args - place) None) place item
    ≡ take (suc place) args ++ replicate (length args - suc place) None
next-given args place d item within is =
    let taken : place ≡ length (take place args) = omega (arith, within, length-take place args) in
    ap (λ (ps : List (Option Value)). with_item (take place args ++ ps) place item) (none-next (length args) place within)
    ∙ (ap (λ (n : ℕ). with_item (take place args ++ None ∷ replicate (length args - suc place) None) n item) taken
    ∙ (put-between (take place args) (replicate (length args - suc place) None) None item
    ∙ (ap (λ (a : Option Value). take place args ++ a ∷ replicate (length args - suc place) None) (sym is)
    ∙ sym (taken-next args place d within))))

-- all arguments were put
pub all-given : (args : Arguments) (place : ℕ) → place ≡ length args → take place args ++ replicate (length args - place) None ≡ args
all-given args place is =
    let none : length args - length args ≡ 0 = omega arith in
    ap (λ (n : ℕ). take n args ++ replicate (length args - n) None) is
    ∙ (ap (λ (n : ℕ). take (length args) args ++ replicate n None) none
    ∙ (append-nil (take (length args) args) ∙ take_all (length args) args (omega arith)))

pub item-turn : (items : List Value) (i place : ℕ) (d item : Value) → i ≡ place → place < length items → item ≡ get_or items place d
    → with_item (map Some (take place items)) (i + 1 - 1) item ≡ map Some (take (place + 1) items)
item-turn items i place d item same within is =
    let at : i + 1 - 1 ≡ place = omega (arith, same) in
    let next : suc place ≡ place + 1 = omega arith in
    ap (λ (p : ℕ). with_item (map Some (take place items)) p item) at
    ∙ (ap (λ (v : Value). with_item (map Some (take place items)) place v) is
    ∙ (next-item items place d within ∙ ap (λ (n : ℕ). map Some (take n items)) next))

pub given-turn : (args : Arguments) (i place : ℕ) (d : Option Value) (item : Value) → i ≡ place → place < length args → get_or args place d ≡ Some item
    → with_item (take place args ++ replicate (length args - place) None) (i + 1 - 1) item
    ≡ take (place + 1) args ++ replicate (length args - (place + 1)) None
given-turn args i place d item same within is =
    let at : i + 1 - 1 ≡ place = omega (arith, same) in
    let next : suc place ≡ place + 1 = omega arith in
    ap (λ (p : ℕ). with_item (take place args ++ replicate (length args - place) None) p item) at
    ∙ (next-given args place d item within is ∙ ap (λ (n : ℕ). take n args ++ replicate (length args - n) None) next)

pub none-turn : (args : Arguments) (place : ℕ) (d : Option Value) → place < length args → get_or args place d ≡ None
    → take place args ++ replicate (length args - place) None ≡ take (place + 1) args ++ replicate (length args - (place + 1)) None
none-turn args place d within is =
    let next : suc place ≡ place + 1 = omega arith in
    next-none args place d within is ∙ ap (λ (n : ℕ). take n args ++ replicate (length args - n) None) next

-- ---- the items of places

items-turn : (places : List (Option Value)) (place : ℕ) → place < length places
    → items_of (take place places) ++ items_of (item_in places place ∷ []) ≡ items_of (take (place + 1) places)
items-turn places place within =
    let next : suc place ≡ place + 1 = omega arith in
    sym (filter_map-append (λ (p : Option Value). p) (take place places) (item_in places place ∷ []))
    ∙ (ap items_of (sym (take-suc places place None within)) ∙ ap (λ (n : ℕ). items_of (take n places)) next)

-- the next place is gone through
pub items-next : (places : List (Option Value)) (i place : ℕ) → i ≡ place → place < length places
    → items_of (take place places) ++ option_to_list (item_in places i) ≡ items_of (take (place + 1) places)
items-next places i place same within =
    ap (λ (p : ℕ). items_of (take place places) ++ option_to_list (item_in places p)) same
    ∙ (ap (λ (is : List Value). items_of (take place places) ++ is) (listed (item_in places place)) ∙ items-turn places place within)
  where
    listed : (item : Option Value) → option_to_list item ≡ items_of (item ∷ [])
    listed None = refl
    listed (Some item) = refl

take-next : {X : Type 0} (xs : List X) (place : ℕ) → take place xs ++ option_to_list (slice_get xs place) ≡ take (suc place) xs
take-next [] zero = refl
take-next [] (suc place) = refl
take-next (x ∷ xs) zero = refl
take-next {X} (x ∷ xs) (suc place) = ap (λ (ys : List X). x ∷ ys) (take-next xs place)

pub taken-more : {X : Type 0} (xs : List X) (i place : ℕ) → i ≡ place → take place xs ++ option_to_list (slice_get xs i) ≡ take (place + 1) xs
taken-more xs i place same =
    let next : suc place ≡ place + 1 = omega arith in
    ap (λ (p : ℕ). take place xs ++ option_to_list (slice_get xs p)) same ∙ (take-next xs place ∙ ap (λ (n : ℕ). take n xs) next)

-- ---- turns of the loops that go through places and items

pub place-turn : (places : List (Option Value)) (items new : List Value) (item : Option Value) (i place : ℕ) → items ≡ items_of (take place places)
    → item ≡ item_in places i → i ≡ place → place < length places → new ≡ items ++ option_to_list item → new ≡ items_of (take (place + 1) places)
place-turn places items new item i place had is same within pushed =
    pushed ∙ (ap (λ (o : Option Value). items ++ option_to_list o) is
    ∙ (ap (λ (vs : List Value). vs ++ option_to_list (item_in places i)) had ∙ items-next places i place same within))

pub queue-turn : (xs items new : List Value) (item : Option Value) (i place : ℕ) → items ≡ take place xs → item ≡ slice_get xs i → i ≡ place
    → new ≡ items ++ option_to_list item → new ≡ take (place + 1) xs
queue-turn xs items new item i place had is same pushed =
    pushed ∙ (ap (λ (o : Option Value). items ++ option_to_list o) is
    ∙ (ap (λ (vs : List Value). vs ++ option_to_list (slice_get xs i)) had ∙ taken-more xs i place same))
