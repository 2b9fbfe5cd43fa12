-- What holds of installation orders.
use Rattle.std.proofs.Common.{◌≡◌, ℕ, suc, zero, ◌<◌, List, [], ◌∷◌, ◌++◌, length, take, set, map, slice_get, Option, Some, None, refl, sym, ap, subst, ◌∙◌, arith, append_assoc}
use Rattle.std.specs.Prelude.{All, IsSome, IsPermutation}
use Rattle.std.specs.List.{AllByRecursion as Each}
use Rattle.std.proofs.lemmas.List.{append-nil, length-append}
use Rattle.std.proofs.lemmas.List.Elements.{All-cons, All-nil, recursion_from_All}
use Rattle.std.proofs.lemmas.List.Sorted.{IsPermutation-cons, IsPermutation-middle, IsPermutation-refl, IsPermutation-trans}
use Rattle.std.proofs.lemmas.Option.{same_Some}
use Rattle.rx_tree.specs.declared.class.ClassDef.{ClassDef}
use Rattle.rx_classes.specs.Installing.{missing_name}
use Rattle.rx_install.specs.Installation.{Installs, IsInstallationOrder, IsNext, IsStuck}
use Rattle.rx_install.specs.States.{left_of}

-- a class that lacks its superclass or a mixin
abbrev pub Lacks : List ClassDef → ClassDef → Type 0
Lacks before class = IsSome (missing_name before class)

pub never-both : {A : Type 0} (o : Option A) (P : Type 0) → IsSome o → o ≡ None → P
never-both None P there absent = absurd cc
never-both (Some x) P there absent = absurd cc

-- ---- the next class

-- a class that isn't ready stands in front
pub next-behind : (before left : List ClassDef) (class : ClassDef) (rest : List ClassDef) (other : ClassDef) → Lacks before other
    → IsNext before left class rest → IsNext before (other ∷ left) class (other ∷ rest)
next-behind before left class rest other lacks next = record {
  front = other ∷ next.front;
  back = next.back;
  is_left = ap (λ (classes : List ClassDef). other ∷ classes) next.is_left;
  is_rest = ap (λ (classes : List ClassDef). other ∷ classes) next.is_rest;
  waiting = All-cons (Lacks before) other next.front lacks next.waiting;
  ready = next.ready;
}

next-here : (before places : List ClassDef) (class here : ClassDef) → here ≡ class → missing_name before class ≡ None
    → IsNext before (here ∷ places) class places
next-here before places class here same ready = record {
  front = [];
  back = places;
  is_left = ap (λ (first : ClassDef). first ∷ places) same;
  is_rest = refl;
  waiting = All-nil (Lacks before);
  ready = ready;
}

-- the class at a place is next, where it is ready and none in front of it is
pub next-at : (before : List ClassDef) (places : List (Option ClassDef)) (place : ℕ) (class : ClassDef)
    → slice_get places place ≡ Some (Some class) → missing_name before class ≡ None
    → ((k : ℕ) (other : ClassDef) → k < place → slice_get places k ≡ Some (Some other) → Lacks before other)
    → IsNext before (left_of places) class (left_of (set places place None))
next-at before [] place class here ready front = absurd cc
next-at before (None ∷ places) zero class here ready front = absurd cc
next-at before (Some first ∷ places) zero class here ready front =
    next-here before (left_of places) class first (same_Some first class (same_Some (Some first) (Some class) here)) ready
next-at before (None ∷ places) (suc place) class here ready front =
    next-at before places place class here ready (λ k other less at. front (suc k) other (omega (arith, less)) at)
next-at before (Some first ∷ places) (suc place) class here ready front =
    next-behind before (left_of places) class (left_of (set places place None)) first (front 0 first (omega arith) refl)
    (next-at before places place class here ready (λ k other less at. front (suc k) other (omega (arith, less)) at))

-- where no class is ready at its place, none of those left is
pub all-lack : (before : List ClassDef) (places : List (Option ClassDef))
    → ((k : ℕ) (other : ClassDef) → slice_get places k ≡ Some (Some other) → Lacks before other) → All (Lacks before) (left_of places)
all-lack before [] lack = All-nil (Lacks before)
all-lack before (None ∷ places) lack = all-lack before places (λ k other at. lack (suc k) other at)
all-lack before (Some first ∷ places) lack =
    All-cons (Lacks before) first (left_of places) (lack 0 first refl) (all-lack before places (λ k other at. lack (suc k) other at))

-- all classes are left
pub left_of-all : (classes : List ClassDef) → left_of (map Some classes) ≡ classes
left_of-all [] = refl
left_of-all (class ∷ classes) = ap (λ (rest : List ClassDef). class ∷ rest) (left_of-all classes)

-- one class less is left
pub next-shorter : (before left : List ClassDef) (class : ClassDef) (rest : List ClassDef) → IsNext before left class rest
    → length rest < length left
next-shorter before left class rest next =
    let is_left = ap (λ (classes : List ClassDef). length classes) next.is_left in
    let is_rest = ap (λ (classes : List ClassDef). length classes) next.is_rest in
    let long = length-append next.front (class ∷ next.back) in
    let short = length-append next.front next.back in
    omega (arith, is_left, is_rest, long, short)

-- ---- one more class

pub installs-one_more : (before left order rest : List ClassDef) (class : ClassDef) (next : List ClassDef) → Installs before left order rest
    → IsNext (before ++ order) rest class next → Installs before left (order ++ class ∷ []) next
installs-one_more before left [] rest class next way step =
    let here : IsNext before rest class next = rw append-nil at step in
    (next, subst (λ (classes : List ClassDef). IsNext before classes class next) way here, refl)
installs-one_more before left (first ∷ order) rest class next way step = (
  way.0,
  way.1,
  installs-one_more (before ++ first ∷ []) way.0 order rest class next way.2
      (subst (λ (classes : List ClassDef). IsNext classes rest class next) (sym (append_assoc before (first ∷ []) order)) step),
)

-- ---- at most one

each-middle : (P : ClassDef → Type 0) (front back : List ClassDef) (class : ClassDef) → Each P (front ++ class ∷ back) → P class
each-middle P [] back class all = all.0
each-middle P (first ∷ front) back class all = each-middle P front back class all.1

next-none : (before left : List ClassDef) (class : ClassDef) (rest : List ClassDef) (P : Type 0) → All (Lacks before) left
    → IsNext before left class rest → P
next-none before left class rest P all next =
    let each = subst (Each (Lacks before)) next.is_left (recursion_from_All (Lacks before) left all) in
    never-both (missing_name before class) P (each-middle (Lacks before) next.front next.back class each) next.ready

abbrev AreSame : ClassDef → List ClassDef → ClassDef → List ClassDef → Type 0
AreSame class rest other others = (class ≡ other) × (rest ≡ others)

same-by : (before front back : List ClassDef) (class : ClassDef) (front' back' : List ClassDef) (class' : ClassDef)
    → front ++ class ∷ back ≡ front' ++ class' ∷ back' → Each (Lacks before) front → Each (Lacks before) front'
    → missing_name before class ≡ None → missing_name before class' ≡ None → AreSame class (front ++ back) class' (front' ++ back')
same-by before [] back class [] back' class' is all all' ready ready' = (cc, cc)
same-by before [] back class (first ∷ front') back' class' is all all' ready ready' =
    let same : first ≡ class = cc in
    never-both (missing_name before first) (AreSame class back class' ((first ∷ front') ++ back')) all'.0 (ap (missing_name before) same ∙ ready)
same-by before (first ∷ front) back class [] back' class' is all all' ready ready' =
    let same : first ≡ class' = cc in
    never-both (missing_name before first) (AreSame class ((first ∷ front) ++ back) class' back') all.0 (ap (missing_name before) same ∙ ready')
same-by before (first ∷ front) back class (first' ∷ front') back' class' is all all' ready ready' =
    let same : first ≡ first' = cc in
    let rest : front ++ class ∷ back ≡ front' ++ class' ∷ back' = cc in
    let further = same-by before front back class front' back' class' rest all.1 all'.1 ready ready' in
    let others : front ++ back ≡ front' ++ back' = further.1 in
    (further.0, cc)

next-same : (before left : List ClassDef) (class : ClassDef) (rest : List ClassDef) (class' : ClassDef) (rest' : List ClassDef)
    → IsNext before left class rest → IsNext before left class' rest' → AreSame class rest class' rest'
next-same before left class rest class' rest' next next' =
    let same =
    same-by before next.front next.back class next'.front next'.back class' (sym next.is_left ∙ next'.is_left)
    (recursion_from_All (Lacks before) next.front next.waiting) (recursion_from_All (Lacks before) next'.front next'.waiting) next.ready next'.ready in
    (same.0, next.is_rest ∙ same.1 ∙ sym next'.is_rest)

nothing-left : (before left : List ClassDef) (class : ClassDef) (rest : List ClassDef) (P : Type 0) → left ≡ [] → IsNext before left class rest → P
nothing-left before left class rest P none next =
    next-none before left class rest P (subst (All (Lacks before)) (sym none) (All-nil (Lacks before))) next

-- once no class can be installed any more, the way there is the only one
pub installs-once : (before left order rest order' rest' : List ClassDef) → Installs before left order rest → Installs before left order' rest'
    → All (Lacks (before ++ order)) rest → All (Lacks (before ++ order')) rest' → (order ≡ order') × (rest ≡ rest')
installs-once before left [] rest [] rest' way way' end end' = (refl, way ∙ sym way')
installs-once before left [] rest (class' ∷ order') rest' way way' end end' =
    let all = subst (λ (classes : List ClassDef). All (Lacks classes) rest) (append-nil before) end in
    next-none before left class' way'.0 (([] ≡ class' ∷ order') × (rest ≡ rest')) (subst (All (Lacks before)) way all) way'.1
installs-once before left (class ∷ order) rest [] rest' way way' end end' =
    let all = subst (λ (classes : List ClassDef). All (Lacks classes) rest') (append-nil before) end' in
    next-none before left class way.0 ((class ∷ order ≡ []) × (rest ≡ rest')) (subst (All (Lacks before)) way' all) way.1
installs-once before left (class ∷ order) rest (class' ∷ order') rest' way way' end end' =
    let same = next-same before left class way.0 class' way'.0 way.1 way'.1 in
    let first : class ≡ class' = same.0 in
    let others : Installs (before ++ class ∷ []) way.0 order' rest' =
    subst (λ (c : ClassDef). Installs (before ++ c ∷ []) way.0 order' rest') (sym same.0)
    (subst (λ (classes : List ClassDef). Installs (before ++ class' ∷ []) classes order' rest') (sym same.1) way'.2) in
    let end-first : All (Lacks ((before ++ class ∷ []) ++ order)) rest =
    subst (λ (classes : List ClassDef). All (Lacks classes) rest) (sym (append_assoc before (class ∷ []) order)) end in
    let end-other : All (Lacks ((before ++ class ∷ []) ++ order')) rest' =
    subst (λ (classes : List ClassDef). All (Lacks classes) rest') (sym (append_assoc before (class ∷ []) order'))
    (subst (λ (c : ClassDef). All (Lacks (before ++ c ∷ order')) rest') (sym same.0) end') in
    let further = installs-once (before ++ class ∷ []) way.0 order rest order' rest' way.2 others end-first end-other in
    let behind : order ≡ order' = further.0 in
    (cc, further.1)

-- classes have at most one installation order
pub one-order : (classes order other : List ClassDef) → IsInstallationOrder classes order → IsInstallationOrder classes other → order ≡ other
one-order classes order other way way' =
    (installs-once [] classes order [] other [] way way' (All-nil (Lacks order)) (All-nil (Lacks other))).0

-- where some are stuck, there is none
pub stuck-no_order : (classes : List ClassDef) (line : ℕ) → IsStuck classes line → (order : List ClassDef) → ¬ IsInstallationOrder classes order
stuck-no_order classes line stuck order way =
    let same = installs-once [] classes stuck.order (stuck.first ∷ stuck.others) order [] stuck.installed way stuck.waiting (All-nil (Lacks order)) in
    let none : stuck.first ∷ stuck.others ≡ [] = same.1 in
    cc

-- ---- each class once, and in its turn

pub installs-all : (before left order rest : List ClassDef) → Installs before left order rest → IsPermutation left (order ++ rest)
installs-all before left [] rest way = subst (IsPermutation left) (sym way) (IsPermutation-refl left)
installs-all before left (class ∷ order) rest way =
    let step = way.1 in
    let front : IsPermutation left (class ∷ (step.front ++ step.back)) =
    subst (λ (classes : List ClassDef). IsPermutation classes (class ∷ (step.front ++ step.back))) (sym step.is_left)
    (IsPermutation-middle step.front class step.back) in
    let others : IsPermutation (step.front ++ step.back) (order ++ rest) =
    subst (λ (classes : List ClassDef). IsPermutation classes (order ++ rest)) step.is_rest (installs-all (before ++ class ∷ []) way.0 order rest way.2) in
    IsPermutation-trans left (class ∷ (step.front ++ step.back)) (class ∷ (order ++ rest)) front
    (IsPermutation-cons class (step.front ++ step.back) (order ++ rest) others)

pub order-of_all : (classes order : List ClassDef) → IsInstallationOrder classes order → IsPermutation classes order
order-of_all classes order way = subst (IsPermutation classes) (append-nil order) (installs-all [] classes order [] way)

pub installs-in_turn : (before left order rest : List ClassDef) → Installs before left order rest
    → (place : ℕ) (class : ClassDef) → slice_get order place ≡ Some class → missing_name (before ++ take place order) class ≡ None
installs-in_turn before left [] rest way place class at = absurd cc
installs-in_turn before left (first ∷ order) rest way zero class at =
    let same : first ≡ class = same_Some first class at in
    let step = way.1 in
    ap (λ (classes : List ClassDef). missing_name classes class) (append-nil before) ∙ ap (missing_name before) (sym same) ∙ step.ready
installs-in_turn before left (first ∷ order) rest way (suc place) class at =
    ap (λ (classes : List ClassDef). missing_name classes class) (sym (append_assoc before (first ∷ []) (take place order)))
    ∙ installs-in_turn (before ++ first ∷ []) way.0 order rest way.2 place class at
