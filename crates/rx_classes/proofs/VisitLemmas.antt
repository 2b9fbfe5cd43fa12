-- The way through the superclasses of a class comes to its order.
use Rattle.std.proofs.Common.{◌≡◌, ℕ, suc, zero, ◌+◌, ◌<◌, ◌≤◌, Bool, true, false, cond, ◌||◌, nat_eq, List, [], ◌∷◌, ◌++◌, map, reverse, refl, sym, ap, subst, ◌∙◌, arith}
use Rattle.std.specs.List.{AllByRecursion as Each, flat_map}
use Rattle.std.proofs.lemmas.List.{reverse-append}
use Rattle.std.proofs.lemmas.List.Folds.{list_any-append}
use Rattle.rx_tree.specs.declared.class.ClassDef.{ClassDef}
use Rattle.rx_classes.specs.declared.table.ordering.Visit.{Visit}
use Rattle.rx_classes.specs.declared.table.ordering.Visit.TheVariants.{Enter, Leave}
use Rattle.rx_classes.specs.Natives.{object_class}
use Rattle.rx_classes.specs.Classes.{superclasses}
use Rattle.rx_classes.specs.Orders.{has, in_front, order}
use Rattle.rx_classes.specs.Visits.{entering}
use Rattle.rx_classes.proofs.ListLemmas.{all-map, with_all, with_all-append, with_all-once, with_all-there, has-first, has-with, has-among, has-front, has-back, or-case, nat_eq-is}
use Rattle.rx_classes.proofs.ClassLemmas.{superclasses-below}
use Rattle.rx_classes.proofs.OrderLemmas.{order-is}

module _ (classes : List ClassDef) where
  -- what a visit puts in front
  abbrev pub visited : Visit → List ℕ
  visited (Enter class) = order classes class
  visited (Leave class) = class ∷ []

  -- what there is once all is done that is left to do, the last first
  abbrev pub done : List Visit → List ℕ → List ℕ
  done [] reached = reached
  done (visit ∷ left) reached = with_all (visited visit) (done left reached)

  abbrev pub above_all : ℕ → List ℕ
  above_all class = flat_map (order classes) (superclasses classes class)

  -- a class is left only once its superclasses' orders are there
  abbrev pub IsReady : Visit → List ℕ → Type 0
  IsReady (Enter class) reached = 0 < class
  IsReady (Leave class) reached = (0 < class) × ((y : ℕ) → has (above_all class) y ≡ true → has reached y ≡ true)

  abbrev pub AreReady : List Visit → List ℕ → Type 0
  AreReady [] reached = Unit {0}
  AreReady (visit ∷ left) reached = IsReady visit (done left reached) × AreReady left reached

  -- with a class there is its whole order
  abbrev pub IsClosed : List ℕ → Type 0
  IsClosed reached = (class y : ℕ) → has reached class ≡ true → has (order classes class) y ≡ true → has reached y ≡ true

  done-append : (xs ys : List Visit) (reached : List ℕ) → done (xs ++ ys) reached ≡ done xs (done ys reached)
  done-append [] ys reached = refl
  done-append (x ∷ xs) ys reached = ap (with_all (visited x)) (done-append xs ys reached)

  ready-append : (xs ys : List Visit) (reached : List ℕ) → AreReady xs (done ys reached) → AreReady ys reached → AreReady (xs ++ ys) reached
  ready-append [] ys reached a b = b
  ready-append (x ∷ xs) ys reached a b =
      (subst (λ (zs : List ℕ). IsReady x zs) (sym (done-append xs ys reached)) a.0, ready-append xs ys reached a.1 b)

  ready-front : (xs ys : List Visit) (reached : List ℕ) → AreReady (xs ++ ys) reached → AreReady xs (done ys reached)
  ready-front [] ys reached so = tt
  ready-front (x ∷ xs) ys reached so =
      (subst (λ (zs : List ℕ). IsReady x zs) (done-append xs ys reached) so.0, ready-front xs ys reached so.1)

  ready-back : (xs ys : List Visit) (reached : List ℕ) → AreReady (xs ++ ys) reached → AreReady ys reached
  ready-back [] ys reached so = so
  ready-back (x ∷ xs) ys reached so = ready-back xs ys reached so.1

  -- ---- entering

  done-enter : (above reached : List ℕ) → done (map Enter above) reached ≡ with_all (flat_map (order classes) above) reached
  done-enter [] reached = refl
  done-enter (x ∷ xs) reached =
      ap (with_all (order classes x)) (done-enter xs reached) ∙ sym (with_all-append (order classes x) (flat_map (order classes) xs) reached)

  ready-enter : (above reached : List ℕ) → Each (λ s. 0 < s) above → AreReady (map Enter above) reached
  ready-enter [] reached all = tt
  ready-enter (x ∷ xs) reached all = (all.0, ready-enter xs reached all.1)

  -- a class's order in front is the class in front of its superclasses' orders
  order-front : (class : ℕ) (reached : List ℕ) → 0 < class → with_all (order classes class) reached ≡ in_front class (with_all (above_all class) reached)
  order-front class reached some =
      ap (λ (xs : List ℕ). with_all xs reached) (order-is classes class some) ∙ with_all-once (class ∷ above_all class) reached

  done-entering : (class : ℕ) (reached : List ℕ) → 0 < class
      → done (entering class (superclasses classes class)) reached ≡ with_all (order classes class) reached
  done-entering class reached some =
      ap (in_front class) (done-enter (superclasses classes class) reached) ∙ sym (order-front class reached some)

  ready-entering : (class : ℕ) (reached : List ℕ) → 0 < class → AreReady (entering class (superclasses classes class)) reached
  ready-entering class reached some = (
    (some, λ y there. subst (λ (xs : List ℕ). has xs y ≡ true) (sym (done-enter (superclasses classes class) reached)) (has-with (above_all class) reached y there)),
    ready-enter (superclasses classes class) reached
        (all-map (λ n. (object_class ≤ n) × (n < class)) (λ s. 0 < s) (superclasses classes class) (λ s below. omega (arith, below.0)) (superclasses-below classes class)),
  )

  -- ---- what is kept on the way

  pub record IsOnWay (class : ℕ) (left : List Visit) (reached : List ℕ) : Type 0 where
    pub ordered : done left reached ≡ order classes class
    pub ready : AreReady left reached
    pub closed : IsClosed reached

  pub begins : (class : ℕ) → 0 < class → IsOnWay class (Enter class ∷ []) []
  begins class some = record {
    ordered = once;
    ready = (some, tt);
    closed = λ c y there. absurd cc;
  }
    where
      once : with_all (order classes class) [] ≡ order classes class
      once =
          ap (λ (xs : List ℕ). with_all xs []) (order-is classes class some)
          ∙ with_all-once (class ∷ above_all class) [] ∙ sym (order-is classes class some)

  -- a class that is there already changes nothing
  pub passes : (class : ℕ) (left : List Visit) (entered : ℕ) (reached : List ℕ) → has reached entered ≡ true
      → IsOnWay class (left ++ Enter entered ∷ []) reached → IsOnWay class left reached
  passes class left entered reached there so = record {
    ordered = ap (done left) (sym same) ∙ sym (done-append left (Enter entered ∷ []) reached) ∙ so.ordered;
    ready = subst (λ (xs : List ℕ). AreReady left xs) same (ready-front left (Enter entered ∷ []) reached so.ready);
    closed = so.closed;
  }
    where
      same : with_all (order classes entered) reached ≡ reached
      same = with_all-there (order classes entered) reached (λ y h. so.closed entered y there h)

  -- a class that isn't there is entered
  pub enters : (class : ℕ) (left : List Visit) (entered : ℕ) (reached : List ℕ)
      → IsOnWay class (left ++ Enter entered ∷ []) reached → IsOnWay class (left ++ entering entered (superclasses classes entered)) reached
  enters class left entered reached so = record {
    ordered =
        done-append left (entering entered (superclasses classes entered)) reached ∙ ap (done left) same
        ∙ sym (done-append left (Enter entered ∷ []) reached) ∙ so.ordered;
    ready =
        ready-append left (entering entered (superclasses classes entered)) reached
        (subst (λ (xs : List ℕ). AreReady left xs) (sym same) (ready-front left (Enter entered ∷ []) reached so.ready))
        (ready-entering entered reached some);
    closed = so.closed;
  }
    where
      some : 0 < entered
      some = (ready-back left (Enter entered ∷ []) reached so.ready).0

      same : done (entering entered (superclasses classes entered)) reached ≡ with_all (order classes entered) reached
      same = done-entering entered reached some

  -- and one that is left is put in front
  pub leaves : (class : ℕ) (left : List Visit) (gone : ℕ) (reached : List ℕ)
      → IsOnWay class (left ++ Leave gone ∷ []) reached → IsOnWay class left (in_front gone reached)
  leaves class left gone reached so = record {
    ordered = sym (done-append left (Leave gone ∷ []) reached) ∙ so.ordered;
    ready = ready-front left (Leave gone ∷ []) reached so.ready;
    closed = closed';
  }
    where
      at : IsReady (Leave gone) reached
      at = (ready-back left (Leave gone ∷ []) reached so.ready).0

      own : (y : ℕ) → has (order classes gone) y ≡ true → has (in_front gone reached) y ≡ true
      own y h =
          has-among (gone ∷ above_all gone) [] y (has (in_front gone reached) y ≡ true)
          (subst (λ (xs : List ℕ). has xs y ≡ true) (order-is classes gone at.0) h)
          (λ both. or-case (nat_eq y gone) (has (above_all gone) y) (has (in_front gone reached) y ≡ true) both
          (λ same. subst (λ (z : ℕ). has (in_front gone reached) z ≡ true) (sym (nat_eq-is y gone same)) (has-first gone reached))
          (λ further. has-front gone y reached (at.1 y further)))
          (λ none. absurd cc)

      closed' : IsClosed (in_front gone reached)
      closed' c y there h =
          has-back gone c reached (has (in_front gone reached) y ≡ true) there
          (λ same. own y (subst (λ (z : ℕ). has (order classes z) y ≡ true) same h))
          (λ before. has-front gone y reached (so.closed c y before h))

-- ---- the order in which classes are reached

swap-or : (a b : Bool) → (a || (b || false)) ≡ (b || a)
swap-or true true = refl
swap-or true false = refl
swap-or false true = refl
swap-or false false = refl

pub has-reverse : (xs : List ℕ) (y : ℕ) → has (reverse xs) y ≡ has xs y
has-reverse [] y = refl
has-reverse (x ∷ xs) y =
    ap (λ (zs : List ℕ). has zs y) (reverse-append (x ∷ []) xs)
    ∙ list_any-append (λ other. nat_eq y other) (reverse xs) (x ∷ [])
    ∙ ap (λ (b : Bool). b || (nat_eq y x || false)) (has-reverse xs y)
    ∙ swap-or (has xs y) (nat_eq y x)

insert-by : (xs : List ℕ) (y : ℕ) (there : Bool) → has xs y ≡ there → reverse (cond there xs (xs ++ y ∷ [])) ≡ cond there (reverse xs) (y ∷ reverse xs)
insert-by xs y true is = refl
insert-by xs y false is = reverse-append xs (y ∷ [])

-- a class that is reached is in front of those reached before
pub insert-front : (xs : List ℕ) (y : ℕ) → reverse (cond (has xs y) xs (xs ++ y ∷ [])) ≡ in_front y (reverse xs)
insert-front xs y =
    insert-by xs y (has xs y) refl ∙ ap (λ (b : Bool). cond b (reverse xs) (y ∷ reverse xs)) (sym (has-reverse xs y))

-- ---- the way ends

abbrev pub total : {A : Type 0} → (A → ℕ) → List A → ℕ
total f [] = 0
total f (x ∷ xs) = f x + total f xs

total-same : (f g : ℕ → ℕ) (P : ℕ → Type 0) (xs : List ℕ) → ((x : ℕ) → P x → f x ≡ g x) → Each P xs → total f xs ≡ total g xs
total-same f g P [] same all = refl
total-same f g P (x ∷ xs) same all = omega (arith, same x all.0, total-same f g P xs same all.1)

total-append : {A : Type 0} (f : A → ℕ) (xs ys : List A) → total f (xs ++ ys) ≡ total f xs + total f ys
total-append f [] ys = omega arith
total-append f (x ∷ xs) ys = omega (arith, total-append f xs ys)

abbrev pub steps_within : ℕ → List ClassDef → ℕ → ℕ
steps_within zero classes class = 0
steps_within (suc turns) classes class = 2 + total (steps_within turns classes) (superclasses classes class)

-- so many steps are taken at most, where no class is passed by
abbrev pub steps : List ClassDef → ℕ → ℕ
steps classes class = steps_within class classes class

steps-same : (classes : List ClassDef) (turns more class : ℕ) → 0 < class → class ≤ turns → class ≤ more
    → steps_within turns classes class ≡ steps_within more classes class
steps-same classes zero more class some a b = absurd (omega (arith, some, a))
steps-same classes (suc turns) zero class some a b = absurd (omega (arith, some, b))
steps-same classes (suc turns) (suc more) class some a b =
    ap (λ (n : ℕ). 2 + n)
    (total-same (steps_within turns classes) (steps_within more classes) (λ s. (object_class ≤ s) × (s < class)) (superclasses classes class)
    (λ s below. steps-same classes turns more s (omega (arith, below.0)) (omega (arith, below.1, a)) (omega (arith, below.1, b)))
    (superclasses-below classes class))

steps-by : (classes : List ClassDef) (class : ℕ) → 0 < class → steps classes class ≡ 2 + total (steps classes) (superclasses classes class)
steps-by classes zero some = absurd (omega (arith, some))
steps-by classes (suc turns) some =
    ap (λ (n : ℕ). 2 + n)
    (total-same (steps_within turns classes) (steps classes) (λ s. (object_class ≤ s) × (s < suc turns)) (superclasses classes (suc turns))
    (λ s below. steps-same classes turns s s (omega (arith, below.0)) (omega (arith, below.1)) (omega arith))
    (superclasses-below classes (suc turns)))

abbrev pub steps_of : List ClassDef → Visit → ℕ
steps_of classes (Enter class) = steps classes class
steps_of classes (Leave class) = 1

abbrev pub steps_left : List ClassDef → List Visit → ℕ
steps_left classes left = total (steps_of classes) left

total-enter : (classes : List ClassDef) (above : List ℕ) → total (steps_of classes) (map Enter above) ≡ total (steps classes) above
total-enter classes [] = refl
total-enter classes (x ∷ xs) = ap (λ (n : ℕ). steps classes x + n) (total-enter classes xs)

last-some : (classes : List ClassDef) (class : ℕ) (left : List Visit) (entered : ℕ) (reached : List ℕ)
    → IsOnWay classes class (left ++ Enter entered ∷ []) reached → 0 < entered
last-some classes class left entered reached so = (ready-back classes left (Enter entered ∷ []) reached so.ready).0

pub fewer-enters : (classes : List ClassDef) (class : ℕ) (left : List Visit) (entered : ℕ) (reached : List ℕ)
    → IsOnWay classes class (left ++ Enter entered ∷ []) reached
    → steps_left classes (left ++ entering entered (superclasses classes entered)) < steps_left classes (left ++ Enter entered ∷ [])
fewer-enters classes class left entered reached so =
    let some = last-some classes class left entered reached so in
    let is : steps classes entered ≡ 2 + total (steps classes) (superclasses classes entered) = steps-by classes entered some in
    omega (
      arith,
      is,
      total-enter classes (superclasses classes entered),
      total-append (steps_of classes) left (entering entered (superclasses classes entered)),
      total-append (steps_of classes) left (Enter entered ∷ []),
    )

pub fewer-passes : (classes : List ClassDef) (class : ℕ) (left : List Visit) (entered : ℕ) (reached : List ℕ)
    → IsOnWay classes class (left ++ Enter entered ∷ []) reached
    → steps_left classes left < steps_left classes (left ++ Enter entered ∷ [])
fewer-passes classes class left entered reached so =
    let some = last-some classes class left entered reached so in
    let is : steps classes entered ≡ 2 + total (steps classes) (superclasses classes entered) = steps-by classes entered some in
    omega (arith, is, total-append (steps_of classes) left (Enter entered ∷ []))

pub fewer-leaves : (classes : List ClassDef) (left : List Visit) (gone : ℕ)
    → steps_left classes left < steps_left classes (left ++ Leave gone ∷ [])
fewer-leaves classes left gone = omega (arith, total-append (steps_of classes) left (Leave gone ∷ []))

-- the last of what is left
pub popped : (classes : List ClassDef) (class : ℕ) (old new : List Visit) (visit other : Visit) (reached : List ℕ) → old ≡ new ++ visit ∷ [] → visit ≡ other
    → IsOnWay classes class old reached → IsOnWay classes class (new ++ other ∷ []) reached
popped classes class old new visit other reached is same so =
    subst (λ (left : List Visit). IsOnWay classes class left reached) (is ∙ ap (λ (v : Visit). new ++ v ∷ []) same) so

pub last-of : (classes : List ClassDef) (old new : List Visit) (visit other : Visit) (n : ℕ) → old ≡ new ++ visit ∷ [] → visit ≡ other
    → n < steps_left classes (new ++ other ∷ []) → n < steps_left classes old
last-of classes old new visit other n is same less =
    subst (λ (left : List Visit). n < steps_left classes left) (sym (is ∙ ap (λ (v : Visit). new ++ v ∷ []) same)) less
