-- Lists of classes, each at its last place.
use Rattle.std.proofs.Common.{◌≡◌, ℕ, ◌||◌, Bool, true, false, cond, nat_eq, Option, None, Some, List, [], ◌∷◌, ◌++◌, refl, sym, ap, subst, ◌∙◌, arith}
use Rattle.std.specs.List.{AllByRecursion as Each, filter_map, flat_map, cons_option, find}
use Rattle.rx_classes.specs.Orders.{has, in_front, last_places}

-- ---- what holds of each

pub flat_map-same : {A B : Type 0} (f g : A → List B) (P : A → Type 0) (xs : List A) → ((x : A) → P x → f x ≡ g x) → Each P xs → flat_map f xs ≡ flat_map g xs
flat_map-same f g P [] same all = refl
flat_map-same f g P (x ∷ xs) same all =
    ap (λ ys. ys ++ flat_map f xs) (same x all.0) ∙ ap (λ zs. g x ++ zs) (flat_map-same f g P xs same all.1)

cons-all : {B : Type 0} (P : B → Type 0) (found : Option B) (ys : List B) → ((y : B) → found ≡ Some y → P y) → Each P ys → Each P (cons_option found ys)
cons-all P None ys so all = all
cons-all P (Some y) ys so all = (so y refl, all)

pub filter_map-all : {A B : Type 0} (h : A → Option B) (P : B → Type 0) (xs : List A) → ((x : A) (y : B) → h x ≡ Some y → P y) → Each P (filter_map h xs)
filter_map-all h P [] so = tt
filter_map-all h P (x ∷ xs) so = cons-all P (h x) (filter_map h xs) (so x) (filter_map-all h P xs so)

pub all-map : {A : Type 0} (P Q : A → Type 0) (xs : List A) → ((x : A) → P x → Q x) → Each P xs → Each Q xs
all-map P Q [] so all = tt
all-map P Q (x ∷ xs) so all = (so x all.0, all-map P Q xs so all.1)

-- the same, of items that something is known of
pub filter_map-among : {A B : Type 0} (h : A → Option B) (P : B → Type 0) (xs : List A) → Each (λ x. (y : B) → h x ≡ Some y → P y) xs
    → Each P (filter_map h xs)
filter_map-among h P [] so = tt
filter_map-among h P (x ∷ xs) so = cons-all P (h x) (filter_map h xs) so.0 (filter_map-among h P xs so.1)

none-by : {A : Type 0} (x : A) (rest : Option A) (P : Type 0) (b : Bool) → cond b (Some x) rest ≡ None → (rest ≡ None → P) → (b ≡ false) × P
none-by x rest P true is so = absurd cc
none-by x rest P false is so = (refl, so is)

-- where nothing is found, nothing passes the test
pub find-none : {A : Type 0} (test : A → Bool) (xs : List A) → find test xs ≡ None → Each (λ x. test x ≡ false) xs
find-none test [] is = tt
find-none test (x ∷ xs) is = none-by x (find test xs) (Each (λ x. test x ≡ false) xs) (test x) is (find-none test xs)

-- ---- classes put in front

-- some classes in front of others, the last first
abbrev pub with_all : List ℕ → List ℕ → List ℕ
with_all [] rest = rest
with_all (class ∷ classes) rest = in_front class (with_all classes rest)

pub last_places-with : (classes : List ℕ) → last_places classes ≡ with_all classes []
last_places-with [] = refl
last_places-with (class ∷ classes) = ap (in_front class) (last_places-with classes)

pub with_all-append : (xs ys rest : List ℕ) → with_all (xs ++ ys) rest ≡ with_all xs (with_all ys rest)
with_all-append [] ys rest = refl
with_all-append (x ∷ xs) ys rest = ap (in_front x) (with_all-append xs ys rest)

pub nat_eq-refl : (x : ℕ) → nat_eq x x ≡ true
nat_eq-refl x = grind arith

pub nat_eq-is : (x y : ℕ) → nat_eq x y ≡ true → x ≡ y
nat_eq-is x y e = grind arith

pub or-left : (a b : Bool) → a ≡ true → (a || b) ≡ true
or-left true b e = refl
or-left false b e = cc

pub or-right : (a b : Bool) → b ≡ true → (a || b) ≡ true
or-right true b e = refl
or-right false b e = e

pub or-case : (a b : Bool) (P : Type 0) → (a || b) ≡ true → (a ≡ true → P) → (b ≡ true → P) → P
or-case true b P e f g = f refl
or-case false b P e f g = g e

-- a class that is put in front is there, and so are those behind it
front-by : (x y : ℕ) (xs : List ℕ) (there : Bool) → has xs x ≡ there → has xs y ≡ true → has (cond there xs (x ∷ xs)) y ≡ true
front-by x y xs true is so = so
front-by x y xs false is so = or-right (nat_eq y x) (has xs y) so

pub has-front : (x y : ℕ) (xs : List ℕ) → has xs y ≡ true → has (in_front x xs) y ≡ true
has-front x y xs so = front-by x y xs (has xs x) refl so

first-by : (x : ℕ) (xs : List ℕ) (there : Bool) → has xs x ≡ there → has (cond there xs (x ∷ xs)) x ≡ true
first-by x xs true is = is
first-by x xs false is = or-left (nat_eq x x) (has xs x) (nat_eq-refl x)

pub has-first : (x : ℕ) (xs : List ℕ) → has (in_front x xs) x ≡ true
has-first x xs = first-by x xs (has xs x) refl

pub has-behind : (xs rest : List ℕ) (y : ℕ) → has rest y ≡ true → has (with_all xs rest) y ≡ true
has-behind [] rest y so = so
has-behind (x ∷ xs) rest y so = has-front x y (with_all xs rest) (has-behind xs rest y so)

pub has-with : (xs rest : List ℕ) (y : ℕ) → has xs y ≡ true → has (with_all xs rest) y ≡ true
has-with [] rest y so = cc
has-with (x ∷ xs) rest y so =
    or-case (nat_eq y x) (has xs y) (has (in_front x (with_all xs rest)) y ≡ true) so
    (λ e. subst (λ (z : ℕ). has (in_front x (with_all xs rest)) z ≡ true) (sym (nat_eq-is y x e)) (has-first x (with_all xs rest)))
    (λ e. has-front x y (with_all xs rest) (has-with xs rest y e))

-- nothing else is there
back-by : (x y : ℕ) (xs : List ℕ) (P : Type 0) (there : Bool) → has (cond there xs (x ∷ xs)) y ≡ true → (y ≡ x → P) → (has xs y ≡ true → P) → P
back-by x y xs P true so f g = g so
back-by x y xs P false so f g = or-case (nat_eq y x) (has xs y) P so (λ e. f (nat_eq-is y x e)) g

pub has-back : (x y : ℕ) (xs : List ℕ) (P : Type 0) → has (in_front x xs) y ≡ true → (y ≡ x → P) → (has xs y ≡ true → P) → P
has-back x y xs P so f g = back-by x y xs P (has xs x) so f g

pub has-among : (xs rest : List ℕ) (y : ℕ) (P : Type 0) → has (with_all xs rest) y ≡ true → (has xs y ≡ true → P) → (has rest y ≡ true → P) → P
has-among [] rest y P so f g = g so
has-among (x ∷ xs) rest y P so f g =
    has-back x y (with_all xs rest) P so
    (λ e. f (or-left (nat_eq y x) (has xs y) (subst (λ (z : ℕ). nat_eq y z ≡ true) e (nat_eq-refl y))))
    (λ there. has-among xs rest y P there (λ h. f (or-right (nat_eq y x) (has xs y) h)) g)

-- in front of what has it already, a class changes nothing
pub front-there : (x : ℕ) (xs : List ℕ) → has xs x ≡ true → in_front x xs ≡ xs
front-there x xs so = ap (λ (b : Bool). cond b xs (x ∷ xs)) so

-- classes that all are there already change nothing
pub with_all-there : (xs rest : List ℕ) → ((y : ℕ) → has xs y ≡ true → has rest y ≡ true) → with_all xs rest ≡ rest
with_all-there [] rest so = refl
with_all-there (x ∷ xs) rest so =
    ap (in_front x) (with_all-there xs rest (λ y h. so y (or-right (nat_eq y x) (has xs y) h)))
    ∙ front-there x rest (so x (or-left (nat_eq x x) (has xs x) (nat_eq-refl x)))

once-by : (x : ℕ) (r rest q : List ℕ) (there : Bool) → has r x ≡ there → with_all r rest ≡ q → (has r x ≡ true → has q x ≡ true)
    → with_all (cond there r (x ∷ r)) rest ≡ in_front x q
once-by x r rest q true is same so = same ∙ sym (front-there x q (so is))
once-by x r rest q false is same so = ap (in_front x) same

-- classes may first be put each at its last place
pub with_all-once : (xs rest : List ℕ) → with_all (with_all xs []) rest ≡ with_all xs rest
with_all-once [] rest = refl
with_all-once (x ∷ xs) rest =
    let r = with_all xs [] in
    let same : with_all r rest ≡ with_all xs rest = with_all-once xs rest in
    once-by x r rest (with_all xs rest) (has r x) refl same (λ h. subst (λ (q : List ℕ). has q x ≡ true) same (has-with r rest x h))

-- one of several lists has a class that is in all of them joined
pub has-append : (xs ys : List ℕ) (y : ℕ) (P : Type 0) → has (xs ++ ys) y ≡ true → (has xs y ≡ true → P) → (has ys y ≡ true → P) → P
has-append [] ys y P so f g = g so
has-append (x ∷ xs) ys y P so f g =
    or-case (nat_eq y x) (has (xs ++ ys) y) P so (λ e. f (or-left (nat_eq y x) (has xs y) e))
    (λ e. has-append xs ys y P e (λ h. f (or-right (nat_eq y x) (has xs y) h)) g)

pub has-joined : {A : Type 0} (f : A → List ℕ) (xs : List A) (y : ℕ) (P : Type 0) → Each (λ x. has (f x) y ≡ true → P) xs
    → has (flat_map f xs) y ≡ true → P
has-joined f [] y P all so = absurd cc
has-joined f (x ∷ xs) y P all so = has-append (f x) (flat_map f xs) y P so all.0 (has-joined f xs y P all.1)

pub has-left : (xs ys : List ℕ) (y : ℕ) → has xs y ≡ true → has (xs ++ ys) y ≡ true
has-left [] ys y so = cc
has-left (x ∷ xs) ys y so =
    or-case (nat_eq y x) (has xs y) (has ((x ∷ xs) ++ ys) y ≡ true) so (or-left (nat_eq y x) (has (xs ++ ys) y))
    (λ h. or-right (nat_eq y x) (has (xs ++ ys) y) (has-left xs ys y h))

pub has-right : (xs ys : List ℕ) (y : ℕ) → has ys y ≡ true → has (xs ++ ys) y ≡ true
has-right [] ys y so = so
has-right (x ∷ xs) ys y so = or-right (nat_eq y x) (has (xs ++ ys) y) (has-right xs ys y so)
