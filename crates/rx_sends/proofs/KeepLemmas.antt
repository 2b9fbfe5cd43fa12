-- Objects and classes fit still once a native method is done.
use Rattle.std.proofs.Common.{◌≡◌, ℕ, zero, suc, Bool, true, false, List, [], ◌∷◌, length, Option, Some, None, refl, sym, ap, ◌∙◌, subst, arith}
use Rattle.std.specs.Prelude.{◌==◌, Contains, if◌then◌else◌, slice_get, slice_set, Result, Ok, Err}
use Rattle.std.proofs.lemmas.List.{length-set}
use Rattle.rx_tree.specs.Object.{Object, Contents}
use Rattle.rx_tree.specs.declared.class.ClassDef.{ClassDef}
use Rattle.rx_classes.specs.Natives.{array_class, class_class, directory_class, message_class, queue_class}
use Rattle.rx_classes.specs.Classes.{IsClass}
use Rattle.rx_classes.specs.Installing.{CanInstall, is_closed}
use Rattle.rx_classes.specs.Orders.{order}
use Rattle.rx_heap.specs.declared.kind.Kind.{Kind}
use Rattle.rx_heap.specs.declared.kind.Kind.TheVariants as k
use Rattle.rx_heap.specs.Objects.{class_at, class_of, contents_of, kind_by, object_at, most_objects, with_contents, with_contents_of}
use Rattle.rx_native.specs.declared.answer.NativeAnswer.{NativeAnswer}
use Rattle.rx_native.specs.ClassMethods.{kind_in}
use Rattle.rx_native.specs.Fitting.{Fits, FitsObject}
use Rattle.rx_native.specs.Outcomes.{Outcome, makes, on}
use Rattle.rx_native.specs.Targets.{kind_at}
use Rattle.rx_sends.proofs.FitLemmas.{IsFitting, fits-made, not-in-order}
use Rattle.rx_sends.proofs.NativeClassLemmas.{kind-of, no-class, no-class-kind, one-in-order}

-- ---- an object that holds something else

same-class : (objects : List Object) (place : ℕ) (object new : Object) → slice_get objects place ≡ Some object → new.class ≡ object.class
    → (other : ℕ) → class_of (slice_get (slice_set objects place new) other) ≡ class_of (slice_get objects other)
same-class [] place object new is same other = cc
same-class (first ∷ rest) zero object new is same zero = let e : first ≡ object = cc in same ∙ ap (λ (o : Object). o.class) (sym e)
same-class (first ∷ rest) zero object new is same (suc other) = refl
same-class (first ∷ rest) (suc place) object new is same zero = refl
same-class (first ∷ rest) (suc place) object new is same (suc other) = same-class rest place object new is same other

abbrev kind_of : Option Object → Kind
kind_of object = kind_by (contents_of object)

same-kind : (objects : List Object) (place : ℕ) (object new : Object) → slice_get objects place ≡ Some object → kind_by new.contents ≡ kind_by object.contents
    → (other : ℕ) → kind_of (slice_get (slice_set objects place new) other) ≡ kind_of (slice_get objects other)
same-kind [] place object new is same other = cc
same-kind (first ∷ rest) zero object new is same zero = let e : first ≡ object = cc in same ∙ ap (λ (o : Object). kind_by o.contents) (sym e)
same-kind (first ∷ rest) zero object new is same (suc other) = refl
same-kind (first ∷ rest) (suc place) object new is same zero = refl
same-kind (first ∷ rest) (suc place) object new is same (suc other) = same-kind rest place object new is same other

-- as many objects, each of its class and kind
record IsAlike (before after : List Object) : Type 0 where
  many : length after ≡ length before
  class : (number : ℕ) → class_at after number ≡ class_at before number
  kind : (number : ℕ) → kind_at after number ≡ kind_at before number

fits-alike : (classes : List ClassDef) (before after : List Object) → IsAlike before after → Fits classes before → Fits classes after
fits-alike classes before after alike fits number there =
    let old : FitsObject classes before number = fits number (there.0, omega (arith, there.1, alike.many)) in
    let class_is : class_at after number ≡ class_at before number = alike.class number in
    let kind_is : kind_at after number ≡ kind_at before number = alike.kind number in
    record {
      known = subst (λ (c : ℕ). IsClass classes c) (sym class_is) old.known;
      class_object = λ is. old.class_object (sym kind_is ∙ is);
      of_class = λ among. kind_is ∙ old.of_class (subst (λ (c : ℕ). Contains (order classes c) class_class) class_is among);
      of_array = λ among. kind_is ∙ old.of_array (subst (λ (c : ℕ). Contains (order classes c) array_class) class_is among);
      of_queue = λ among. kind_is ∙ old.of_queue (subst (λ (c : ℕ). Contains (order classes c) queue_class) class_is among);
      of_directory = λ among. kind_is ∙ old.of_directory (subst (λ (c : ℕ). Contains (order classes c) directory_class) class_is among);
    }

alike-set : (objects : List Object) (place : ℕ) (object new : Object) → slice_get objects place ≡ Some object → new.class ≡ object.class
    → kind_by new.contents ≡ kind_by object.contents → IsAlike objects (slice_set objects place new)
alike-set objects place object new is class_is kind_is = record {
  many = length-set objects place new;
  class = by-class;
  kind = by-kind;
}
  where
    by-class : (number : ℕ) → class_at (slice_set objects place new) number ≡ class_at objects number
    by-class zero = refl
    by-class (suc other) = same-class objects place object new is class_is other

    by-kind : (number : ℕ) → kind_at (slice_set objects place new) number ≡ kind_at objects number
    by-kind zero = refl
    by-kind (suc other) = same-kind objects place object new is kind_is other

set-fits : (classes : List ClassDef) (objects : List Object) (number : ℕ) (contents : Contents) (object : Option Object) → object_at objects number ≡ object
    → kind_by contents ≡ kind_of object → Fits classes objects → Fits classes (with_contents_of objects number contents object)
set-fits classes objects number contents None at kind_is fits = fits
set-fits classes objects zero contents (Some object) at kind_is fits = absurd cc
set-fits classes objects (suc place) contents (Some object) at kind_is fits =
    subst (λ (p : ℕ). Fits classes (slice_set objects p (record object { contents = contents }))) (omega arith)
    (fits-alike classes objects (slice_set objects place (record object { contents = contents }))
    (alike-set objects place object (record object { contents = contents }) at refl kind_is) fits)

pub fits-with : (classes : List ClassDef) (objects : List Object) (number : ℕ) (contents : Contents) → kind_by contents ≡ kind_at objects number
    → Fits classes objects → Fits classes (with_contents objects number contents)
fits-with classes objects number contents kind_is fits = set-fits classes objects number contents (object_at objects number) refl kind_is fits

-- ---- what a method comes to

abbrev pub OutcomeFits : List ClassDef → Outcome → Type 0
OutcomeFits classes (Ok made) = Fits classes made.1
OutcomeFits classes (Err number) = Unit {0}

pub on-fits : {A : Type 0} (classes : List ClassDef) (read : Result A ℕ) (next : A → Outcome) → ((x : A) → OutcomeFits classes (next x))
    → OutcomeFits classes (on read next)
on-fits classes (Ok read) next all = all read
on-fits classes (Err number) next all = tt

pub if-fits : (classes : List ClassDef) (test : Bool) (then_one else_one : Outcome) → OutcomeFits classes then_one → OutcomeFits classes else_one
    → OutcomeFits classes (if test then then_one else else_one)
if-fits classes true then_one else_one a b = a
if-fits classes false then_one else_one a b = b

pub makes-fits : (classes : List ClassDef) (objects : List Object) (class : ℕ) (contents : Contents) (answer : ℕ → NativeAnswer)
    → IsFitting classes class (kind_by contents) → Fits classes objects → OutcomeFits classes (makes objects class contents answer)
makes-fits classes objects class contents answer fitting fits =
    if-fits classes (length objects == most_objects) _ _ tt (fits-made classes objects class contents fitting fits)

-- ---- new objects of each kind

pub new-fitting : (classes : List ClassDef) (class : ℕ) → CanInstall classes → IsClass classes class → is_closed class ≡ false
    → IsFitting classes class (kind_in (order classes class))
new-fitting classes class all is open_one = record {
  known = is;
  no_class_object = no-class-kind (order classes class);
  no_class = no-class classes class all is open_one;
  of_array = λ among. kind-of array_class k.Array (order classes class) (λ rest. refl) among
      (λ other least most inside. one-in-order classes class other array_class all is least most (omega arith) (omega arith) inside among);
  of_queue = λ among. kind-of queue_class k.Queue (order classes class) (λ rest. refl) among
      (λ other least most inside. one-in-order classes class other queue_class all is least most (omega arith) (omega arith) inside among);
  of_directory = λ among. kind-of directory_class k.Directory (order classes class) (λ rest. refl) among
      (λ other least most inside. one-in-order classes class other directory_class all is least most (omega arith) (omega arith) inside among);
}

-- of a class with Array in its order
pub array-fitting : (classes : List ClassDef) (class : ℕ) → CanInstall classes → IsClass classes class → Contains (order classes class) array_class
    → IsFitting classes class k.Array
array-fitting classes class all is among = record {
  known = is;
  no_class_object = λ same. let e : k.Array ≡ k.ClassObject = same in cc;
  no_class = λ inside. absurd (omega (arith, one-in-order classes class class_class array_class all is (omega arith) (omega arith) (omega arith) (omega arith) inside among));
  of_array = λ inside. refl;
  of_queue = λ inside. absurd (omega (arith, one-in-order classes class queue_class array_class all is (omega arith) (omega arith) (omega arith) (omega arith) inside among));
  of_directory = λ inside. absurd (omega (arith, one-in-order classes class directory_class array_class all is (omega arith) (omega arith) (omega arith) (omega arith) inside among));
}

-- of the class Message itself
pub message-fitting : (classes : List ClassDef) → IsFitting classes message_class k.Message
message-fitting classes = record {
  known = (omega arith, omega arith);
  no_class_object = λ same. let e : k.Message ≡ k.ClassObject = same in cc;
  no_class = not-in-order message_class class_class (λ e. omega (arith, e)) (λ e. omega (arith, e));
  of_array = λ inside. absurd (not-in-order message_class array_class (λ e. omega (arith, e)) (λ e. omega (arith, e)) inside);
  of_queue = λ inside. absurd (not-in-order message_class queue_class (λ e. omega (arith, e)) (λ e. omega (arith, e)) inside);
  of_directory = λ inside. absurd (not-in-order message_class directory_class (λ e. omega (arith, e)) (λ e. omega (arith, e)) inside);
}
