-- An object that was just made: it is the last one, and what it holds can be written again.
use Rattle.std.proofs.Common.{◌≡◌, ℕ, ◌+◌, List, [], ◌∷◌, ◌++◌, length, Some, refl, sym, ap, ◌∙◌, add-one, arith, length-append}
use Rattle.std.specs.Prelude.{◌==◌, Bool, true, false, if◌then◌else◌, slice_get, slice_set, Ok, Err}
use Rattle.rx_tree.specs.Object.{Object, Contents}
use Rattle.rx_heap.specs.Objects.{IsObject, contents_of, object_at, contents_at, most_objects, with_contents, with_contents_of}
use Rattle.rx_native.specs.declared.answer.NativeAnswer.{NativeAnswer}
use Rattle.rx_native.specs.Outcomes.{makes, next_number, resources_exhausted, with_object}

-- ---- the last of a list

pub slice_get-last : {X : Type 0} (xs : List X) (x : X) → slice_get (xs ++ x ∷ []) (length xs) ≡ Some x
slice_get-last [] x = refl
slice_get-last (y ∷ xs) x = slice_get-last xs x

pub slice_set-last : {X : Type 0} (xs : List X) (x y : X) → slice_set (xs ++ x ∷ []) (length xs) y ≡ xs ++ y ∷ []
slice_set-last [] x y = refl
slice_set-last {X} (z ∷ xs) x y = ap (λ (ys : List X). z ∷ ys) (slice_set-last xs x y)

-- ---- the object that was made

abbrev pub object_of : ℕ → Contents → Object
object_of class contents = record { class = class; contents = contents }

pub made-object : (objects : List Object) (class : ℕ) (contents : Contents)
    → object_at (with_object objects class contents) (length objects + 1) ≡ Some (object_of class contents)
made-object objects class contents = rw add-one (slice_get-last objects (object_of class contents))

pub made-there : (objects : List Object) (class : ℕ) (contents : Contents) → IsObject (with_object objects class contents) (length objects + 1)
made-there objects class contents = (omega arith, omega (arith, length-append objects (object_of class contents ∷ [])))

pub made-contents : (objects : List Object) (class : ℕ) (contents : Contents) → contents_at (with_object objects class contents) (length objects + 1) ≡ contents
made-contents objects class contents = ap contents_of (made-object objects class contents)

-- once it holds something else
pub made-with : (objects : List Object) (class : ℕ) (contents further : Contents)
    → with_contents (with_object objects class contents) (length objects + 1) further ≡ with_object objects class further
made-with objects class contents further =
    ap (with_contents_of (with_object objects class contents) (length objects + 1) further) (made-object objects class contents)
    ∙ (ap (λ (place : ℕ). slice_set (with_object objects class contents) place (object_of class further)) (omega arith)
    ∙ slice_set-last objects (object_of class contents) (object_of class further))

-- the same of a heap that is so
pub made-over : (objects heap : List Object) (class number : ℕ) (contents further : Contents) → heap ≡ with_object objects class contents
    → number ≡ length objects + 1 → with_contents heap number further ≡ with_object objects class further
made-over objects heap class number contents further is at =
    ap (λ (h : List Object). with_contents h number further) is
    ∙ (ap (λ (n : ℕ). with_contents (with_object objects class contents) n further) at ∙ made-with objects class contents further)

-- ---- what making it comes to

pub makes-ok : (objects after : List Object) (class number : ℕ) (contents : Contents) (answer : ℕ → NativeAnswer) → (length objects == most_objects) ≡ false
    → number ≡ length objects + 1 → after ≡ with_object objects class contents → makes objects class contents answer ≡ Ok (answer number, after)
makes-ok objects after class number contents answer room is made =
    ap (λ (full : Bool). if full then Err resources_exhausted else Ok (answer (next_number objects), with_object objects class contents)) room
    ∙ (ap (λ (n : ℕ). Ok (answer n, with_object objects class contents)) (sym is) ∙ ap (λ (os : List Object). Ok (answer number, os)) (sym made))

pub makes-full : (objects : List Object) (class number : ℕ) (contents : Contents) (answer : ℕ → NativeAnswer) → (length objects == most_objects) ≡ true
    → number ≡ resources_exhausted → makes objects class contents answer ≡ Err number
makes-full objects class number contents answer full is =
    ap (λ (b : Bool). if b then Err resources_exhausted else Ok (answer (next_number objects), with_object objects class contents)) full
    ∙ ap (λ (n : ℕ). Err n) (sym is)
