-- The first state of a run.
use Rattle.std.proofs.Common.{◌≡◌, ℕ, zero, suc, ◌+◌, ◌-◌, ◌<◌, false, List, [], ◌∷◌, length, Option, None, Some, refl, sym, ◌∙◌, ap, subst, arith}
use Rattle.std.specs.Prelude.{Contains, replicate, slice_get}
use Rattle.std.proofs.lemmas.List.{get_or-replicate, length-replicate}
use Rattle.std.proofs.lemmas.Option.{slice_get-get_or}
use Rattle.rx_tree.specs.Object.{Object}
use Rattle.rx_tree.specs.declared.activity.FrameKind.TheVariants.{Main}
use Rattle.rx_tree.specs.declared.class.ClassDef.{ClassDef}
use Rattle.rx_tree.specs.declared.note.Note.{Note}
use Rattle.rx_clause_tree.specs.declared.package.Package.{Package}
use Rattle.rx_classes.specs.Natives.{array_class, class_class, directory_class, message_class, object_class, queue_class}
use Rattle.rx_classes.specs.Classes.{IsClass}
use Rattle.rx_classes.specs.Orders.{order}
use Rattle.rx_heap.specs.declared.kind.Kind.{Kind}
use Rattle.rx_heap.specs.declared.kind.Kind.TheVariants as k
use Rattle.rx_heap.specs.Objects.{IsObject, class_of, contents_of, first_objects, kind_by, new_object, object_at}
use Rattle.rx_pools.specs.Pools.{Pools, no_pools}
use Rattle.rx_native.specs.Fitting.{Fits, FitsObject}
use Rattle.rx_frames.specs.declared.activity.Wait.TheVariants as wait
use Rattle.rx_frames.specs.declared.position.Position.{Position}
use Rattle.rx_frames.specs.Frames.{beginning, frame_with}
use Rattle.rx_frames.specs.Activities.{Activity, waiting}
use Rattle.rx_machine.specs.Opening.{main_arguments, main_frame, opening}
use Rattle.rx_machine.specs.Todo.{Todo}
use Rattle.rx_machine.specs.World.{World, NoValue}
use Rattle.rx_kernel.specs.Readings.{CodesFit, reading}
use Rattle.rx_kernel.specs.Views.{activities_view}
use Rattle.rx_kernel.proofs.ReadingLemmas.{reading-is}

-- ---- frames

-- one activity, which runs the main program
abbrev pub first_of : Package → Option (List ℕ) → List (Activity Position)
first_of program arg = waiting wait.Nothing (frame_with beginning Main (length program.bodies) None (main_arguments arg) ∷ []) ∷ []

pub first-view : (program : Package) (arg : Option (List ℕ)) (stacks : List (Activity Position)) → stacks ≡ first_of program arg
    → activities_view (reading program) stacks ≡ waiting wait.Nothing (main_frame program arg ∷ []) ∷ []
first-view program arg stacks is =
    ap (activities_view (reading program)) is
    ∙ ap (λ (todo : Todo). waiting wait.Nothing (frame_with todo Main (length program.bodies) None (main_arguments arg) ∷ []) ∷ [])
    ((reading-is program).begins (length program.bodies))

pub first-codes : (program : Package) (arg : Option (List ℕ)) (stacks : List (Activity Position)) → stacks ≡ first_of program arg → CodesFit program stacks
first-codes program arg stacks is = subst (CodesFit program) (sym is) refl

-- ---- objects

only : (a n : ℕ) → (a ≡ n → ⊥) → Contains (a ∷ []) n → ⊥
only a n never (zero, within, is) = never is
only a n never (suc place, within, is) = omega (arith, within)

neither : (a b n : ℕ) → (a ≡ n → ⊥) → (b ≡ n → ⊥) → Contains (a ∷ b ∷ []) n → ⊥
neither a b n no-a no-b (zero, within, is) = no-a is
neither a b n no-a no-b (suc zero, within, is) = no-b is
neither a b n no-a no-b (suc (suc place), within, is) = omega (arith, within)

object-order : (classes : List ClassDef) (n : ℕ) → (2 ≡ n → ⊥) → Contains (order classes object_class) n → ⊥
object-order classes n never among = only 2 n never among

class-order : (classes : List ClassDef) (n : ℕ) → (3 ≡ n → ⊥) → (2 ≡ n → ⊥) → Contains (order classes class_class) n → ⊥
class-order classes n never other among = neither 3 2 n never other among

abbrev kind_if : Option Object → Kind
kind_if found = kind_by (contents_of found)

-- `.nil` fits
nil-fits : (classes : List ClassDef) (objects : List Object) (number : ℕ) → object_at objects number ≡ Some (new_object object_class k.Plain)
    → FitsObject classes objects number
nil-fits classes objects number at =
    let class : class_of (object_at objects number) ≡ object_class = ap class_of at in
    let not-in : (n : ℕ) → (2 ≡ n → ⊥) → Contains (order classes (class_of (object_at objects number))) n → ⊥ =
    λ n never among. object-order classes n never (subst (λ (c : ℕ). Contains (order classes c) n) class among) in
    record {
      known = subst (IsClass classes) (sym class) (omega arith, omega arith);
      class_object = λ is. let never : k.Plain ≡ k.ClassObject = sym (ap kind_if at) ∙ is in cc;
      of_class = λ among. absurd (not-in class_class (λ is. omega (arith, is)) among);
      of_array = λ among. absurd (not-in array_class (λ is. omega (arith, is)) among);
      of_queue = λ among. absurd (not-in queue_class (λ is. omega (arith, is)) among);
      of_directory = λ among. absurd (not-in directory_class (λ is. omega (arith, is)) among);
    }

-- a class fits that is one of these
class-fits : (classes : List ClassDef) (objects : List Object) (number : ℕ) → object_at objects number ≡ Some (new_object class_class k.ClassObject)
    → IsClass classes number → FitsObject classes objects number
class-fits classes objects number at one =
    let class : class_of (object_at objects number) ≡ class_class = ap class_of at in
    let not-in : (n : ℕ) → (3 ≡ n → ⊥) → (2 ≡ n → ⊥) → Contains (order classes (class_of (object_at objects number))) n → ⊥ =
    λ n never other among. class-order classes n never other (subst (λ (c : ℕ). Contains (order classes c) n) class among) in
    record {
      known = subst (IsClass classes) (sym class) (omega arith, omega arith);
      class_object = λ is. one;
      of_class = λ among. ap kind_if at;
      of_array = λ among. absurd (not-in array_class (λ is. omega (arith, is)) (λ is. omega (arith, is)) among);
      of_queue = λ among. absurd (not-in queue_class (λ is. omega (arith, is)) (λ is. omega (arith, is)) among);
      of_directory = λ among. absurd (not-in directory_class (λ is. omega (arith, is)) (λ is. omega (arith, is)) among);
    }

replicated : {A : Type 0} (n i : ℕ) (x : A) → i < n → slice_get (replicate n x) i ≡ Some x
replicated n i x within =
    slice_get-get_or (replicate n x) i x (omega (arith, within, length-replicate n x)) ∙ ap Some (get_or-replicate n i x x within)

-- the first objects and the classes fit
fits-at : (classes : List ClassDef) (number : ℕ) → IsObject (first_objects (message_class + length classes)) number
    → FitsObject classes (first_objects (message_class + length classes)) number
fits-at classes zero there = absurd (omega (arith, there.0))
fits-at classes (suc zero) there = nil-fits classes (first_objects (message_class + length classes)) 1 refl
fits-at classes (suc (suc place)) there =
    let within : place < message_class + length classes - 1 = omega (arith, there.1, length-replicate (message_class + length classes - 1) (new_object class_class k.ClassObject)) in
    class-fits classes (first_objects (message_class + length classes)) (suc (suc place))
    (replicated (message_class + length classes - 1) place (new_object class_class k.ClassObject) within) (omega arith, omega (arith, within))

pub fits-first : (classes : List ClassDef) (objects : List Object) → objects ≡ first_objects (message_class + length classes) → Fits classes objects
fits-first classes objects is = subst (Fits classes) (sym is) (fits-at classes)

-- ---- the world

abbrev first_world : Package → Option (List ℕ) → ℕ → List (Activity Todo) → List Object → Pools → List (List ℕ) → List (List ℕ) → List ℕ → List Note → World
first_world program arg budget activities objects pools queue rest output notes = record {
  program = program;
  arg = arg;
  budget = budget;
  activities = activities;
  objects = objects;
  pools = pools;
  queue = queue;
  rest = rest;
  ended = false;
  output = output;
  notes = notes;
  steps = 0;
  main = NoValue;
}

pub opens : (program : Package) (arg : Option (List ℕ)) (budget : ℕ) (stacks : List (Activity Position)) (objects : List Object) (pools : Pools)
    (queue rest : List (List ℕ)) (output : List ℕ) (notes : List Note) → stacks ≡ first_of program arg
    → objects ≡ first_objects (message_class + length program.classes) → pools ≡ no_pools → queue ≡ [] → rest ≡ [] → output ≡ [] → notes ≡ []
    → first_world program arg budget (activities_view (reading program) stacks) objects pools queue rest output notes ≡ opening program arg [] false budget
opens program arg budget stacks objects pools queue rest output notes stacks_are objects_are pools_are queue_is rest_is output_is notes_are =
    let activities : List (Activity Todo) = waiting wait.Nothing (main_frame program arg ∷ []) ∷ [] in
    let first : List Object = first_objects (message_class + length program.classes) in
    ap (λ (xs : List (Activity Todo)). first_world program arg budget xs objects pools queue rest output notes) (first-view program arg stacks stacks_are)
    ∙ ap (λ (xs : List Object). first_world program arg budget activities xs pools queue rest output notes) objects_are
    ∙ ap (λ (xs : Pools). first_world program arg budget activities first xs queue rest output notes) pools_are
    ∙ ap (λ (xs : List (List ℕ)). first_world program arg budget activities first no_pools xs rest output notes) queue_is
    ∙ ap (λ (xs : List (List ℕ)). first_world program arg budget activities first no_pools [] xs output notes) rest_is
    ∙ ap (λ (xs : List ℕ). first_world program arg budget activities first no_pools [] [] xs notes) output_is
    ∙ ap (λ (xs : List Note). first_world program arg budget activities first no_pools [] [] [] xs) notes_are
